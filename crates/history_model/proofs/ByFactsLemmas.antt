-- What the facts of a lawful past decide is what a search of the past decides.
use Rattle.std.proofs.Common.{◌≡◌, ℕ, ◌+◌, ◌*◌, Bool, true, false, not, cond, Option, Some, None, is_some, List, [], ◌∷◌, refl, sym, ap, ◌∙◌}
use Rattle.std.specs.List.{filter}
use Rattle.history_model.specs.declared.Ended.{Ended}
use Rattle.history_model.specs.declared.Act.TheVariants.{Spawn, Term, Kill, Close, Gone}
use Rattle.history_model.specs.declared.Ask.TheVariants.{Start, Stop, Unload, Shutdown, Kickstart}
use Rattle.history_model.specs.declared.Answer.TheVariants.{Spawned, SpawnRefused, Termed, Killed}
use Rattle.history_model.specs.Items.{Definition, Item, Loaded, Read, Saw, Asked, Came, Left, Ordered, Answered, RunEnded, WaitRefused, History}
use Rattle.history_model.specs.Search.{first}
use Rattle.history_model.specs.Clock.{now, definition_of}
use Rattle.history_model.specs.Runs.{runs, child, awaited}
use Rattle.history_model.specs.Kinds.{is_spawn_order, is_spawn_refusal, is_term_answer, is_kill_answer}
use Rattle.history_model.specs.Demands.{waiting, last_seen, carries}
use Rattle.history_model.specs.Levels.{last_end, crash_of, end_holds, presence_holds, queue_holds, level_holds}
use Rattle.history_model.specs.Due.{due_beside, due, may_kill, may_term, may_spawn, is_throttled}
use Rattle.history_model.specs.Refusals.{IsLawful, IsBehindLoad, refusal_of}
use Rattle.history_model.specs.Facts.{facts_of}
use Rattle.history_model.specs.ByFacts.{conn_of, facts_after}
use Rattle.history_model.specs.DueByFacts.{is_throttled_by, end_holds_by, level_by, may_spawn_by, may_kill_by, may_term_by, due_beside_by, due_by, refusal_by}
use Rattle.history_model.proofs.LawfulLemmas.{Answers-from, IsChild-from, due-rest}
use Rattle.history_model.proofs.RunsLemmas.{sound, child-present, spawned-awaited, refused-awaited}
use Rattle.history_model.proofs.FactsLemmas.{facts-Read, facts-WaitRefused, facts-Start, facts-Stop, facts-Unload, facts-Shutdown, facts-Kickstart, facts-Spawn, facts-Spawned, facts-SpawnRefused, facts-RunEnded, facts-Term, facts-Kill, facts-Termed, facts-Killed}
use Rattle.history_model.proofs.ClockLemmas.{any-within}
use Rattle.history_model.proofs.SeenLemmas.{any-seen}
use Rattle.history_model.proofs.ConnectionLemmas.{facts-Came, facts-Left, facts-Saw}
use Rattle.history_model.specs.declared.TheConstants.{SECOND}
use Rattle.history_model.specs.declared.Child.{Child}
use Rattle.history_model.specs.declared.LastEnd.{LastEnd}
use Rattle.history_model.specs.declared.definition.parts.PathState.{PathState}

pub refusal-by : (x : Item) (t : History) → refusal_of x t ≡ refusal_by x (now t) (facts_of t)
refusal-by (Asked Start) t = refl
refusal-by (Asked Stop) t = refl
refusal-by (Asked Unload) t = refl
refusal-by (Asked Shutdown) t = refl
refusal-by (Asked (Kickstart kills_first)) t = refl
refusal-by _ t = refl

end-holds-by : (d : Definition) (t : History) (o : Option LastEnd) → end_holds d t o ≡ end_holds_by d (crash_of t o) o
end-holds-by d t None = refl
end-holds-by d t (Some end) = refl

pub level-by : (t : History) → level_holds t ≡ level_by (facts_of t)
level-by t =
    rw (
      end-holds-by (definition_of t) t (last_end t),
      any-seen (λ (state : PathState). presence_holds state.present) (λ state. last_seen state.path t) (definition_of t).path_state,
      any-seen (λ (path : List ℕ). queue_holds) (λ path. last_seen path t) (definition_of t).queue_directories,
    ) refl

pub throttled-by : (t : History) → IsLawful t → is_throttled t ≡ is_throttled_by (facts_of t) (now t).up
throttled-by t lawful =
    rw (any-within (SECOND * (definition_of t).throttle_interval) (now t).up is_spawn_order t lawful, any-within SECOND (now t).up is_spawn_refusal t lawful) refl

pub due-by : (t : History) → IsLawful t → due t ≡ due_by (facts_of t) (now t).up
due-by t lawful = go (child t) refl where
  go : (c : Option Child) → child t ≡ c → cond (is_some (awaited t)) None (due_beside c t) ≡ cond (is_some (awaited t)) None (due_beside_by c (facts_of t) (now t).up)
  go None e = λ i. cond (is_some (awaited t)) None (cond (may i) (Some (Spawn (runs t + 1) (first (waiting t)))) None) where
    may : may_spawn t ≡ may_spawn_by (facts_of t) (now t).up
    may = rw (level-by t, throttled-by t lawful) refl
  go (Some c) e = λ i. cond (is_some (awaited t)) None (cond (may_k i) (Some (Kill c.run)) (cond (may_t i) (Some (Term c.run)) None)) where
    number : c.run ≡ runs t
    number = (child-present t c (sound t lawful).0 e).0

    may_k : may_kill c.run t ≡ may_kill_by (facts_of t) (now t).up
    may_k = rw (number, any-within SECOND (now t).up (is_kill_answer false (runs t)) t lawful) refl

    may_t : may_term c.run t ≡ may_term_by (facts_of t) (now t).up
    may_t = rw (number, any-within SECOND (now t).up (is_term_answer false (runs t)) t lawful) refl

no_past : (t : History) → t ≡ [] → IsBehindLoad t → ⊥
no_past [] e loaded = loaded
no_past (x ∷ t) e loaded = cc

pub facts-after : (x : Item) (t : History) → IsLawful (x ∷ t) → IsBehindLoad t → facts_of (x ∷ t) ≡ facts_after x (now t).up (facts_of t)
facts-after (Read at calendar) t lawful loaded = facts-Read t at calendar
facts-after (Asked Start) t lawful loaded = facts-Start t
facts-after (Asked Stop) t lawful loaded = facts-Stop t
facts-after (Asked Unload) t lawful loaded = facts-Unload t
facts-after (Asked Shutdown) t lawful loaded = facts-Shutdown t
facts-after (Asked (Kickstart kills_first)) t lawful loaded = facts-Kickstart t kills_first
facts-after (Ordered (Spawn run conn)) t lawful loaded = facts-Spawn t lawful.1 run conn lawful.0.1
facts-after (Ordered (Term run)) t lawful loaded = facts-Term t lawful.1 run lawful.0.1
facts-after (Ordered (Kill run)) t lawful loaded = facts-Kill t lawful.1 run lawful.0.1
facts-after (Ordered (Close conn)) t lawful loaded = absurd (due-rest t (Close conn) lawful.0.1 (λ r c h. cc) (λ r h. cc) (λ r h. cc))
facts-after (Ordered Gone) t lawful loaded = absurd (due-rest t Gone lawful.0.1 (λ r c h. cc) (λ r h. cc) (λ r h. cc))
facts-after (Answered (Spawned run pid)) t lawful loaded =
    let fact = Answers-from t (Spawned run pid) lawful.0.1 in
    let order = spawned-awaited t run pid fact in
    facts-Spawned t lawful.1 run pid order.0 order.1 fact
    ∙ ap (λ o. record (facts_of t) {
      living_child = Some (record { run = run; pid = pid });
      awaited_act = None;
      has_demand = (facts_of t).has_new_demand;
      demand = (facts_of t).new_demand;
      spawned_before = true;
      queue = filter (λ c. not (carries c (conn_of o))) (facts_of t).queue;
    }) (sym order.1)
facts-after (Answered (SpawnRefused run)) t lawful loaded =
    let fact = Answers-from t (SpawnRefused run) lawful.0.1 in
    let order = refused-awaited t run fact in
    facts-SpawnRefused t lawful.1 run order.0 order.1 fact
facts-after (Answered (Termed run ok)) t lawful loaded = facts-Termed t lawful.1 run ok (Answers-from t (Termed run ok) lawful.0.1)
facts-after (Answered (Killed run ok)) t lawful loaded = facts-Killed t lawful.1 run ok (Answers-from t (Killed run ok) lawful.0.1)
facts-after (RunEnded run how) t lawful loaded = facts-RunEnded t lawful.1 run how (IsChild-from t run lawful.0.1)
facts-after (WaitRefused run) t lawful loaded = facts-WaitRefused t run
facts-after (Loaded d at) t lawful loaded = absurd (no_past t lawful.0.0 loaded)
facts-after (Saw path obs) t lawful loaded = facts-Saw t path obs (now t).up
facts-after (Came conn) t lawful loaded = facts-Came t lawful.1 conn lawful.0.1 (now t).up
facts-after (Left conn) t lawful loaded = facts-Left t conn (now t).up
