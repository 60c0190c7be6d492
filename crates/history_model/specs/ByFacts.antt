-- No definition but a tie: the facts of a past with one more item, computed from the facts before it. On every lawful past they
-- are those of specs/Facts, which searches the past (proofs/ByFactsLemmas). Of public clauses only `step` of
-- `conditions::Conditions::saw` cites it (`seen_after`), together with `past`, which speaks of the past.
use Rattle.std.specs.Prelude.{◌≡◌, OnOk, Result, ℕ, ◌==◌, Bool, true, false, not, ◌&&◌, ◌||◌, cond, List, [], ◌∷◌, ◌++◌, Option, Some, None, if◌then◌else◌}
use Rattle.std.specs.List.{filter}
use Rattle.history_model.specs.declared.Reading.{Reading}
use Rattle.history_model.specs.declared.Obs.{Obs}
use Rattle.history_model.specs.declared.Act.{Act}
use Rattle.history_model.specs.declared.reasons.DemandKind.{DemandKind}
use Rattle.history_model.specs.declared.reasons.DemandKind.TheVariants as kinds
use Rattle.history_model.specs.declared.Act.TheVariants.{Spawn, Term, Kill, Close, Gone}
use Rattle.history_model.specs.declared.Ask.TheVariants.{Start, Stop, Unload, Shutdown, Kickstart}
use Rattle.history_model.specs.declared.Answer.TheVariants.{Spawned, SpawnRefused, Termed, Killed}
use Rattle.history_model.specs.declared.Refusal.{Refusal}
use Rattle.history_model.specs.Items.{Item, Loaded, Read, Saw, Asked, Came, Left, Ordered, Answered, RunEnded, WaitRefused}
use Rattle.history_model.specs.Search.{or_else}
use Rattle.history_model.specs.Clock.{crosses_interval}
use Rattle.history_model.specs.Runs.{settles}
use Rattle.history_model.specs.Demands.{is_same_path, differs, carries}
use Rattle.history_model.specs.Levels.{is_crash_end}
use Rattle.history_model.specs.Facts.{Facts}
use Rattle.history_model.specs.FactsOfPast.{reply}
use Rattle.history_model.specs.DueByFacts.{is_busy_by, any_seen, refusal_by}

-- what is still awaited after an item that is not an order
abbrev pub settle : Item → Option Act → Option Act
settle x None = None
settle x (Some act) = cond (settles x act) None (Some act)

-- the connection that a spawn carries
abbrev pub conn_of : Option Act → Option ℕ
conn_of (Some (Spawn run conn)) = conn
conn_of _ = None

-- what was seen last of each path, after one more observation
abbrev pub seen_after : {A : Type 0} → (A → List ℕ) → List A → List ℕ → Obs → List (Option Obs) →
    List (Option Obs)
seen_after path_in [] path obs seen = []
seen_after path_in (x ∷ xs) path obs [] = []
seen_after path_in (x ∷ xs) path obs (before ∷ seen) =
    or_else (cond (is_same_path (path_in x) path) (Some obs) None) before
    ∷ seen_after path_in xs path obs seen

-- `watch_fires`
abbrev pub watch_fires_by : List ℕ → Obs → Facts → Bool
watch_fires_by path obs f =
    any_seen (λ watched before. is_same_path watched path && differs obs before)
    f.definition.watch_paths f.seen_watched

-- the facts after a demand of this kind, if there is one
abbrev pub fired_by : Bool → DemandKind → Facts → Facts
fired_by fires kind f =
    record f {
      has_demand = fires || f.has_demand;
      has_new_demand = fires || f.has_new_demand;
      demand = cond fires (Some kind) f.demand;
      new_demand = cond fires (Some kind) f.new_demand;
    }

-- `facts_of` the past with one more item, at the present milliseconds
abbrev pub facts_after : Item → ℕ → Facts → Facts
facts_after (Read at calendar) up f =
    fired_by (calendar || crosses_interval f.definition.start_interval f.load_up up at.up)
    (cond calendar kinds.Calendar kinds.Interval) f
facts_after (Asked Start) up f = fired_by (not (is_busy_by f) || f.is_stopping) kinds.Start f
facts_after (Asked Stop) up f = record f { is_stopping = is_busy_by f }
facts_after (Asked Unload) up f = record f { is_stopping = is_busy_by f; is_removing = true }
facts_after (Asked Shutdown) up f = record f { is_stopping = is_busy_by f; is_removing = true }
facts_after (Asked (Kickstart kills_first)) up f =
    record (fired_by (kills_first || (not (is_busy_by f) || f.is_stopping)) kinds.Kickstart f)
    { is_struck = is_busy_by f && kills_first || f.is_struck }
facts_after (Ordered (Spawn run conn)) up f = record f {
  run_count = run;
  awaited_act = Some (Spawn run conn);
  has_new_demand = false;
  new_demand = None;
  spawn_ordered = Some up;
  term_ordered = None;
  term_refused = None;
  kill_refused = None;
  is_term_done = false;
  is_kill_done = false;
  is_ordered_to_end = false;
  is_stopping = false;
  is_struck = false;
}
facts_after (Ordered (Term run)) up f =
    record f {
      awaited_act = Some (Term run);
      term_ordered = or_else f.term_ordered (Some up);
      is_ordered_to_end = true;
    }
facts_after (Ordered (Kill run)) up f =
    record f { awaited_act = Some (Kill run); is_ordered_to_end = true }
facts_after (Ordered (Close conn)) up f = f
facts_after (Ordered Gone) up f = f
facts_after (Answered (Spawned run pid)) up f = record f {
  living_child = Some (record { run = run; pid = pid });
  awaited_act = None;
  has_demand = f.has_new_demand;
  demand = f.new_demand;
  spawned_before = true;
  queue = filter (λ c. not (carries c (conn_of f.awaited_act))) f.queue;
}
facts_after (Answered (SpawnRefused run)) up f =
    record f { awaited_act = None; spawn_refused = Some up; is_stopping = false; is_struck = false }
facts_after (Answered (Termed run ok)) up f =
    record f {
      awaited_act = None;
      is_term_done = ok || f.is_term_done;
      term_refused = if ok then f.term_refused else Some up;
    }
facts_after (Answered (Killed run ok)) up f =
    record f {
      awaited_act = None;
      is_kill_done = ok || f.is_kill_done;
      kill_refused = if ok then f.kill_refused else Some up;
    }
facts_after (RunEnded run how) up f = record f {
  living_child = None;
  awaited_act = settle (RunEnded run how) f.awaited_act;
  ended = Some (record { run = run; how = how });
  has_crashed = is_crash_end f.is_ordered_to_end how;
  is_stopping = false;
  is_struck = false;
}
facts_after (WaitRefused run) up f = f
facts_after (Loaded d at) up f = f
facts_after (Saw path obs) up f =
    record (fired_by (watch_fires_by path obs f) kinds.Path f) {
      seen_watched = seen_after (λ p. p) f.definition.watch_paths path obs f.seen_watched;
      seen_states = seen_after (λ state. state.path) f.definition.path_state path obs f.seen_states;
      seen_queues = seen_after (λ p. p) f.definition.queue_directories path obs f.seen_queues;
    }
facts_after (Came conn) up f = record f { queue = f.queue ++ conn ∷ []; last_number = Some conn }
facts_after (Left conn) up f = record f { queue = filter (λ c. not (conn == c)) f.queue }

-- the facts after an order, if one is given
abbrev pub facts_after_order : Option Act → ℕ → Facts → Facts
facts_after_order None up f = f
facts_after_order (Some act) up f = facts_after (Ordered act) up f

-- the item is taken in, or refused, as the facts say
pub record Follows (old : Facts) (item : Item) (now : Reading) (result : Result (Unit {0}) Refusal)
    (new : Facts) : Type 0 where
  pub refused : result ≡ reply (refusal_by item now old)
  pub taken : OnOk result (new ≡ facts_after item now.up old)
