-- After a look at a path each job that lists it saw it so last, until the next look at it or the next load.
use Rattle.std.proofs.Common.{◌≡◌, ℕ, ◌+◌, Bool, true, false, not, ◌&&◌, cond, Option, Some, None, is_some, List, [], ◌∷◌, refl, sym, ap, ◌∙◌, arith}
use Rattle.std.specs.Prelude.{unwrap_or}
use Rattle.std.specs.List.{filter_map, cons_option, list_any, AllByRecursion}
use Rattle.history_model.specs.declared.Obs.{Obs}
use Rattle.history_model.specs.declared.Reading.{Reading}
use Rattle.history_model.specs.declared.Act.{Act}
use Rattle.history_model.specs.declared.Ask.TheVariants.{Unload, Shutdown}
use Rattle.history_model.specs.declared.Refusal.{Refusal}
use Rattle.history_model.specs.declared.Refusal.TheVariants.{BadRequest}
use Rattle.history_model.specs.Items.{Definition, Item, Read, Saw, Asked, Came, Left, Ordered, Answered, RunEnded, WaitRefused}
use Rattle.history_model.specs.Search.{is_same_text, or_else, latest}
use Rattle.history_model.specs.Clock.{definition_of, load_in, absent_load, LoadedAt}
use Rattle.history_model.specs.Runs.{is_gone}
use Rattle.history_model.specs.Due.{due}
use Rattle.history_model.specs.Demands.{obs_of, last_seen}
use Rattle.history_model.specs.Calendar.{calendar_fires}
use Rattle.history_model.specs.FactsOfPast.{ordered}
use Rattle.history_model.specs.Labels.{Label, is_label}
use Rattle.history_model.specs.Machine.{State, Job, Event, Unreadable, Load, UnloadJob, Set, ListJobs, PrintJob, ShutDown, Tick, Observation, OfJob, past_of, is_of}
use Rattle.history_model.specs.Acceptance.{is_received, refusal_at, refusal_in}
use Rattle.history_model.specs.Step.{with_item, received, received_one, lists, observation_of, taken, stays, step_by, step, run}
use Rattle.history_model.specs.RunCounts.{is_taken_as, count_taken}
use Rattle.history_model.specs.LeftOut.{HaveSeen, is_load, is_look_at}
use Rattle.history_model.proofs.BooleanLemmas.{and-right, or-false, not-false}
use Rattle.history_model.proofs.LawfulLemmas.{eqb-self}
use Rattle.history_model.proofs.StepLemmas.{all-map, refused-None}

no_sum : (n : ℕ) → 1 + n ≡ 0 → ⊥
no_sum n e = omega (arith, e)

no_more : (n : ℕ) → 0 + n ≡ 0 → n ≡ 0
no_more n e = omega (arith, e)

same-self : (text : List ℕ) → is_same_text text text ≡ true
same-self [] = refl
same-self (x ∷ text) = rw (eqb-self x, same-self text) refl

module _ (path : List ℕ) (obs : Obs) where
  abbrev Sees : Job → Type 0
  Sees job = lists (definition_of job.past) path ≡ true → last_seen path job.past ≡ Some obs

  -- an item that is not a look at the path
  sees-item : (x : Item) → load_in x ≡ None → obs_of path x ≡ None → (job : Job) → Sees job → Sees (with_item job (Some x))
  sees-item x no_load no_look job sees = λ listed. looks ∙ sees (ap (λ d. lists d path) (sym same) ∙ listed) where
    same : definition_of (x ∷ job.past) ≡ definition_of job.past
    same = ap (λ (o : Option LoadedAt). (unwrap_or (or_else o (latest load_in job.past)) absent_load).definition) no_load

    looks : last_seen path (x ∷ job.past) ≡ last_seen path job.past
    looks = ap (λ (o : Option Obs). or_else o (last_seen path job.past)) no_look

  sees-stays : (jobs : List Job) → AllByRecursion Sees jobs → AllByRecursion Sees (filter_map stays jobs)
  sees-stays [] all = tt
  sees-stays (job ∷ jobs) all = go (is_gone job.past) (sees-stays jobs all.1) where
    after : (o : Option Act) → Sees (record job { past = ordered o job.past })
    after None = all.0
    after (Some act) = sees-item (Ordered act) refl refl job all.0

    go : (g : Bool) → AllByRecursion Sees (filter_map stays jobs) → AllByRecursion Sees (cons_option (cond g None (Some (record job { past = ordered (due job.past) job.past }))) (filter_map stays jobs))
    go true rest = rest
    go false rest = (after (due job.past), rest)

  sees-received_one : (label : Label) (x : Item) → load_in x ≡ None → obs_of path x ≡ None → (jobs : List Job) → AllByRecursion Sees jobs → AllByRecursion Sees (received_one label x jobs)
  sees-received_one label x no_load no_look [] all = tt
  sees-received_one label x no_load no_look (job ∷ jobs) all = go (is_of label job) (sees-received_one label x no_load no_look jobs all.1) where
    go : (b : Bool) → AllByRecursion Sees (received_one label x jobs) → AllByRecursion Sees (cond b (with_item job (Some x) ∷ jobs) (job ∷ received_one label x jobs))
    go true rest = (sees-item x no_load no_look job all.0, all.1)
    go false rest = (all.0, rest)

  -- of the items of one job
  received-no_load : (x : Item) → is_received x ≡ true → load_in x ≡ None
  received-no_load (Asked ask) e = refl
  received-no_load (Came conn) e = refl
  received-no_load (Left conn) e = refl
  received-no_load (Answered answer) e = refl
  received-no_load (RunEnded run how) e = refl
  received-no_load (WaitRefused run) e = refl
  received-no_load _ e = cc

  received-no_look : (x : Item) → is_received x ≡ true → obs_of path x ≡ None
  received-no_look (Asked ask) e = refl
  received-no_look (Came conn) e = refl
  received-no_look (Left conn) e = refl
  received-no_look (Answered answer) e = refl
  received-no_look (RunEnded run how) e = refl
  received-no_look (WaitRefused run) e = refl
  received-no_look _ e = cc

  sees-taken : (s : State) (e : Event) → refusal_in s e ≡ None → is_load e ≡ false → is_look_at path e ≡ false → AllByRecursion Sees s.jobs → AllByRecursion Sees (taken s e).jobs
  sees-taken s Unreadable accepted no_load no_look all = all
  sees-taken s (Load given writes_setting force bind store) accepted no_load no_look all = cc
  sees-taken s (UnloadJob label writes_setting store) accepted no_load no_look all = sees-received_one label (Asked Unload) refl refl s.jobs all
  sees-taken s (Set label disabled store) accepted no_load no_look all = all
  sees-taken s ListJobs accepted no_load no_look all = all
  sees-taken s (PrintJob label) accepted no_load no_look all = all
  sees-taken s ShutDown accepted no_load no_look all =
      all-map Sees Sees (λ job. with_item job (Some (Asked Shutdown))) (λ job sees. sees-item (Asked Shutdown) refl refl job sees) s.jobs all
  sees-taken s (Tick at) accepted no_load no_look all =
      all-map Sees Sees (λ job. with_item job (Some (Read at (calendar_fires s.zone (definition_of job.past).calendar s.reading.wall at.wall))))
      (λ job sees. sees-item (Read at (calendar_fires s.zone (definition_of job.past).calendar s.reading.wall at.wall)) refl refl job sees) s.jobs all
  sees-taken s (Observation other seen) accepted no_load no_look all =
      all-map Sees Sees (λ job. with_item job (observation_of other (Saw other seen) job)) looks s.jobs all where
        looks : (job : Job) → Sees job → Sees (with_item job (observation_of other (Saw other seen) job))
        looks job sees = go (lists (definition_of job.past) other) where
          go : (v : Bool) → Sees (with_item job (cond v (Some (Saw other seen)) None))
          go true = sees-item (Saw other seen) refl (ap (λ b. cond b (Some seen) None) no_look) job sees
          go false = sees
  sees-taken s (OfJob label item) accepted no_load no_look all =
      let named = refused-None (not (is_label label && is_received item)) BadRequest (refusal_at (past_of s label) item) accepted in
      let allowed = and-right (is_label label) (is_received item) (not-false (is_label label && is_received item) named.0) in
      sees-received_one label item (received-no_load item allowed) (received-no_look item allowed) s.jobs all

  sees-step : (s : State) (e : Event) → is_taken_as is_load s e ≡ false → is_look_at path e ≡ false → AllByRecursion Sees s.jobs → AllByRecursion Sees (step s e).jobs
  sees-step s e no_load no_look all = go (refusal_in s e) refl no_load where
    go : (o : Option Refusal) → refusal_in s e ≡ o → (not (is_some o) && is_load e) ≡ false → AllByRecursion Sees (step_by o s e).jobs
    go (Some refusal) is none = all
    go None is none = sees-stays (taken s e).jobs (sees-taken s e is none no_look all)

  sees-run : (es : List Event) (s : State) → list_any (is_look_at path) es ≡ false → count_taken is_load es s ≡ 0 → AllByRecursion Sees s.jobs → AllByRecursion Sees (run es s).jobs
  sees-run [] s no_look no_load all = all
  sees-run (e ∷ es) s no_look no_load all =
      let both = or-false (is_look_at path e) (list_any (is_look_at path) es) no_look in
      go (sees-run es (step s e) both.1) (is_taken_as is_load s e) refl no_load both.0 where
        go : (count_taken is_load es (step s e) ≡ 0 → AllByRecursion Sees (step s e).jobs → AllByRecursion Sees (run es (step s e)).jobs) → (b : Bool) → is_taken_as is_load s e ≡ b → (cond b 1 0 + count_taken is_load es (step s e)) ≡ 0 → is_look_at path e ≡ false → AllByRecursion Sees (run es (step s e)).jobs
        go rest true is none here = absurd (no_sum (count_taken is_load es (step s e)) none)
        go rest false is none here = rest (no_more (count_taken is_load es (step s e)) none) (sees-step s e is here all)

  -- the look itself
  sees-look : (jobs : List Job) → AllByRecursion Sees (received (observation_of path (Saw path obs)) jobs)
  sees-look [] = tt
  sees-look (job ∷ jobs) = (go (lists (definition_of job.past) path) refl, sees-look jobs) where
    go : (v : Bool) → lists (definition_of job.past) path ≡ v → Sees (with_item job (cond v (Some (Saw path obs)) None))
    go true is = λ listed. ap (λ b. or_else (cond b (Some obs) None) (last_seen path job.past)) (same-self path)
    go false is = λ listed. let clash : false ≡ true = sym is ∙ listed in cc

  pub seen-still : (s : State) (after : List Event) → list_any (is_look_at path) after ≡ false → count_taken is_load after (step s (Observation path obs)) ≡ 0 → HaveSeen path obs (run after (step s (Observation path obs))).jobs
  seen-still s after no_look no_load =
      sees-run after (step s (Observation path obs)) no_look no_load (sees-stays (received (observation_of path (Saw path obs)) s.jobs) (sees-look s.jobs))
