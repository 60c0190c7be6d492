-- The jobs are in byte order of labels.
use Rattle.std.proofs.Common.{◌≡◌, Bool, true, false, cond, Option, Some, None, List, [], ◌∷◌, refl, sym, ap, ◌∙◌}
use Rattle.std.specs.Prelude.{Ok, Err}
use Rattle.std.specs.List.{filter, filter_map, cons_option, AllByRecursion}
use Rattle.std.specs.Ordering.{nat_cmp, is_eq}
use Rattle.std.specs.Cmp.Lexicographic.{slice_cmp, nat_list_cmp_total, texts_ties}
use Rattle.std.specs.declared.cmp.Ordering.{Ordering}
use Rattle.std.specs.declared.cmp.Ordering.TheVariants.{Less, Equal, Greater}
use Rattle.history_model.specs.declared.Refusal.{Refusal}
use Rattle.history_model.specs.Items.{Item, Loaded, Read, Saw, Asked}
use Rattle.history_model.specs.declared.Ask.TheVariants.{Unload, Shutdown}
use Rattle.history_model.specs.Clock.{definition_of}
use Rattle.history_model.specs.Runs.{is_gone}
use Rattle.history_model.specs.Due.{due}
use Rattle.history_model.specs.FactsOfPast.{ordered}
use Rattle.history_model.specs.Calendar.{calendar_fires}
use Rattle.history_model.specs.Labels.{Label, is_same, is_less, is_before}
use Rattle.history_model.specs.Machine.{State, Job, Event, Unreadable, Load, UnloadJob, Set, ListJobs, PrintJob, ShutDown, Tick, Observation, OfJob, is_of}
use Rattle.history_model.specs.Acceptance.{refusal_in}
use Rattle.history_model.specs.Step.{with_item, received, received_one, with_job, observation_of, taken, stays, step_by, step, run}
use Rattle.history_model.specs.MachineLaws.{AreInOrder, labels_of}
use Rattle.history_model.proofs.OneLabelLemmas.{absent}
use Rattle.history_model.proofs.StepLemmas.{all-implied}
use Rattle.history_model.proofs.LawfulLemmas.{eqb-self}

-- ---- two labels

pub is_less-Less : (o : Ordering) → is_less o ≡ true → o ≡ Less
is_less-Less Less e = refl
is_less-Less Equal e = cc
is_less-Less Greater e = cc

pub before-trans : (a b c : Label) → is_before a b ≡ true → is_before b c ≡ true → is_before a c ≡ true
before-trans a b c ab bc = rw (nat_list_cmp_total.trans a b c (is_less-Less (slice_cmp nat_cmp a b) ab) (is_less-Less (slice_cmp nat_cmp b c) bc)) refl

reversed : (a b : Label) (o : Ordering) → slice_cmp nat_cmp a b ≡ o → is_less o ≡ false → is_eq o ≡ false → is_before b a ≡ true
reversed a b Less e later differ = cc
reversed a b Equal e later differ = cc
reversed a b Greater e later differ = rw (nat_list_cmp_total.antisymm b a, e) refl

-- of two labels that differ one is before the other
pub after : (a b : Label) → is_before a b ≡ false → is_same a b ≡ false → is_before b a ≡ true
after a b not_before differ = reversed a b (slice_cmp nat_cmp a b) refl not_before (sym (texts_ties a b) ∙ differ)

pub same_self : (a : Label) → is_same a a ≡ true
same_self [] = refl
same_self (x ∷ a) = rw (eqb-self x, same_self a) refl

-- ---- what keeps the order

pub received-labels : (item : Job → Option Item) (jobs : List Job) → labels_of (received item jobs) ≡ labels_of jobs
received-labels item [] = refl
received-labels item (job ∷ jobs) = go (item job) (received-labels item jobs) where
  go : (x : Option Item) → labels_of (received item jobs) ≡ labels_of jobs → (with_item job x).label ∷ labels_of (received item jobs) ≡ job.label ∷ labels_of jobs
  go None rest = ap (λ (l : List Label). job.label ∷ l) rest
  go (Some x) rest = ap (λ (l : List Label). job.label ∷ l) rest

pub received_one-labels : (m : Label) (x : Item) (jobs : List Job) → labels_of (received_one m x jobs) ≡ labels_of jobs
received_one-labels m x [] = refl
received_one-labels m x (job ∷ jobs) = go (is_of m job) (received_one-labels m x jobs) where
  go : (b : Bool) → labels_of (received_one m x jobs) ≡ labels_of jobs → labels_of (cond b (with_item job (Some x) ∷ jobs) (job ∷ received_one m x jobs)) ≡ job.label ∷ labels_of jobs
  go true rest = refl
  go false rest = ap (λ (l : List Label). job.label ∷ l) rest

pub all-stays : (P : Label → Type 0) (jobs : List Job) → AllByRecursion P (labels_of jobs) → AllByRecursion P (labels_of (filter_map stays jobs))
all-stays P [] all = tt
all-stays P (job ∷ jobs) all = go (is_gone job.past) (all-stays P jobs all.1) where
  go : (g : Bool) → AllByRecursion P (labels_of (filter_map stays jobs)) →
      AllByRecursion P (labels_of (cons_option (cond g None (Some (record job { past = ordered (due job.past) job.past }))) (filter_map stays jobs)))
  go true rest = rest
  go false rest = (all.0, rest)

stays-order : (jobs : List Job) → AreInOrder (labels_of jobs) → AreInOrder (labels_of (filter_map stays jobs))
stays-order [] order = tt
stays-order (job ∷ jobs) order = go (is_gone job.past) (stays-order jobs order.1) where
  go : (g : Bool) → AreInOrder (labels_of (filter_map stays jobs)) →
      AreInOrder (labels_of (cons_option (cond g None (Some (record job { past = ordered (due job.past) job.past }))) (filter_map stays jobs)))
  go true rest = rest
  go false rest = (all-stays (λ other. is_before job.label other ≡ true) jobs order.0, rest)

pub all-with : (P : Label → Type 0) (new : Job) → P new.label → (jobs : List Job) → AllByRecursion P (labels_of jobs) → AllByRecursion P (labels_of (with_job new jobs))
all-with P new holds [] all = (holds, tt)
all-with P new holds (job ∷ jobs) all = go (all-with P new holds jobs all.1) (is_before new.label job.label) where
  go : AllByRecursion P (labels_of (with_job new jobs)) → (v : Bool) → AllByRecursion P (labels_of (cond v (new ∷ job ∷ jobs) (job ∷ with_job new jobs)))
  go rest true = (holds, all)
  go rest false = (all.0, rest)

with-order : (new : Job) (jobs : List Job) → filter (is_of new.label) jobs ≡ [] → AreInOrder (labels_of jobs) → AreInOrder (labels_of (with_job new jobs))
with-order new [] none order = (tt, tt)
with-order new (job ∷ jobs) none order = other (λ empty. with-order new jobs empty order.1) (is_of new.label job) refl none where
  place : is_same new.label job.label ≡ false → AreInOrder (labels_of (with_job new jobs)) → (v : Bool) → is_before new.label job.label ≡ v → AreInOrder (labels_of (cond v (new ∷ job ∷ jobs) (job ∷ with_job new jobs)))
  place differ rest true e = ((e, all-implied (λ other. is_before job.label other ≡ true) (λ other. is_before new.label other ≡ true) (λ other later. before-trans new.label job.label other e later) (labels_of jobs) order.0), order)
  place differ rest false e = (all-with (λ other. is_before job.label other ≡ true) new (after new.label job.label e differ) jobs order.0, rest)

  other : (filter (is_of new.label) jobs ≡ [] → AreInOrder (labels_of (with_job new jobs))) → (b : Bool) → is_of new.label job ≡ b → cond b (job ∷ filter (is_of new.label) jobs) (filter (is_of new.label) jobs) ≡ [] → AreInOrder (labels_of (with_job new (job ∷ jobs)))
  other further true e empty = cc
  other further false e empty = place e (further empty) (is_before new.label job.label) refl

pub order-taken : (s : State) (e : Event) → refusal_in s e ≡ None → AreInOrder (labels_of s.jobs) → AreInOrder (labels_of (taken s e).jobs)
order-taken s Unreadable accepted order = order
order-taken s (Load (Err fault) writes_setting force bind store) accepted order = order
order-taken s (Load (Ok given) writes_setting force bind store) accepted order =
    with-order (record { label = given.label; past = Loaded given.definition s.reading ∷ [] }) s.jobs (absent given.label s given writes_setting force bind store (same_self given.label) accepted) order
order-taken s (UnloadJob m writes_setting store) accepted order = rw (received_one-labels m (Asked Unload) s.jobs) order
order-taken s (Set m disabled store) accepted order = order
order-taken s ListJobs accepted order = order
order-taken s (PrintJob m) accepted order = order
order-taken s ShutDown accepted order = rw (received-labels (λ job. Some (Asked Shutdown)) s.jobs) order
order-taken s (Tick at) accepted order = rw (received-labels (λ job. Some (Read at (calendar_fires s.zone (definition_of job.past).calendar s.reading.wall at.wall))) s.jobs) order
order-taken s (Observation path obs) accepted order = rw (received-labels (observation_of path (Saw path obs)) s.jobs) order
order-taken s (OfJob m item) accepted order = rw (received_one-labels m item s.jobs) order

order-step : (s : State) (e : Event) → AreInOrder (labels_of s.jobs) → AreInOrder (labels_of (step s e).jobs)
order-step s e order = go (refusal_in s e) refl where
  go : (o : Option Refusal) → refusal_in s e ≡ o → AreInOrder (labels_of (step_by o s e).jobs)
  go (Some r) is = order
  go None is = stays-order (taken s e).jobs (order-taken s e is order)

pub order-run : (es : List Event) (s : State) → AreInOrder (labels_of s.jobs) → AreInOrder (labels_of (run es s).jobs)
order-run [] s order = order
order-run (e ∷ es) s order = order-run es (step s e) (order-step s e order)
