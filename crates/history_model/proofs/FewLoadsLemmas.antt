-- Each label is loaded once at most.
use Rattle.std.proofs.Common.{◌≡◌, suc, ◌≤◌, Bool, true, false, cond, Option, Some, None, List, [], ◌∷◌, refl, ap, length, arith}
use Rattle.std.specs.Prelude.{Ok, Err}
use Rattle.std.specs.List.{filter, filter_map, cons_option}
use Rattle.history_model.specs.declared.Refusal.{Refusal}
use Rattle.history_model.specs.Items.{Item}
use Rattle.history_model.specs.Runs.{is_gone}
use Rattle.history_model.specs.Due.{due}
use Rattle.history_model.specs.FactsOfPast.{ordered}
use Rattle.history_model.specs.Labels.{Label}
use Rattle.history_model.specs.Machine.{State, Job, Header, Event, Unreadable, Load, UnloadJob, Set, ListJobs, PrintJob, ShutDown, Tick, Observation, OfJob, is_of, opened}
use Rattle.history_model.specs.Acceptance.{refusal_in}
use Rattle.history_model.specs.Step.{with_item, received, received_one, taken, stays, with_orders, step_by, step, run}
use Rattle.history_model.specs.MachineLaws.{concerns, only}
use Rattle.history_model.proofs.OneLabelLemmas.{filter-stays, taken-only, taken-other, absent}

pub length-received : (item : Job → Option Item) (jobs : List Job) → length (received item jobs) ≡ length jobs
length-received item [] = refl
length-received item (job ∷ jobs) = ap (λ n. suc n) (length-received item jobs)

pub length-received_one : (label : Label) (x : Item) (jobs : List Job) → length (received_one label x jobs) ≡ length jobs
length-received_one label x [] = refl
length-received_one label x (job ∷ jobs) = go (length-received_one label x jobs) (is_of label job) where
  go : length (received_one label x jobs) ≡ length jobs → (b : Bool) → length (cond b (with_item job (Some x) ∷ jobs) (job ∷ received_one label x jobs)) ≡ suc (length jobs)
  go rest true = refl
  go rest false = ap (λ n. suc n) rest

pub length-stays : (jobs : List Job) → length (filter_map stays jobs) ≤ length jobs
length-stays [] = omega arith
length-stays (job ∷ jobs) = go (length-stays jobs) (is_gone job.past) where
  go : length (filter_map stays jobs) ≤ length jobs → (g : Bool) →
      length (cons_option (cond g None (Some (record job { past = ordered (due job.past) job.past }))) (filter_map stays jobs)) ≤ suc (length jobs)
  go rest true = omega (arith, rest)
  go rest false = omega (arith, rest)

abbrev pub IsFew : State → Type 0
IsFew s = (label : Label) → length (filter (is_of label) s.jobs) ≤ 1

-- what an accepted event adds leaves one job of the label
named-few : (l : Label) (s : State) (e : Event) → concerns l e ≡ true → refusal_in s e ≡ None → length (filter (is_of l) s.jobs) ≤ 1 → length (taken (only l s) e).jobs ≤ 1
named-few l s Unreadable named accepted few = cc
named-few l s (Load (Err fault) writes_setting force bind store) named accepted few = cc
named-few l s (Load (Ok given) writes_setting force bind store) named accepted few = rw (absent l s given writes_setting force bind store named accepted) (omega arith)
named-few l s (UnloadJob m writes_setting store) named accepted few = rw length-received_one few
named-few l s (Set m disabled store) named accepted few = few
named-few l s ListJobs named accepted few = cc
named-few l s (PrintJob m) named accepted few = few
named-few l s ShutDown named accepted few = rw length-received few
named-few l s (Tick at) named accepted few = rw length-received few
named-few l s (Observation path obs) named accepted few = rw length-received few
named-few l s (OfJob m item) named accepted few = rw length-received_one few

few-taken : (s : State) (e : Event) → refusal_in s e ≡ None → IsFew s → IsFew (taken s e)
few-taken s e accepted few l = go (concerns l e) refl where
  go : (b : Bool) → concerns l e ≡ b → length (filter (is_of l) (taken s e).jobs) ≤ 1
  go true named =
      let same : length (taken (only l s) e).jobs ≡ length (filter (is_of l) (taken s e).jobs) = ap (λ (t : State). length t.jobs) (taken-only l s e named accepted) in
      let one = named-few l s e named accepted (few l) in
      omega (arith, same, one)
  go false other =
      let same : length (filter (is_of l) (taken s e).jobs) ≡ length (filter (is_of l) s.jobs) = ap (λ (t : State). length t.jobs) (taken-other l s e other) in
      let one = few l in
      omega (arith, same, one)

few-with_orders : (s : State) → IsFew s → IsFew (with_orders s)
few-with_orders s few l =
    let same : length (filter (is_of l) (filter_map stays s.jobs)) ≡ length (filter_map stays (filter (is_of l) s.jobs)) = ap (λ (jobs : List Job). length jobs) (filter-stays l s.jobs) in
    let less = length-stays (filter (is_of l) s.jobs) in
    let one = few l in
    omega (arith, same, less, one)

pub few-step : (s : State) (e : Event) → IsFew s → IsFew (step s e)
few-step s e few = go (refusal_in s e) refl where
  go : (o : Option Refusal) → refusal_in s e ≡ o → IsFew (step_by o s e)
  go (Some r) is = few
  go None is = few-with_orders (taken s e) (few-taken s e is few)

pub few-run : (es : List Event) (s : State) → IsFew s → IsFew (run es s)
few-run [] s few = few
few-run (e ∷ es) s few = few-run es (step s e) (few-step s e few)

pub few-opened : (h : Header) → IsFew (opened h)
few-opened h l = omega arith
