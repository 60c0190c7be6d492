-- The last clock reading's milliseconds never fall.
use Rattle.std.proofs.Common.{◌≡◌, ◌≤◌, Option, Some, None, refl, arith}
use Rattle.std.specs.Prelude.{Ok, Err}
use Rattle.history_model.specs.declared.Refusal.{Refusal}
use Rattle.history_model.specs.declared.Refusal.TheVariants.{ClockRefused}
use Rattle.history_model.specs.Refusals.{is_clock_refused}
use Rattle.history_model.specs.Machine.{State, Event, Unreadable, Load, UnloadJob, Set, ListJobs, PrintJob, ShutDown, Tick, Observation, OfJob}
use Rattle.history_model.specs.Acceptance.{refusal_in}
use Rattle.history_model.specs.Step.{taken, step_by, step}
use Rattle.history_model.proofs.ClockLemmas.{Read-later}
use Rattle.history_model.proofs.StepLemmas.{refused-None}

taken-later : (s : State) (e : Event) → refusal_in s e ≡ None → s.reading.up ≤ (taken s e).reading.up
taken-later s Unreadable accepted = cc
taken-later s (Load (Err fault) writes_setting force bind store) accepted = omega arith
taken-later s (Load (Ok given) writes_setting force bind store) accepted = omega arith
taken-later s (UnloadJob label writes_setting store) accepted = omega arith
taken-later s (Set label disabled store) accepted = omega arith
taken-later s ListJobs accepted = omega arith
taken-later s (PrintJob label) accepted = omega arith
taken-later s ShutDown accepted = omega arith
taken-later s (Tick at) accepted = (Read-later s.reading at (refused-None (is_clock_refused s.reading at) ClockRefused None accepted).0).0
taken-later s (Observation path obs) accepted = omega arith
taken-later s (OfJob label item) accepted = omega arith

pub rising : (s : State) (e : Event) → s.reading.up ≤ (step s e).reading.up
rising s e = go (refusal_in s e) refl where
  go : (o : Option Refusal) → refusal_in s e ≡ o → s.reading.up ≤ (step_by o s e).reading.up
  go (Some refusal) is = omega arith
  go None is = taken-later s e is
