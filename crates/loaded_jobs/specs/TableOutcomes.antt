-- What an event gives, and the table that it leaves.
use Rattle.std.specs.Prelude.{◌≡◌, ℕ, List, [], None, Result, Ok, Err}
use Rattle.history_model.specs.declared.Refusal.{Refusal}
use Rattle.history_model.specs.declared.Refusal.TheVariants.{NoMemory}
use Rattle.history_model.specs.Machine.{State, Event}
use Rattle.std.specs.List.{filter_map, flat_map}
use Rattle.history_model.specs.Step.{Outcome, outcome, step, refused, stays, orders_of}
use Rattle.calendar_due.specs.ZoneRules.{minute_at}
use Rattle.loaded_jobs.specs.Tables.{Table}
use Rattle.loaded_jobs.specs.StandsFor.{KeepsJobs, KeepsSettings, KeepsState, acts_in}

-- an event that is not a question has no text
abbrev pub plain_outcome : Result (Unit {0}) Refusal → Table → Outcome
plain_outcome (Ok done) table = record { refusal = None; orders = acts_in table; text = [] }
plain_outcome (Err refusal) table = refused refusal

-- the answer is the machine's, for each state that the table represented
abbrev pub IsOutcome : Event → Table → Result (Unit {0}) Refusal → Table → Type 0
IsOutcome e old result new = (s : State) → KeepsState old s → outcome s e ≡ plain_outcome result new

-- the table stands for the machine's next state
abbrev pub IsNextTable : Event → Table → Table → Type 0
IsNextTable e old new = (s : State) → KeepsState old s → KeepsState new (step s e)

-- the table represents the states that it represented
abbrev pub IsSameFor : Table → Table → Type 0
IsSameFor old new = (s : State) → KeepsState old s → KeepsState new s

-- the table was asked: it stands for the state once each job of it has its order
pub record IsOrderedFrom (new : Table) (s : State) : Type 0 where
  pub reading : new.reading ≡ s.reading
  pub zone : minute_at new.zone ≡ s.zone
  pub settings : KeepsSettings new.settings s.settings
  pub shutdown : new.is_shutting_down ≡ s.is_shutting_down
  pub jobs : KeepsJobs s.reading new.rows (filter_map stays s.jobs)
  pub orders : acts_in new ≡ flat_map orders_of s.jobs

-- this holds, unless memory ran out
abbrev pub UnlessMemory : {A : Type 0} → Result A Refusal → Type 0 → Type 0
UnlessMemory (Ok a) P = P
UnlessMemory (Err NoMemory) P = Unit {0}
UnlessMemory (Err refusal) P = P

-- unless memory ran out, after which the table represents the states that it represented
abbrev pub IsNextTableUnless : {A : Type 0} → Result A Refusal → Event → Table → Table → Type 0
IsNextTableUnless (Ok a) e old new = IsNextTable e old new
IsNextTableUnless (Err NoMemory) e old new = IsSameFor old new
IsNextTableUnless (Err refusal) e old new = IsNextTable e old new

-- this holds of a refusal, unless memory ran out
abbrev pub Means : Refusal → Type 0 → Type 0
Means NoMemory P = Unit {0}
Means refusal P = P

-- the text answers the question, which changes nothing
abbrev pub IsReplyText : Event → Table → List ℕ → Type 0
IsReplyText e table text =
    (s : State) → KeepsState table s →
    (outcome s e ≡ record { refusal = None; orders = []; text = text }) × (step s e ≡ s)
