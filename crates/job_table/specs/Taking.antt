-- What the table does on an event of a journal, which has the outside's answers.
use Rattle.std.specs.Prelude.{◌≡◌, false, true, List, [], Some, None, Result, Ok, Err, OnOk}
use Rattle.std.specs.List.{AllByRecursion}
use Rattle.history_model.specs.declared.event.Event as journal
use Rattle.history_model.specs.declared.event.Event.TheVariants as journaled
use Rattle.history_model.specs.declared.Refusal.{Refusal}
use Rattle.history_model.specs.declared.Refusal.TheVariants.{NoMemory}
use Rattle.history_model.specs.JobItems.{item_of}
use Rattle.history_model.specs.Machine.{State, Event, UnloadJob, Set, ListJobs, PrintJob, ShutDown, Tick, Observation, OfJob}
use Rattle.history_model.specs.Step.{Outcome, outcome, step, refused}
use Rattle.job_core.specs.Memory.{NeedsNoMemory}
use Rattle.loaded_jobs.specs.Tables.{Table, definition_of_number}
use Rattle.loaded_jobs.specs.StandsFor.{KeepsState, acts_in}
use Rattle.loaded_jobs.specs.TableOutcomes.{IsSameFor}
use Rattle.loaded_jobs.specs.Numbers.{KeepsNames}
use Rattle.loaded_jobs.specs.Minutes.{has_calendars}
use Rattle.loaded_jobs.specs.Counts.{Counts}
use Rattle.loaded_jobs.specs.Room.{HasSameRoom}
use Rattle.loaded_jobs.specs.Touching.{SparesOthers, SparesUntouched}
use Rattle.job_table.specs.declared.take.Taken.{Taken}
use Rattle.job_table.specs.declared.take.Taken.TheVariants.{Made, Told}
use Rattle.job_table.specs.LoadOfBytes.{load_of_bytes}

-- the machine's event; a load's definition is what its text reads as
abbrev pub machine_event : journal.Event → Event
machine_event (journaled.Load def writes_setting force bind store) =
    load_of_bytes def writes_setting force bind store
machine_event (journaled.Unload job writes_setting store) = UnloadJob job writes_setting store
machine_event (journaled.Set job disabled store) = Set job disabled store
machine_event journaled.List = ListJobs
machine_event (journaled.Print job) = PrintJob job
machine_event journaled.Shutdown = ShutDown
machine_event (journaled.Clock at) = Tick at
machine_event (journaled.Saw path obs) = Observation path obs
machine_event (journaled.OfJob job item) = OfJob job (item_of item)

-- the outcome that an event had which was accepted: the orders of a step are those that the table
-- then lends, and a question orders nothing
abbrev pub outcome_of : Taken → Table → Outcome
outcome_of (Made text) table = record { refusal = None; orders = acts_in table; text = text }
outcome_of (Told text) table = record { refusal = None; orders = []; text = text }

-- for each state that the table kept: this is the machine's outcome, and the table keeps the next
abbrev pub Steps : Event → Table → Outcome → Table → Type 0
Steps e old had new =
    (s : State) → KeepsState old s → (outcome s e ≡ had) × KeepsState new (step s e)

-- so of what was answered. If memory ran out there was no step: the table keeps what it kept
abbrev pub Takes : Event → Table → Result Taken Refusal → Table → Type 0
Takes e old (Ok taken) new = Steps e old (outcome_of taken new) new
Takes e old (Err NoMemory) new = IsSameFor old new
Takes e old (Err refusal) new = Steps e old (refused refusal) new

-- after a load that was accepted each number that a loaded job had is still its own
abbrev pub KeepsNumbers : {A : Type 0} → Result A Refusal → Table → Table → Type 0
KeepsNumbers (Ok a) old new = AllByRecursion
    (λ row. definition_of_number new.names row.number ≡ Some row.described) old.rows
KeepsNumbers (Err refusal) old new = Unit {0}

-- A question changes nothing, and a load leaves each job its number. After any other event that was
-- accepted the names are those of the jobs that were loaded before it
abbrev pub NamesGoOn : journal.Event → Result Taken Refusal → Table → Table → Type 0
NamesGoOn (journaled.Load def writes_setting force bind store) result old new =
    KeepsNumbers result old new
NamesGoOn journaled.List result old new = new ≡ old
NamesGoOn (journaled.Print job) result old new = new ≡ old
NamesGoOn e result old new = KeepsNames result old new

-- Memory may be wanting for a load, for a setting, for a text, and for a clock reading if a loaded job has calendar entries; for
-- no other event
abbrev pub WantsMemory : journal.Event → Table → Result Taken Refusal → Type 0
WantsMemory (journaled.Load def writes_setting force bind store) table result = Unit {0}
WantsMemory (journaled.Unload job writes_setting store) table result =
    writes_setting ≡ false → NeedsNoMemory result
WantsMemory (journaled.Set job disabled store) table result = Unit {0}
WantsMemory journaled.List table result = Unit {0}
WantsMemory (journaled.Print job) table result = Unit {0}
WantsMemory (journaled.Clock at) table result =
    result ≡ Err NoMemory → has_calendars table.rows ≡ true
WantsMemory e table result = NeedsNoMemory result

-- An event that is not a question asks each job once or not at all, and none that it is not for. A clock reading asks none that
-- it does not touch. But for a load and a setting, no room of the table grows
abbrev pub Spares : journal.Event → Result Taken Refusal → Table → Table → Type 0
Spares (journaled.Clock at) result old new =
    Counts result old new × OnOk result (SparesUntouched at old new) × HasSameRoom old new
Spares (journaled.Saw path obs) result old new =
    Counts result old new × SparesOthers (Observation path obs) old new × HasSameRoom old new
Spares journaled.Shutdown result old new =
    Counts result old new × SparesOthers ShutDown old new × HasSameRoom old new
Spares (journaled.OfJob job item) result old new =
    Counts result old new × SparesOthers (OfJob job (item_of item)) old new × HasSameRoom old new
Spares (journaled.Unload job false store) result old new =
    Counts result old new × SparesOthers (UnloadJob job false store) old new × HasSameRoom old new
Spares (journaled.Unload job true store) result old new =
    Counts result old new × SparesOthers (UnloadJob job true store) old new
Spares (journaled.Set job disabled store) result old new =
    Counts result old new × SparesOthers (Set job disabled store) old new
Spares (journaled.Load def writes_setting force bind store) result old new =
    Counts result old new × SparesOthers (load_of_bytes def writes_setting force bind store) old new
Spares e result old new = Unit {0}
