-- The jobs that a clock reading does not touch, and those that another event is not for.
use Rattle.std.specs.Prelude.{◌≡◌, Bool, true, false, Some, Ok}
use Rattle.history_model.specs.declared.Reading.{Reading}
use Rattle.history_model.specs.Items.{History}
use Rattle.history_model.specs.Clock.{definition_of}
use Rattle.history_model.specs.Moments.{touches}
use Rattle.history_model.specs.Labels.{Label, is_same}
use Rattle.history_model.specs.Machine.{State, Event, Load, UnloadJob, Set, OfJob, Observation, past_of}
use Rattle.history_model.specs.Step.{lists}
use Rattle.loaded_jobs.specs.Tables.{Table}
use Rattle.loaded_jobs.specs.StandsFor.{KeepsState}
use Rattle.loaded_jobs.specs.Counts.{counts, count_in}

-- the count of each loaded job that the clock reading does not touch stays
abbrev pub SparesUntouched : Reading → Table → Table → Type 0
SparesUntouched at old new =
    (s : State) → KeepsState old s → (label : Label) (past : History) →
    past_of s label ≡ Some past →
    touches s.zone at past ≡ false →
    count_in (counts new.rows) label ≡ count_in (counts old.rows) label

-- the event is for the job of this label, with this past
abbrev pub is_for_job : Event → Label → History → Bool
is_for_job (OfJob other item) label past = is_same label other
is_for_job (UnloadJob other writes_setting store) label past = is_same label other
is_for_job (Observation path obs) label past = lists (definition_of past) path
is_for_job (Load (Ok earlier) writes_setting force bind store) label past =
    is_same label earlier.label
is_for_job (Set other disabled store) label past = false
is_for_job _ label past = true

-- the count of each loaded job that the event is not for stays
abbrev pub SparesOthers : Event → Table → Table → Type 0
SparesOthers e old new =
    (s : State) → KeepsState old s → (label : Label) (past : History) →
    past_of s label ≡ Some past → is_for_job e label past ≡ false →
    count_in (counts new.rows) label ≡ count_in (counts old.rows) label
