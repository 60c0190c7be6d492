-- The slots of a table, and the rows that contracts see of them.
use Rattle.std.specs.Prelude.{◌≡◌, ℕ, ◌==◌, Bool, false, not, ◌&&◌, cond, List, [], ◌∷◌, length, unwrap_or, is_some}
use Rattle.std.specs.List.{position, insert}
use Rattle.history_model.specs.Labels.{Label, is_same, is_before}
use Rattle.loaded_jobs.specs.Tables.{Row, Name, definition_of_number}
use Rattle.loaded_jobs.specs.declared.job_slot.JobSlot.{JobSlot}

-- what a reader of the table sees of a slot
abbrev pub row : JobSlot → Row
row e =
    record { number = e.number; described = e.def; facts = e.core.facts; decided = e.core.decided }

-- the slot's number, and the definition that it stands for
abbrev pub name : JobSlot → Name
name e = record { number = e.number; described = e.def }

-- the jobs that are not gone
abbrev pub rows : List JobSlot → List Row
rows [] = []
rows (e ∷ es) = cond e.has_gone (rows es) (row e ∷ rows es)

-- the jobs that are gone
abbrev pub gone : List JobSlot → List Row
gone [] = []
gone (e ∷ es) = cond e.has_gone (row e ∷ gone es) (gone es)

-- the slot's number stands for a definition
abbrev pub is_named : List Name → JobSlot → Bool
is_named names e = is_some (definition_of_number names e.number)

-- no job is gone
abbrev pub AllStay : List JobSlot → Type 0
AllStay [] = Unit {0}
AllStay (e ∷ es) = (e.has_gone ≡ false) × AllStay es

-- the slot is that of the label
abbrev pub has_label : Label → JobSlot → Bool
has_label label e = is_same label e.def.label

-- the job is not gone
abbrev pub job_slot_stays : JobSlot → Bool
job_slot_stays e = not e.has_gone

-- the job with this number is gone
abbrev pub has_gone_under : ℕ → JobSlot → Bool
has_gone_under number e = e.has_gone && (e.number == number)

-- the slot's label comes after this one
abbrev pub is_above : Label → JobSlot → Bool
is_above label e = is_before label e.def.label

-- the place before the first slot with a greater label, or after the last
abbrev pub place_for : Label → List JobSlot → ℕ
place_for label es = unwrap_or (position (is_above label) es) (length es)

-- the slots with the new one at its place
abbrev pub job_slots_with : JobSlot → List JobSlot → List JobSlot
job_slots_with new es = insert es (place_for new.def.label es) new

-- the slot has this number
abbrev pub has_number : ℕ → JobSlot → Bool
has_number number e = e.number == number

-- the job has this label and is not gone
abbrev pub is_loaded_under : Label → JobSlot → Bool
is_loaded_under label e = not e.has_gone && has_label label e
