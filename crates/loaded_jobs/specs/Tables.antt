-- What a contract sees of a table of jobs, as plain data.
use Rattle.std.specs.Prelude.{◌≡◌, ℕ, ◌==◌, Bool, false, cond, List, [], ◌∷◌, map, Option, Some, None, is_some}
use Rattle.slab.specs.Slab.{Slab}
use Rattle.history_model.specs.declared.Reading.{Reading}
use Rattle.history_model.specs.declared.Order.{Order}
use Rattle.history_model.specs.declared.event.Setting.{Setting}
use Rattle.history_model.specs.Labels.{Label, is_same}
use Rattle.history_model.specs.Facts.{Facts}
use Rattle.history_model.specs.Described.{Described}
use Rattle.calendar_due.specs.declared.zone.Zone.{Zone}

-- a loaded job: its number, its definition, the facts of its past, and how often it was visited for
-- its order
pub record Row : Type 0 where
  pub number : ℕ
  pub described : Described
  pub facts : Facts
  pub decided : ℕ

-- a number and the definition that it stands for
pub record Name : Type 0 where
  pub number : ℕ
  pub described : Described

-- how many jobs, settings and triggers are held, and for how many of them, and of orders, there is
-- room
pub record Reserved : Type 0 where
  pub held_jobs : ℕ
  pub jobs : ℕ
  pub orders : ℕ
  pub held_settings : ℕ
  pub settings : ℕ
  pub moments : ℕ  -- job numbers below this one can have a moment, those below `places` a place
  pub marks : ℕ
  pub places : ℕ
  pub held_triggers : ℕ
  pub triggers : ℕ

pub record Table : Type 0 where
  pub reading : Reading
  pub zone : Zone
  pub settings : List Setting  -- in byte order of labels, each label once
  pub is_shutting_down : Bool
  pub rows : List Row  -- the loaded jobs
  pub gone : List Row  -- those that went at the last event
  pub orders : List Order  -- those that the last event gave
  pub visited : ℕ  -- how many jobs it visited
  pub names : List Name  -- of the loaded jobs, and of those that went at the last event
  pub numbers : Slab (Unit {0})  -- the numbers that are given out
  pub reserved : Reserved

-- the label that a number stands for
abbrev pub label_of : List Name → ℕ → Label
label_of [] number = []
label_of (name ∷ names) number =
    cond (name.number == number) name.described.label (label_of names number)

-- the labels that numbers stand for
abbrev pub labels_in : List Name → List Label
labels_in names = map (λ name. name.described.label) names

-- the definition that a number stands for, if it stands for one
abbrev pub definition_of_number : List Name → ℕ → Option Described
definition_of_number [] number = None
definition_of_number (name ∷ names) number =
    cond (name.number == number) (Some name.described) (definition_of_number names number)

-- the order is of a job that is loaded, or that went at this event
abbrev pub is_known : List Name → Order → Bool
is_known names order = is_some (definition_of_number names order.job)

-- no other job has this number or this label
abbrev pub IsOther : Name → List Name → Type 0
IsOther name [] = Unit {0}
IsOther name (other ∷ names) =
    (name.number == other.number ≡ false)
    × (is_same name.described.label other.described.label ≡ false) × IsOther name names

-- each number once, and each label once
abbrev pub IsOnce : List Name → Type 0
IsOnce [] = Unit {0}
IsOnce (name ∷ names) = IsOther name names × IsOnce names
