-- How many settings the table holds, and for how much it has room.
use Rattle.std.specs.Prelude.{◌≡◌, ℕ, ◌+◌, List, length, Option, Some, None}
use Rattle.std.specs.List.{position}
use Rattle.history_model.specs.declared.event.Setting.{Setting}
use Rattle.history_model.specs.Labels.{Label}
use Rattle.history_model.specs.Machine.{sets}
use Rattle.loaded_jobs.specs.Tables.{Table}

-- one more, unless the new one takes the place of one
abbrev pub one_setting_more : Option ℕ → ℕ → ℕ
one_setting_more None held = held + 1
one_setting_more (Some place) held = held

-- how many settings are held once the label has its new one: one more, only if it had none
abbrev pub held_with : Label → List Setting → ℕ
held_with label settings = one_setting_more (position (sets label) settings) (length settings)

-- how many are held once the new one, if there is one, is made
abbrev pub held_after : Option Setting → List Setting → ℕ
held_after None settings = length settings
held_after (Some setting) settings = held_with setting.label settings

-- no memory was taken: the room for jobs, orders, settings, numbers, moments, marks, places and triggers is as before
pub record HasSameRoom (old new : Table) : Type 0 where
  pub jobs : new.reserved.jobs ≡ old.reserved.jobs
  pub orders : new.reserved.orders ≡ old.reserved.orders
  pub settings : new.reserved.settings ≡ old.reserved.settings
  pub numbers : new.numbers.capacity ≡ old.numbers.capacity
  pub moments : new.reserved.moments ≡ old.reserved.moments
  pub marks : new.reserved.marks ≡ old.reserved.marks
  pub places : new.reserved.places ≡ old.reserved.places
  pub triggers : new.reserved.triggers ≡ old.reserved.triggers
