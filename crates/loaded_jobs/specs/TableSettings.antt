-- The order of the settings: by bytes of labels, each label once.
use Rattle.std.specs.Prelude.{◌≡◌, ℕ, ◌<◌, ◌≤◌, true, List, map, length, Some, slice_get}
use Rattle.history_model.specs.declared.event.Setting.{Setting}
use Rattle.history_model.specs.Labels.{Label, is_before}
use Rattle.history_model.specs.MachineLaws.{AreInOrder}

-- each setting's label is before all that follow
abbrev pub AreSet : List Setting → Type 0
AreSet settings = AreInOrder (map (λ setting. setting.label) settings)

-- the place that a new setting of the label takes: after those before it, and before the others
pub record IsPlaceFor (label : Label) (settings : List Setting) (place : ℕ) : Type 0 where
  pub bound : place ≤ length settings
  pub before : (k : ℕ) (setting : Setting) → slice_get settings k ≡ Some setting → k < place →
      is_before setting.label label ≡ true
  pub behind : (k : ℕ) (setting : Setting) → slice_get settings k ≡ Some setting → place ≤ k →
      is_before label setting.label ≡ true
