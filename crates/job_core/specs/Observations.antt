-- A list of paths, and what was last seen at each of them.
use Rattle.std.specs.Prelude.{ℕ, List, map, Option, None}
use Rattle.history_model.specs.declared.Obs.{Obs}

-- the paths, and in the same order their last observations
pub record Observations : Type 0 where
  pub paths : List (List ℕ)
  pub seen : List (Option Obs)

-- the paths, before anything was seen
abbrev pub unseen : List (List ℕ) → Observations
unseen paths = record { paths = paths; seen = map (λ _. None) paths }
