-- The paths on whose presence a condition rests.
use Rattle.std.specs.Prelude.{ℕ, Bool, cond, List, Option, Some}
use Rattle.history_model.specs.declared.Obs.{Obs}
use Rattle.history_model.specs.declared.definition.parts.PathState.{PathState}
use Rattle.history_model.specs.Demands.{is_same_path}
use Rattle.conditions.specs.declared.levels.State.{State}

-- the path, and whether it is to be there
abbrev pub wanted_of : State → PathState
wanted_of s = record { path = s.path; present = s.present }

-- what was seen there last
abbrev pub last_observation : State → Option Obs
last_observation s = s.last

-- after this was seen at this path
abbrev pub after_observation : List ℕ → Obs → State → State
after_observation path obs s = record s { last = cond (is_same_path s.path path) (Some obs) s.last }
