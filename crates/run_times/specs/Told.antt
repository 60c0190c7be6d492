-- What must be known of a job to find its next run.
use Rattle.std.specs.Prelude.{◌≡◌, ℕ, ◌+◌, ◌*◌, nat_le, min, List, Option}
use Rattle.history_model.specs.declared.TheConstants.{SECOND, MAX_WALL}
use Rattle.history_model.specs.declared.Reading.{Reading}
use Rattle.history_model.specs.declared.Entry.{Entry}
use Rattle.history_model.specs.declared.reasons.Reasons.{Reasons}
use Rattle.history_model.specs.Items.{History}
use Rattle.history_model.specs.Clock as clock
use Rattle.history_model.specs.Moments.{HasPeriod}
use Rattle.history_model.specs.Reasons as why

-- the reasons, the `up` of the spawn, the entries and the clock reading are those of this past, and
-- a period of its interval is a second at least
pub record IsTold (reasons : Reasons) (spawns_from : Option ℕ) (entries : List Entry)
    (now : Reading) (past : History) : Type 0 where
  pub reasons_are : reasons ≡ why.reasons_of past
  pub moment : spawns_from ≡ why.spawns_from past
  pub calendar : entries ≡ (clock.definition_of past).calendar
  pub present : now ≡ clock.now past
  pub period : HasPeriod past

-- The second of `wall` at which this `up` is reached, if both clocks go on alike. It is the least
-- number of whole seconds after that of the clock reading, as far as a clock reading may go.
pub record ComesAt (now : Reading) (up second : ℕ) : Type 0 where
  pub seconds : ℕ
  pub least : (d : ℕ) → nat_le up (now.up + SECOND * d) ≡ nat_le seconds d
  pub shown : second ≡ min (now.wall + seconds) MAX_WALL
