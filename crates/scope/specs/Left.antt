-- Whether a run of a loaded job's label can have left something running, by what its launcher's status file says of the load.
use Rattle.std.specs.Prelude.{◌-◌, ◌||◌, ℕ, Bool, true, false, nat_lt, Option, Some, None, is_some}
use Rattle.history_model.specs.declared.Reading.{Reading}
use Rattle.status_file.specs.declared.status.JobNote.{JobNote}
use Rattle.scope.specs.declared.left.TheConstants.{BOOT}

-- A start was ordered more than two seconds after the launcher's first clock reading, or that is not known. Then the label may have had an earlier load. A
-- job that was loaded by then was loaded for the first time.
abbrev pub is_late : Option Reading → Option Reading → Bool
is_late None begun = false
is_late (Some at) None = true
is_late (Some at) (Some begun) = nat_lt BOOT (at.up - begun.up)

-- a run of the load ended, or one was started and the label may have had an earlier load
abbrev pub may_have_left : JobNote → Option Reading → Bool
may_have_left note begun = is_some note.last_end || is_late note.started begun
