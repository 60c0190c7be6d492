-- The causes so far, but for those that are left out.
use Rattle.std.proofs.Common.{◌≡◌, take}
use Rattle.std.specs.List.{filter}
use Rattle.scope.specs.ShownCauses.{is_shown}
use Rattle.scope.proofs.journal.shown.those_shown.Given as goal

abbrev pub invariant-loop-cause : goal.invariant-loop-cause
invariant-loop-cause l = l.shown.items ≡ filter (is_shown l.reasons) (take l.cause-index l.causes)
