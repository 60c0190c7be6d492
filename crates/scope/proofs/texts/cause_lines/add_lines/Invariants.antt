-- The causes so far have their lines.
use Rattle.std.proofs.Common.{take}
use Rattle.scope.specs.Fronts.{TellsEach}
use Rattle.scope.proofs.texts.cause_lines.add_lines.Given as goal

abbrev pub invariant-loop-cause : goal.invariant-loop-cause
invariant-loop-cause l = TellsEach (take l.cause-index l.causes) l.fn.page.writer l.page.writer
