-- The causes so far have their objects.
use Rattle.std.proofs.Common.{take}
use Rattle.scope.specs.CauseObjects.{TellsMore}
use Rattle.scope.proofs.objects.causes.put_more.Given as goal

abbrev pub invariant-loop-cause : goal.invariant-loop-cause
invariant-loop-cause l = TellsMore (take l.cause-index l.causes) l.fn.page.writer l.page.writer
