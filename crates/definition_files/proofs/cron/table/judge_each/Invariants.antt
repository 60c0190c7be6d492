-- What holds at each turn of the loop of `judge_each`.
use Rattle.std.proofs.Common.{take}
use Rattle.definition_files.specs.LineStatus.{AreLineVerdicts, Judges}
use Rattle.definition_files.proofs.cron.table.judge_each.Given as goal

abbrev pub invariant-loop-line : goal.invariant-loop-line
invariant-loop-line g l = Judges (take l.line-index l.lines) (AreLineVerdicts l.verdicts) (g.K.LineKeeper.told l.fn.keeper) (g.K.LineKeeper.told l.keeper)
