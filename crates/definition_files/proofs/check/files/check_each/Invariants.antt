-- What holds at each turn of the loop of `check_each`.
use Rattle.std.proofs.Common.{take}
use Rattle.definition_files.specs.Reads.{AreVerdicts, Reads}
use Rattle.definition_files.proofs.check.files.check_each.Given as goal

abbrev pub invariant-loop-file : goal.invariant-loop-file
invariant-loop-file g l = Reads (take l.file-index l.files) (AreVerdicts l.verdicts) (g.S.DefinitionSource.told l.fn.source) (g.S.DefinitionSource.told l.source)
