-- What holds at each turn of the loop of `add_jobs`.
use Rattle.std.proofs.Common.{take}
use Rattle.definition_files.specs.Reads.{AreVerdicts, Reads}
use Rattle.definition_files.proofs.starts.add_jobs.Given as goal

abbrev pub invariant-loop-file : goal.invariant-loop-file
invariant-loop-file g l = Reads (take l.file-index l.files) (AreVerdicts l.verdicts) (g.S.DefinitionSource.told l.fn.source) (g.S.DefinitionSource.told l.source)
