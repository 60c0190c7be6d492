-- What holds at each turn of the loop of `made_of`.
use Rattle.std.specs.Prelude.{◌≡◌}
use Rattle.std.proofs.Common.{take}
use Rattle.definition_files.specs.Mistakes.{made_among}
use Rattle.definition_files.proofs.check.mistakes.made_of.Given as goal

abbrev pub invariant-loop-mistake : goal.invariant-loop-mistake
invariant-loop-mistake l = l.made.items ≡ made_among (take l.mistake-index l.all) l.def
