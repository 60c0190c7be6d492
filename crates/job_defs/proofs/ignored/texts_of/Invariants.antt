-- What stays true in the loop of `ignored::texts_of`.
use Rattle.std.proofs.Common.{◌≡◌, ◌++◌, map, string_bytes}
use Rattle.job_defs.specs.GatheredNames.{names_of}
use Rattle.job_defs.proofs.ignored.texts_of.Given as goal

abbrev pub invariant-loop-name : goal.invariant-loop-name
invariant-loop-name l = l.texts.items ++ map string_bytes l.name-iterator ≡ names_of l.fn.names
