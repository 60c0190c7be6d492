-- A number that is too great is none.
use Rattle.std.proofs.Common.{sym, arith}
use Rattle.moment_words.proofs.WrittenLemmas.{over}
use Rattle.moment_words.proofs.reading.number_of_digits.Goals as goal

pub returns-in-None-clause-exact : goal.returns-in-None-clause-exact
returns-in-None-clause-exact c =
    sym (over c.args.digits.now c.args.most c.loop-byte.value c.loop-byte.byte-index (omega arith) c.loop-byte.invariant.1 (omega arith) c.in-None.ensures.over)
