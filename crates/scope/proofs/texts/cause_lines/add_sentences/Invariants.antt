-- What is written stays.
use Rattle.run_times.specs.Written.{Grows}
use Rattle.scope.proofs.texts.cause_lines.add_sentences.Given as goal

abbrev pub invariant-loop-form : goal.invariant-loop-form
invariant-loop-form l = Grows l.fn.page.writer l.page.writer
