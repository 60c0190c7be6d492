-- What is written stays, whatever fills the holes.
use Rattle.run_times.specs.Written.{Grows}
use Rattle.run_times.proofs.page.Page.add.Given as goal

abbrev pub invariant-loop-part : goal.invariant-loop-part
invariant-loop-part l = Grows l.fn.self.writer l.self.writer
