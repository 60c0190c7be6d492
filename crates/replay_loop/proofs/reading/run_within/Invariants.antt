-- What stays true in the loop of `reading::run_within`.
use Rattle.std.proofs.Common.{Option}
use Rattle.replay_loop.specs.LineMachine.{Future}
use Rattle.replay_loop.specs.Handling.{Stands}
use Rattle.replay_loop.proofs.ReadingLemmas.{Going}
use Rattle.replay_loop.proofs.reading.run_within.Given as goal

abbrev pub invariant-reads : goal.invariant-reads
invariant-reads g l =
    (past : Option Future) × Stands g.M.LineMachine.will_write l.stage past
    × Going g.M.LineMachine.output l.counter (g.R.Read.remaining l.initial.reader) (g.R.Read.remaining l.reader) (g.W.Write.contents l.initial.writer) (g.W.Write.contents l.writer) l.feed past
