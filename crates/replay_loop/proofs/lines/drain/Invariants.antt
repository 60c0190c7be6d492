-- What stays true in the loop of `lines::drain`.
use Rattle.std.proofs.Common.{◌≡◌, ℕ, List, ◌++◌, length}
use Rattle.replay_loop.specs.Handling.{Leads, drained}
use Rattle.replay_loop.proofs.lines.drain.Given as goal

abbrev pub invariant-lines : goal.invariant-lines
invariant-lines g l =
    (done : List (List ℕ)) × (l.initial.feed.lines ≡ done ++ l.feed.lines) × (drained l.feed ≡ drained l.initial.feed)
    × Leads g.M.LineMachine.output g.M.LineMachine.will_write (record { old = l.initial.stage; new = l.stage; held = (g.W.Write.contents l.initial.writer); holds = (g.W.Write.contents l.writer) }) done

abbrev pub decreases-lines : goal.decreases-lines
decreases-lines g l = length l.feed.lines
