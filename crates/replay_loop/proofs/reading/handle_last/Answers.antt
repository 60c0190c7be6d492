-- What the check of `reading::handle_last` does not find by itself.
use Rattle.std.proofs.Common.{◌≡◌, [], ◌∷◌, subst, sym}
use Rattle.replay_loop.specs.Handling.{Stops}
use Rattle.replay_loop.specs.ReplayOutcomes.{last_line}
use Rattle.replay_loop.proofs.HandlingLemmas.{one_line}
use Rattle.replay_loop.proofs.reading.handle_last.Goals as goal

pub returns-in-Err-clause-err : goal.returns-in-Err-clause-err
returns-in-Err-clause-err g c =
    let line : c.args.rest.now ∷ [] ≡ last_line c.args.rest.now = one_line c.args.rest.now (sym c.if-is_empty.ensures) in
    λ past stands. subst (λ lines. Stops g.M.LineMachine.output (record { lines = lines; held = g.W.Write.contents c.args.writer.now; holds = g.W.Write.contents c.handle.new.writer }) c.in-Err.e past) line (c.in-Err.ensures.err past stands)
