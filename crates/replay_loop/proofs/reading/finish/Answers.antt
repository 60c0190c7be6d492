-- What the check of `reading::finish` does not find by itself.
use Rattle.replay_loop.specs.ReplayOutcomes.{last_line}
use Rattle.replay_loop.proofs.HandlingLemmas.{last_stops, no_header_yet, stands_none}
use Rattle.replay_loop.proofs.reading.finish.Goals as goal

pub returns-in-None-clause-err : goal.returns-in-None-clause-err
returns-in-None-clause-err g c = λ past stands.
    let (next, standing, handled) = c.in-Ok.ensures.ok past stands in
    no_header_yet g.M.LineMachine.output g.met.M.LineMachine.no_header past next (g.W.Write.contents c.args.writer.now) (g.W.Write.contents c.handle_last.new.writer) (last_line c.args.rest.now)
    (stands_none g.M.LineMachine.will_write c.handle_last.new.stage next c.in-None.is standing) handled

pub returns-in-Err-clause-err : goal.returns-in-Err-clause-err
returns-in-Err-clause-err g c = λ past stands.
    last_stops g.M.LineMachine.output c.in-Err.e c.args.rest.now past (g.W.Write.contents c.args.writer.now) (g.W.Write.contents c.handle_last.new.writer) (c.in-Err.ensures.err past stands)
