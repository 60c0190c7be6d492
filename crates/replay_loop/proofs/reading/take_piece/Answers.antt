-- What the check of `reading::take_piece` does not find by itself.
use Rattle.std.proofs.Common.{refl}
use Rattle.replay_loop.specs.Handling.{come}
use Rattle.replay_loop.proofs.HandlingLemmas.{stands_quiet, out_of_memory, piece_stops, long_stops, long_header, stands_none}
use Rattle.replay_loop.proofs.reading.take_piece.Goals as goal

pub returns-in-Err-NoMemory-clause-err : goal.returns-in-Err-NoMemory-clause-err
returns-in-Err-NoMemory-clause-err g c = λ past stands. out_of_memory g.M.LineMachine.output past (g.W.Write.contents c.args.writer.now) (come c.args.feed.now c.args.piece.now) (stands_quiet g.M.LineMachine.will_write c.args.stage.now past stands)

pub returns-in-Err-clause-err : goal.returns-in-Err-clause-err
returns-in-Err-clause-err g c = λ past stands.
    piece_stops g.M.LineMachine.output c.in-Err.e c.args.feed.now c.feed.new.self c.args.piece.now past (g.W.Write.contents c.args.writer.now) (g.W.Write.contents c.drain.new.writer) c.in-Ok.ensures.ok.0 c.in-Ok.ensures.ok.1 (c.in-Err.ensures.err past stands)

pub returns-in-Err-drain-clause-err : goal.returns-in-Err-drain-clause-err
returns-in-Err-drain-clause-err g c = λ past stands.
    let long = (rw c.in-Err-TooLong.field-0-is at c.in-Err-TooLong.ensures.too_long) refl in
    long_stops g.M.LineMachine.output c.in-Err-drain.e c.args.feed.now c.feed.new.self c.args.piece.now past (g.W.Write.contents c.args.writer.now) (g.W.Write.contents c.drain-in-Err-TooLong.new.writer) long.0 long.1 (c.in-Err-drain.ensures.err past stands)

pub returns-in-None-clause-err : goal.returns-in-None-clause-err
returns-in-None-clause-err g c = λ past stands.
    let long = (rw c.in-Err-TooLong.field-0-is at c.in-Err-TooLong.ensures.too_long) refl in
    let (next, standing, handled) = c.in-Ok-drain-2.ensures.ok past stands in
    long_header g.M.LineMachine.output g.met.M.LineMachine.no_header c.args.feed.now c.feed.new.self c.args.piece.now past next (g.W.Write.contents c.args.writer.now) (g.W.Write.contents c.drain-in-Err-TooLong.new.writer) long.0 long.1
    (stands_none g.M.LineMachine.will_write c.drain-in-Err-TooLong.new.stage next c.in-None.is standing) handled
