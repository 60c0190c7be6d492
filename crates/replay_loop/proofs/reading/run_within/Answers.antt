-- What the check of `reading::run_within` does not find by itself.
use Rattle.std.proofs.Common.{◌<◌, ◌≤◌, None, length, take, subst, arith}
use Rattle.replay_loop.specs.Handling.{Handles, LastStops}
use Rattle.replay_loop.specs.ReplayOutcomes.{last_line}
use Rattle.std.proofs.lemmas.List.{length-take-le}
use Rattle.std.proofs.KnownBytes.{Keeps-refl}
use Rattle.replay_loop.proofs.ReadingLemmas.{start, more, no_more, all, fails, last_fails}
use Rattle.replay_loop.proofs.reading.run_within.Goals as goal

pub reads-init : goal.reads-init
reads-init g c = (None, tt, rw c.new-feed.ensures (start g.M.LineMachine.output (g.R.Read.remaining c.args.reader.now) (g.W.Write.contents c.args.writer.now)))

pub returns-in-Err-clause-err : goal.returns-in-Err-clause-err
returns-in-Err-clause-err g c =
    let (past, stands, going) = c.reads.invariant in
    let (input, came, count, wrote) = no_more g.M.LineMachine.output g.met.M.LineMachine.no_header c.reads.counter (g.R.Read.remaining c.args.reader.now) (g.R.Read.remaining c.reads.reader) (g.R.Read.remaining c.read.new.self) (g.W.Write.contents c.args.writer.now) (g.W.Write.contents c.reads.writer) c.reads.feed past going c.in-Err.ensures.bytes in
    (input, came, wrote)

pub returns-in-Err-take_piece-clause-err : goal.returns-in-Err-take_piece-clause-err
returns-in-Err-take_piece-clause-err g c =
    let (past, stands, going) = c.reads.invariant in
    fails g.M.LineMachine.output g.met.M.LineMachine.no_header c.in-Err-take_piece.e c.args.reads c.reads.counter (g.R.Read.remaining c.args.reader.now) (g.R.Read.remaining c.reads.reader) (g.R.Read.remaining c.read.new.self) (g.W.Write.contents c.args.writer.now) (g.W.Write.contents c.reads.writer)
    (g.W.Write.contents c.take_piece.new.writer) c.reads.feed past _ going c.in-Ok.ensures.bytes.0 (c.in-Err-take_piece.ensures.err past stands)

pub reads-preserved : goal.reads-preserved
reads-preserved g c =
    let (past, stands, going) = c.reads.invariant in
    let done = c.in-Ok-take_piece.ensures.ok in
    let (next, standing, handled) = done.2 past stands in
    let buf = c.read.new.buf in
    let n = c.in-Ok.n in
    let le : n ≤ length buf = omega (arith, c.in-Ok.ensures.bound) in
    let some : 0 < length (take n buf) = omega (arith, length-take-le n buf le) in (
      next,
      standing,
      more g.M.LineMachine.output c.reads.counter (g.R.Read.remaining c.args.reader.now) (g.R.Read.remaining c.reads.reader) (g.R.Read.remaining c.read.new.self) (g.W.Write.contents c.args.writer.now) (g.W.Write.contents c.reads.writer)
          (g.W.Write.contents c.take_piece.new.writer) c.reads.feed c.take_piece.new.feed past next (take n buf) going some c.in-Ok.ensures.bytes.0 done.0 done.1 handled,
    )

pub returns-clause-err : goal.returns-clause-err
returns-clause-err g c =
    let (past, stands, going) = c.reads.invariant in
    let (input, came, count, wrote) = no_more g.M.LineMachine.output g.met.M.LineMachine.no_header c.reads.counter (g.R.Read.remaining c.args.reader.now) (g.R.Read.remaining c.reads.reader) (g.R.Read.remaining c.reads.reader) (g.W.Write.contents c.args.writer.now) (g.W.Write.contents c.reads.writer) c.reads.feed past going (Keeps-refl (g.R.Read.remaining c.reads.reader)) in
    (input, came, omega (arith, count, c.reads-test.false), wrote)

pub returns-in-Ok-finish-clause-ok : goal.returns-in-Ok-finish-clause-ok
returns-in-Ok-finish-clause-ok g c =
    let (past, stands, going) = c.reads.invariant in
    let read = c.in-Ok-eq0.ensures.bytes in
    let came = rw c.in-Ok-eq0.field-0-test at read.0 in
    let room : 0 < length c.read.new.buf = omega arith in
    let (next, some, handled) = c.in-Ok-finish.ensures.ok past stands in
    all g.M.LineMachine.output c.reads.counter (g.R.Read.remaining c.args.reader.now) (g.R.Read.remaining c.reads.reader) (g.R.Read.remaining c.read.new.self) (g.W.Write.contents c.args.writer.now) (g.W.Write.contents c.reads.writer)
    (g.W.Write.contents c.finish.new.writer) c.reads.feed past next going came (read.1 c.in-Ok-eq0.field-0-test room)
    (some, subst (λ rest. Handles g.M.LineMachine.output past next (g.W.Write.contents c.reads.writer) (g.W.Write.contents c.finish.new.writer) (last_line rest)) c.rest.ensures handled)

pub returns-in-Err-finish-clause-err : goal.returns-in-Err-finish-clause-err
returns-in-Err-finish-clause-err g c =
    let (past, stands, going) = c.reads.invariant in
    let read = c.in-Ok-eq0.ensures.bytes in
    let came = rw c.in-Ok-eq0.field-0-test at read.0 in
    let room : 0 < length c.read.new.buf = omega arith in
    last_fails g.M.LineMachine.output g.met.M.LineMachine.no_header c.in-Err-finish.e c.args.reads c.reads.counter (g.R.Read.remaining c.args.reader.now) (g.R.Read.remaining c.reads.reader) (g.R.Read.remaining c.read.new.self) (g.W.Write.contents c.args.writer.now) (g.W.Write.contents c.reads.writer)
    (g.W.Write.contents c.finish.new.writer) c.reads.feed past going came (read.1 c.in-Ok-eq0.field-0-test room)
    (subst (λ rest. LastStops g.M.LineMachine.output (record { lines = last_line rest; held = g.W.Write.contents c.reads.writer; holds = g.W.Write.contents c.finish.new.writer }) c.in-Err-finish.e past) c.rest.ensures (c.in-Err-finish.ensures.err past stands))
