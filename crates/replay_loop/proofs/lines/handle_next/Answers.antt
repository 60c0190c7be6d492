-- What the check of `lines::handle_next` does not find by itself.
use Rattle.std.proofs.Common.{◌≡◌, [], ◌∷◌, ◌++◌, ap, subst}
use Rattle.ctl_protocol.specs.Lines.{Feed}
use Rattle.replay_loop.specs.Handling.{Ends, Stops}
use Rattle.replay_loop.proofs.HandlingLemmas.{stands_quiet, nothing_leads, ends_later, out_of_memory}
use Rattle.replay_loop.proofs.lines.handle_next.Goals as goal

pub returns-in_default-clause-err : goal.returns-in_default-clause-err
returns-in_default-clause-err g c = λ past stands. out_of_memory g.M.LineMachine.output past (g.W.Write.contents c.args.writer.now) c.args.feed.now.lines (stands_quiet g.M.LineMachine.will_write c.args.stage.now past stands)

pub returns-clause-err : goal.returns-clause-err
returns-clause-err g c =
    let gives = rw c.in-Some.is at c.in-Ok.ensures.line in
    let all : c.args.feed.now.lines ≡ [] ++ (c.in-Some.line ∷ [] ++ c.next_line.new.self.lines) = ap (λ (f : Feed). f.lines) gives in
    let output = g.M.LineMachine.output in
    let will_write = g.M.LineMachine.will_write in
    let held = g.W.Write.contents c.args.writer.now in
    let holds = g.W.Write.contents c.handle-handled.new.writer in
    let now = subst (λ bytes. Ends will_write c.args.stage.now (Stops output (record { lines = bytes ∷ []; held = held; holds = holds }) c.in-Err.e)) c.as_slice.ensures c.in-Err.ensures.err in
    ends_later output will_write c.in-Err.e c.args.stage.now c.args.stage.now held held holds [] (c.in-Some.line ∷ []) c.next_line.new.self.lines c.args.feed.now.lines all
    (nothing_leads output will_write c.args.stage.now held) now
