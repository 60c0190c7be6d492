-- What the check of `lines::handle` does not find by itself.
use Rattle.std.proofs.Common.{subst, true, false}
use Rattle.ctl_protocol.specs.Writing.{Takes}
use Rattle.replay_loop.proofs.HandlingLemmas.{stands_quiet, out_of_memory, opens, answers, breaks_off, refuses}
use Rattle.replay_loop.proofs.lines.handle.Goals as goal

pub returns-in-Ok-Some-clause-ok : goal.returns-in-Ok-Some-clause-ok
returns-in-Ok-Some-clause-ok g c =
    opens g.M.LineMachine.output g.M.LineMachine.will_write c.args.stage.now c.in-Ok-Some.machine (g.W.Write.contents c.args.writer.now) c.args.line.now c.in-None.is
    (rw c.in-Ok-Some.field-0-is at c.in-Ok-Some.ensures)

pub returns-in-Ok-None-clause-err : goal.returns-in-Ok-None-clause-err
returns-in-Ok-None-clause-err g c =
    refuses g.M.LineMachine.output g.M.LineMachine.will_write c.args.stage.now (g.W.Write.contents c.args.writer.now) c.args.line.now c.in-None.is
    (rw c.in-Ok-None.field-0-is at c.in-Ok-None.ensures)

pub returns-in-None-clause-err : goal.returns-in-None-clause-err
returns-in-None-clause-err g c = λ past stands. out_of_memory g.M.LineMachine.output past _ _ (stands_quiet g.M.LineMachine.will_write c.args.stage.now past stands)

pub returns-clause-err : goal.returns-clause-err
returns-clause-err g c = λ past stands. out_of_memory g.M.LineMachine.output past _ _ (stands_quiet g.M.LineMachine.will_write c.args.stage.now past stands)

pub returns-in-true-clause-ok : goal.returns-in-true-clause-ok
returns-in-true-clause-ok g c =
    let held = g.W.Write.contents c.args.writer.now in
    let holds = g.W.Write.contents c.write_text.new.writer in
    let took = subst (λ xs. Takes true held holds xs) c.as_slice.ensures.value (subst (λ b. Takes b held holds c.as_slice.result.now) c.in-true.is c.write_text.ensures) in
    answers g.M.LineMachine.output g.M.LineMachine.will_write c.args.stage.now c.in-Some.machine c.handle.new.self held holds c.args.line.now c.in-Ok.text.items
    c.in-Some.is c.in-Ok.ensures took

pub returns-in-Ok-clause-err : goal.returns-in-Ok-clause-err
returns-in-Ok-clause-err g c =
    let held = g.W.Write.contents c.args.writer.now in
    let holds = g.W.Write.contents c.write_text.new.writer in
    let took = subst (λ xs. Takes false held holds xs) c.as_slice.ensures.value (subst (λ b. Takes b held holds c.as_slice.result.now) c.in-false.is c.write_text.ensures) in
    breaks_off g.M.LineMachine.output g.M.LineMachine.will_write c.args.stage.now c.in-Some.machine c.handle.new.self held holds c.args.line.now c.in-Ok.text.items
    c.in-Some.is c.in-Ok.ensures took
