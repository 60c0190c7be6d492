-- Where there is no memory nobody is answered, or the reply to the next line is lost.
use Rattle.std.proofs.Common.{rules, Some}
use Rattle.ctl_protocol.specs.Lines.{GivesLine}
use Rattle.control_socket.specs.Dialogues.{unanswered, reply_lost}
use Rattle.control_socket.specs.Serving.{nobody, one_more}
use Rattle.control_socket.proofs.DialoguesLemmas.{on_err}
use Rattle.control_socket.proofs.dialogue.Dialogue.answer_next.Goals as goal

pub returns-in_default-clause-loses : goal.returns-in_default-clause-loses
returns-in_default-clause-loses g c = unanswered

pub returns-in_default-clause-serves : goal.returns-in_default-clause-serves
returns-in_default-clause-serves g c = nobody

pub returns-in-Some-clause-loses : goal.returns-in-Some-clause-loses
returns-in-Some-clause-loses g c =
    let gives : GivesLine c.args.self.now.requests (Some c.as_slice.result.now) c.next_line.new.self = search rules in
    on_err c.add.result (reply_lost gives c.answer-reply.ensures.answered)

pub returns-in-Some-clause-serves : goal.returns-in-Some-clause-serves
returns-in-Some-clause-serves g c = one_more nobody c.answer-reply.ensures.answered

pub returns-in-None-clause-loses : goal.returns-in-None-clause-loses
returns-in-None-clause-loses g c = on_err c.close_intake.result unanswered

pub returns-in-None-clause-serves : goal.returns-in-None-clause-serves
returns-in-None-clause-serves g c = nobody
