-- A further step.
use Rattle.std.proofs.Common.{refl, ◌∙◌}
use Rattle.control_socket.specs.Serving.{nobody}
use Rattle.control_socket.specs.Dialogues.{silent, further}
use Rattle.control_socket.proofs.DialoguesLemmas.{on_err}
use Rattle.control_socket.proofs.ServingLemmas.{serves_append}
use Rattle.control_socket.proofs.dialogue.Dialogue.answer.Goals as goal

pub loop-init : goal.loop-init
loop-init g c = record { talks = silent; serves = nobody; name = refl }

pub loop-preserved : goal.loop-preserved
loop-preserved g c = record {
  talks = further c.loop.invariant.talks c.in_ok-answer_next.ensures.next;
  serves = serves_append c.loop.invariant.serves c.answer_next.ensures.serves;
  name = c.answer_next.ensures.name ∙ c.loop.invariant.name;
}

pub returns-in_err-answer_next-clause-breaks : goal.returns-in_err-answer_next-clause-breaks
returns-in_err-answer_next-clause-breaks g c =
    on_err c.from_residual.result (record { last = _; before = _; talks = c.loop.invariant.talks; loses = c.in_err-answer_next.ensures.loses })

pub returns-in_err-answer_next-clause-serves : goal.returns-in_err-answer_next-clause-serves
returns-in_err-answer_next-clause-serves g c = serves_append c.loop.invariant.serves c.answer_next.ensures.serves
