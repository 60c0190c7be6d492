-- What a further piece adds.
use Rattle.std.proofs.Common.{◌∙◌}
use Rattle.control_socket.specs.Dialogues.{begun, talked}
use Rattle.control_socket.proofs.DialoguesLemmas.{converses_reads, ends_here, ends_talk, on_err}
use Rattle.control_socket.proofs.ServingLemmas.{serves_append}
use Rattle.control_socket.proofs.client.Client.converse.Goals as goal

pub loop-init : goal.loop-init
loop-init g c = record {
  converses = talked begun c.in_ok-answer.ensures.talks;
  serves = c.answer.ensures.serves;
  name = c.answer.ensures.name;
}

pub returns-in_err-answer-2-clause-serves : goal.returns-in_err-answer-2-clause-serves
returns-in_err-answer-2-clause-serves g c = serves_append c.loop.invariant.serves c.answer-in-loop.ensures.serves

pub returns-in_err-answer-clause-ends : goal.returns-in_err-answer-clause-ends
returns-in_err-answer-clause-ends g c = on_err c.from_residual.result (ends_talk begun c.in_err-answer.ensures.breaks)

pub returns-in_err-read-clause-ends : goal.returns-in_err-read-clause-ends
returns-in_err-read-clause-ends g c = on_err c.from_residual-in_err-read.result (ends_here c.loop.invariant.converses)

pub returns-in_err-answer-2-clause-ends : goal.returns-in_err-answer-2-clause-ends
returns-in_err-answer-2-clause-ends g c =
    on_err c.from_residual-in_err-answer-2.result (ends_talk (converses_reads c.loop.invariant.converses c.in_ok-read.ensures.reads) c.in_err-answer-2.ensures.breaks)

pub loop-preserved : goal.loop-preserved
loop-preserved g c = record {
  converses = talked (converses_reads c.loop.invariant.converses c.in_ok-read.ensures.reads) c.in_ok-answer-2.ensures.talks;
  serves = serves_append c.loop.invariant.serves c.answer-in-loop.ensures.serves;
  name = c.answer-in-loop.ensures.name ∙ c.loop.invariant.name;
}

pub returns-then-not-branch-clause-converses : goal.returns-then-not-branch-clause-converses
returns-then-not-branch-clause-converses g c = converses_reads c.loop.invariant.converses c.in_ok-read.ensures.reads
