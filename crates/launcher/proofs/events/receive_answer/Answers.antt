-- The table hears the answer under the number of its job, and its own answer is passed on.
use Rattle.launcher.specs.HostTurns.{answer_event}
use Rattle.launcher.proofs.OneEventLemmas.{answer-on, refused-rows}
use Rattle.launcher.proofs.events.receive_answer.Goals as goal

pub returns-clause-happens : goal.returns-clause-happens
returns-clause-happens g c =
    let ends = c.answered.follows.holds-at-none in
    answer-on (answer_event c.args.table.now.names c.args.pending) c.args.table.now c.answered.follows.lender-at-none c.answered.result c.execute_step.result _ _ _ _
    c.execute_step.ensures.answer c.answered.ensures.answer c.answered.ensures.known (ends.0, ends.1, ends.2) c.execute_step.ensures.executed

pub returns-clause-rows : goal.returns-clause-rows
returns-clause-rows g c = refused-rows c.args.table.now c.answered.follows.lender-at-none c.answered.result c.execute_step.result c.execute_step.ensures.answer c.answered.follows.holds-at-none.1
