-- The goals of `laws::a_job_sleeps_until_its_next_moment` that the prover leaves open.
use Rattle.history_model.specs.Clock.{now, definition_of}
use Rattle.history_model.specs.Calendar.{crossed}
use Rattle.history_model.proofs.UntouchedLemmas.{none_at}
use Rattle.history_model.proofs.SkippingLemmas.{facts-kept, due-kept, moment-kept, reasons-kept, keeps-still, next-kept}
use Rattle.history_model.proofs.laws.a_job_sleeps_until_its_next_moment.Goals as goal

pub returns-clause-facts : goal.returns-clause-facts
returns-clause-facts c = facts-kept

pub returns-clause-order : goal.returns-clause-order
returns-clause-order c = due-kept

pub returns-clause-moment : goal.returns-clause-moment
returns-clause-moment c = moment-kept

pub returns-clause-kept : goal.returns-clause-kept
returns-clause-kept c = λ at t f lawful keeps later. keeps-still at t lawful f keeps later

pub returns-clause-known : goal.returns-clause-known
returns-clause-known c = next-kept

pub returns-clause-calendar : goal.returns-clause-calendar
returns-clause-calendar c = λ zone at t none. none_at zone (crossed (now t).wall at.wall) (definition_of t).calendar none

pub returns-clause-reasons : goal.returns-clause-reasons
returns-clause-reasons c = reasons-kept
