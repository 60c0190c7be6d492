-- Only the newest refusals can have a moment to come.
use Rattle.std.proofs.Common.{◌*◌, nat_lt, cond, None, sym, ap, ◌∙◌}
use Rattle.history_model.specs.Runs.{runs}
use Rattle.history_model.specs.NextMomentByFacts.{sooner, coming_after}
use Rattle.history_model.proofs.ComingLemmas.{next-end}
use Rattle.pace.specs.Paces.{Ends}
use Rattle.pace.proofs.ending.Ending.next_moment.Goals as goal
use Rattle.history_model.specs.declared.TheConstants.{SECOND}

pub returns-clause-past : goal.returns-clause-past
returns-clause-past c = λ past lawful is le.
    c.next_from.ensures.value
    ∙ ap (λ (e : Ends). sooner (cond (nat_lt 0 e.timeout) (coming_after c.args.up (SECOND * e.timeout) e.term_ordered) None) (sooner (coming_after c.args.up SECOND e.term_refused) (coming_after c.args.up SECOND e.kill_refused))) is
    ∙ sym (next-end past lawful c.args.up le (runs past))
