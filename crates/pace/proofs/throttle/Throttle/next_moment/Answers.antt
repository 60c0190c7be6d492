-- Only the newest order and the newest refusal can have a moment to come.
use Rattle.std.proofs.Common.{◌*◌, sym, ap, ◌∙◌}
use Rattle.history_model.specs.NextMomentByFacts.{sooner, coming_after}
use Rattle.history_model.proofs.ComingLemmas.{next-spawn}
use Rattle.pace.specs.Paces.{Spacing}
use Rattle.pace.proofs.throttle.Throttle.next_moment.Goals as goal
use Rattle.history_model.specs.declared.TheConstants.{SECOND}

pub returns-clause-past : goal.returns-clause-past
returns-clause-past c = λ past lawful is le.
    c.next_from.ensures.value
    ∙ ap (λ (s : Spacing). sooner (coming_after c.args.up (SECOND * s.seconds) s.order) (coming_after c.args.up SECOND s.refusal)) is
    ∙ sym (next-spawn past lawful c.args.up le)
