-- Some moment is too near exactly if the newest is.
use Rattle.std.proofs.Common.{◌*◌, ◌||◌, sym, ap, ◌∙◌}
use Rattle.history_model.specs.Clock.{definition_of}
use Rattle.history_model.specs.Kinds.{is_spawn_order, is_spawn_refusal}
use Rattle.history_model.specs.DueByFacts.{is_newest_within}
use Rattle.history_model.proofs.ClockLemmas.{any-within}
use Rattle.pace.specs.Paces.{Spacing}
use Rattle.pace.proofs.throttle.Throttle.free_at.Goals as goal
use Rattle.history_model.specs.declared.TheConstants.{SECOND}

pub returns-clause-past : goal.returns-clause-past
returns-clause-past c = λ past lawful is up.
    c.free_from.ensures up
    ∙ ap (λ (s : Spacing). is_newest_within (SECOND * s.seconds) up s.order || is_newest_within SECOND up s.refusal) is
    ∙ (λ i. sym (any-within (SECOND * (definition_of past).throttle_interval) up is_spawn_order past lawful) i || sym (any-within SECOND up is_spawn_refusal past lawful) i)
