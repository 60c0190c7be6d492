-- Some refusal is too near exactly if the newest is.
use Rattle.std.proofs.Common.{true, false, not, ◌*◌, ◌&&◌, ◌||◌, nat_lt, sym, ap, ◌∙◌}
use Rattle.std.specs.List.{list_any}
use Rattle.history_model.specs.Search.{last}
use Rattle.history_model.specs.Clock.{definition_of, moments}
use Rattle.history_model.specs.Runs.{runs, is_struck}
use Rattle.history_model.specs.Kinds.{is_term_order, is_kill_answer}
use Rattle.history_model.specs.Due.{is_over}
use Rattle.history_model.specs.DueByFacts.{is_newest_within}
use Rattle.history_model.proofs.ClockLemmas.{any-within}
use Rattle.pace.specs.Paces.{Ends}
use Rattle.pace.proofs.ending.Ending.kill_at.Goals as goal
use Rattle.history_model.specs.declared.TheConstants.{SECOND}

pub returns-clause-past : goal.returns-clause-past
returns-clause-past c = λ past lawful is up.
    c.kill_from.ensures up
    ∙ ap (λ (e : Ends). (e.is_struck || (nat_lt 0 e.timeout && is_over (SECOND * e.timeout) up e.term_ordered)) && (not e.is_kill_done && not (is_newest_within SECOND up e.kill_refused))) is
    ∙ ap (λ b. (is_struck past || (nat_lt 0 (definition_of past).exit_timeout && is_over (SECOND * (definition_of past).exit_timeout) up (last (moments (is_term_order (runs past)) past)))) && (not (list_any (is_kill_answer true (runs past)) past) && not b))
    (sym (any-within SECOND up (is_kill_answer false (runs past)) past lawful))
