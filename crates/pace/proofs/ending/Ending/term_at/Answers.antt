-- Some refusal is too near exactly if the newest is.
use Rattle.std.proofs.Common.{true, false, not, ◌&&◌, sym, ap, ◌∙◌}
use Rattle.std.specs.List.{list_any}
use Rattle.history_model.specs.Runs.{runs, is_struck}
use Rattle.history_model.specs.Kinds.{is_term_answer, is_kill_answer}
use Rattle.history_model.specs.DueByFacts.{is_newest_within}
use Rattle.history_model.proofs.ClockLemmas.{any-within}
use Rattle.pace.specs.Paces.{Ends}
use Rattle.pace.proofs.ending.Ending.term_at.Goals as goal
use Rattle.history_model.specs.declared.TheConstants.{SECOND}

pub returns-clause-past : goal.returns-clause-past
returns-clause-past c = λ past lawful is up.
    c.term_from.ensures up
    ∙ ap (λ (e : Ends). not e.is_struck && not e.is_kill_done && (not e.is_term_done && not (is_newest_within SECOND up e.term_refused))) is
    ∙ ap (λ b. not (is_struck past) && not (list_any (is_kill_answer true (runs past)) past) && (not (list_any (is_term_answer true (runs past)) past) && not b))
    (sym (any-within SECOND up (is_term_answer false (runs past)) past lawful))
