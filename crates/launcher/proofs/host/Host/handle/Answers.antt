-- The answer goes to the job that its number stands for.
use Rattle.launcher.proofs.OneEventLemmas.{handled}
use Rattle.std.proofs.Common.{ap, subst, ◌∙◌}
use Rattle.history_model.specs.Labels.{Label}
use Rattle.ctl_protocol.specs.EventWriter.{event_line}
use Rattle.launcher.specs.Journals.{Grows}
use Rattle.launcher.specs.JournaledLines.{journaled_answer}
use Rattle.loaded_jobs.specs.Tables.{label_of}
use Rattle.launcher.proofs.host.Host.handle.Goals as goal

pub returns-clause-handled : goal.returns-clause-handled
returns-clause-handled g c =
    handled c.receive_answer-accepted.result c.args.self.now.table c.receive_answer-accepted.new.table _ _ _ _ _ _ c.args.pending c.label-label.result.now
    (c.label-label.ensures ∙ ap (λ ns. label_of ns c.args.pending.job) c.last_step.ensures.names) c.lend_table.ensures.numbered c.last_step.ensures.numbered c.lend_text.ensures
    c.receive_answer-accepted.ensures.happens c.receive_answer-accepted.ensures.rows
    (subst (λ (job : Label). Grows c.args.self.now.journal c.note.new.self (event_line (journaled_answer job c.args.pending.answer))) c.new.ensures c.note.ensures)
