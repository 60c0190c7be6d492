-- Each order by its pieces.
use Rattle.std.proofs.Common.{◌∙◌, ap}
use Rattle.history_model.specs.declared.Act.TheVariants.{Spawn}
use Rattle.ctl_protocol.proofs.EventWriterLemmas.{on_ok}
use Rattle.ctl_protocol.proofs.OrdersLemmas.{spawn_written, carry_written, term_written, kill_written, close_written, gone_written}
use Rattle.ctl_protocol.proofs.orders.add_order.Goals as goal

pub returns-in-None : goal.returns-in-None
returns-in-None c =
    on_ok c.add_all.result (spawn_written _ _ c.args.job.now _ c.args.act (c.as_slice-job.ensures.value ∙ c.in_ok-label.ensures) _ _
    (c.in-Spawn.is ∙ ap (Spawn c.in-Spawn.run') c.in-None.is) (c.as_bytes-run.ensures.value ∙ c.format.ensures.text)) c.add_all.ensures

pub returns-in-Spawn : goal.returns-in-Spawn
returns-in-Spawn c =
    on_ok c.add_all-in-Some.result (carry_written _ _ c.args.job.now _ c.args.act (c.as_slice-job.ensures.value ∙ c.in_ok-label.ensures) _ _ _ _
    (c.in-Spawn.is ∙ ap (Spawn c.in-Spawn.run') c.in-Some.is) (c.as_bytes-run.ensures.value ∙ c.format.ensures.text)
    (c.as_bytes.ensures.value ∙ c.format-in-Some.ensures.text)) c.add_all-in-Some.ensures

pub returns-in-Term : goal.returns-in-Term
returns-in-Term c =
    on_ok c.add_all-in-Term.result (term_written _ _ c.args.job.now _ c.args.act (c.as_slice-job.ensures.value ∙ c.in_ok-label.ensures) _ _
    c.in-Term.is (c.as_bytes-run-in-Term.ensures.value ∙ c.format-in-Term.ensures.text)) c.add_all-in-Term.ensures

pub returns-in-Kill : goal.returns-in-Kill
returns-in-Kill c =
    on_ok c.add_all-in-Kill.result (kill_written _ _ c.args.job.now _ c.args.act (c.as_slice-job.ensures.value ∙ c.in_ok-label.ensures) _ _
    c.in-Kill.is (c.as_bytes-run-in-Kill.ensures.value ∙ c.format-in-Kill.ensures.text)) c.add_all-in-Kill.ensures

pub returns-in-Close : goal.returns-in-Close
returns-in-Close c =
    on_ok c.add_all-in-Close.result (close_written _ _ c.args.job.now _ c.args.act (c.as_slice-job.ensures.value ∙ c.in_ok-label.ensures) _ _
    c.in-Close.is (c.as_bytes-conn.ensures.value ∙ c.format-in-Close.ensures.text)) c.add_all-in-Close.ensures

pub returns : goal.returns
returns c =
    on_ok c.add_all-in-Gone.result (gone_written _ _ c.args.job.now _ c.args.act (c.as_slice-job.ensures.value ∙ c.in_ok-label.ensures)
    c.in-Gone.is) c.add_all-in-Gone.ensures
