-- What the check of `outcome::outcome_from` does not find by itself.
use Rattle.std.proofs.Common.{◌∙◌, refl}
use Rattle.std.proofs.lemmas.Result.{IfOk-weaker}
use Rattle.ctl_protocol.specs.OutcomeLines.{plain_orders}
use Rattle.ctl_protocol.proofs.OutcomesLemmas.{bare_line, from_parts, number_written, text_written}
use Rattle.ctl_protocol.proofs.outcome.outcome_from.Goals as goal

pub returns-then-is_empty-2 : goal.returns-then-is_empty-2
returns-then-is_empty-2 c =
    IfOk-weaker c.from_slice.result _ _ (λ line whole. bare_line c.args.code c.args.text.now c.args.orders.now line.items c.if-code-eq0.true c.if-is_empty.ensures c.if-is_empty-2.ensures whole) c.from_slice.ensures.items

pub returns-then-is_empty-3 : goal.returns-then-is_empty-3
returns-then-is_empty-3 c =
    let digits = c.as_bytes-number.ensures.value ∙ c.format.ensures.text ∙ number_written c.args.code in
    let quotes = text_written c.args.text.now _ c.if-is_empty-3.ensures refl in
    IfOk-weaker c.joined.result _ _ (λ line whole. from_parts c.args.code c.args.text.now (plain_orders c.args.orders.now) line.items _ _ _ whole
    digits (c.as_slice.ensures.value ∙ c.in_ok-list.ensures) quotes) c.joined.ensures

pub returns : goal.returns
returns c =
    let digits = c.as_bytes-number.ensures.value ∙ c.format.ensures.text ∙ number_written c.args.code in
    IfOk-weaker c.joined-2.result _ _ (λ line whole. from_parts c.args.code c.args.text.now (plain_orders c.args.orders.now) line.items _ _ _ whole
    digits (c.as_slice-2.ensures.value ∙ c.in_ok-list.ensures) (c.as_slice-3.ensures.value ∙ c.in_ok-said.ensures)) c.joined-2.ensures
