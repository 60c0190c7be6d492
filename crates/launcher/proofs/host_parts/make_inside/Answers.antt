-- A header that a table represents has no fault, and can be written.
use Rattle.std.proofs.Common.{◌≡◌, true, false, inr, sym, ◌∙◌, subst}
use Rattle.history_model.specs.MachineLaws.{AreInOrder}
use Rattle.ctl_protocol.proofs.HeaderReaderLemmas.{labels_in}
use Rattle.table_opening.proofs.OpeningsLemmas.{stands_well}
use Rattle.launcher.proofs.HeaderLemmas.{AreTexts, header_writable}
use Rattle.launcher.proofs.host_parts.make_inside.Goals as goal

pub returns-in-Ok-table_of-clause-faults : goal.returns-in-Ok-table_of-clause-faults
returns-in-Ok-table_of-clause-faults g c = stands_well c.args.header c.in-Ok-table_of.table c.in-Ok-table_of.ensures

pub returns-in-Ok-table_of-clause-writable : goal.returns-in-Ok-table_of-clause-writable
returns-in-Ok-table_of-clause-writable g c =
    let rises = c.if-not-are_in_order.false in
    header_writable c.args.header c.in-Ok-table_of.ensures.admitted (subst (λ s. AreInOrder (labels_in s)) c.as_slice.ensures (c.are_in_order.ensures.order.0 rises))
    (subst AreTexts c.as_slice.ensures (c.are_in_order.ensures.texts rises)) c.lend_zone.ensures

pub returns-then-not-are_in_order-clause-fault : goal.returns-then-not-are_in_order-clause-fault
returns-then-not-are_in_order-clause-fault g c = inr (λ order.
    let yes = c.are_in_order.ensures.order.1 (subst (λ s. AreInOrder (labels_in s)) (sym c.as_slice.ensures) order) in
    let clash : true ≡ false = sym yes ∙ c.if-not-are_in_order.true in
    absurd (cc clash))
