-- Each label is compared with the one before it.
use Rattle.std.proofs.Common.{◌≡◌, ◌+◌, true, ◌∷◌, drop, refl, sym, ap, ◌∙◌, subst}
use Rattle.std.specs.Prelude.{IsUtf8}
use Rattle.history_model.specs.Labels.{is_before}
use Rattle.history_model.specs.MachineLaws.{AreInOrder}
use Rattle.ctl_protocol.proofs.HeaderReaderLemmas.{labels_in}
use Rattle.launcher.proofs.HeaderLemmas.{AreTexts, rises_from, goes_on, stops, ends, text_more, all_texts}
use Rattle.launcher.proofs.settings.are_in_order.Goals as goal

pub loop-setting-preserved : goal.loop-setting-preserved
loop-setting-preserved c =
    let l = c.loop-setting in
    let i = l.setting-index in
    let rest = c.in-Some.rest.now in
    let item = c.setting-item.result in
    let named = c.as_str-label.ensures in
    let before : is_before l.last.now item.label ≡ true = ap (is_before l.last.now) (sym named) ∙ sym c.is_before.ensures ∙ c.if-not-is_before.false in (
      c.lend_text-in-loop-setting.ensures,
      ap (λ x. rises_from x (labels_in (drop (i + 1) rest))) named ∙ goes_on rest i item l.last.now c.as_str-last.result.now c.loop-setting-test.true c.setting-item.is before l.invariant.1,
      text_more rest i item c.loop-setting-test.true c.setting-item.is (subst IsUtf8 named c.lend_text-in-loop-setting.ensures) l.invariant.2,
    )

pub returns-then-not-is_before-clause-order : goal.returns-then-not-is_before-clause-order
returns-then-not-is_before-clause-order c = (
  λ no. absurd (cc no),
  λ order.
      let l = c.loop-setting in
      let rest = c.in-Some.rest.now in
      let item = c.setting-item.result in
      let before = ap (is_before l.last.now) (sym c.as_str-label.ensures) ∙ sym c.is_before.ensures ∙ c.if-not-is_before.true in
      let first = subst (λ x. AreInOrder (x ∷ labels_in rest)) (sym c.as_str-last.ensures) (subst (λ s. AreInOrder (labels_in s)) c.in-Some.ensures.cases.0 order) in
      absurd (stops rest l.setting-index item l.last.now c.as_str-last.result.now c.loop-setting-test.true c.setting-item.is before l.invariant.1 first),
)

pub returns-clause-order : goal.returns-clause-order
returns-clause-order c = (
  λ yes.
      let l = c.loop-setting in
      let rest = c.in-Some.rest.now in
      subst (λ s. AreInOrder (labels_in s)) (sym c.in-Some.ensures.cases.0)
      (subst (λ x. AreInOrder (x ∷ labels_in rest)) c.as_str-last.ensures (ends rest l.setting-index l.last.now c.as_str-last.result.now c.loop-setting-test.false l.invariant.1)),
  λ order. refl,
)

pub returns-clause-texts : goal.returns-clause-texts
returns-clause-texts c = λ yes.
    let l = c.loop-setting in
    subst AreTexts (sym c.in-Some.ensures.cases.0) (subst IsUtf8 c.as_str-last.ensures c.lend_text.ensures, all_texts c.in-Some.rest.now l.setting-index c.loop-setting-test.false l.invariant.2)
