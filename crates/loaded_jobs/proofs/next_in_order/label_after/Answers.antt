-- The first after the text with a child is the nearest one.
use Rattle.std.proofs.Common.{◌≡◌, ◌<◌, ◌≤◌, Bool, true, false, length, refl, sym, ap, subst, ◌∙◌, arith}
use Rattle.std.proofs.lemmas.Option.{slice_get_within}
use Rattle.history_model.specs.Labels.{is_before}
use Rattle.loaded_jobs.specs.Nearest.{IsNearest, with_child}
use Rattle.loaded_jobs.proofs.MomentsLemmas.{get-at}
use Rattle.loaded_jobs.proofs.ChildLemmas.{none-with-child, nearest-child, passed-more, none-above-before, all-above-from}
use Rattle.loaded_jobs.proofs.next_in_order.label_after.Goals as goal

pub loop-place-init : goal.loop-place-init
loop-place-init c =
    let es = c.args.job_slots.now in
    let text = c.args.text.now in
    let place = c.place_before-place.ensures in
    record {
      passed = λ k e there low behind stay past kept. (let clash : true ≡ false = sym behind ∙ none-above-before text es k e there (subst (λ p. k < p) place low) in absurd (cc clash));
      ahead = λ k e there up. all-above-from text es c.requires k e there (subst (λ p. p ≤ k) place up);
    }

stays : (going : Bool) (has : Bool) → (going ≡ true → has ≡ false) → has ≡ true → going ≡ false
stays true has gone is = let clash : true ≡ false = sym is ∙ gone refl in absurd (cc clash)
stays false has gone is = refl

pub returns-then-has_child : goal.returns-then-has_child
returns-then-has_child c = λ at jobs keeps.
    let inv = c.loop-place.invariant in
    let es = c.args.job_slots.now in
    let k = c.loop-place.place in
    let within : k < length es = omega arith in
    let e = c.index-job_slots-place.result in
    let there = get-at es k e within c.index-job_slots-place.is in
    let has = c.if-has_child.true in
    let stay = stays e.has_gone c.has_child.result c.has_child.ensures.going has in
    subst (IsNearest c.args.text.now (with_child jobs)) (sym (c.label.ensures ∙ ap (λ x. x.def.label) c.lent.ensures))
    (nearest-child at c.args.text.now es c.requires jobs k e keeps there (inv.ahead k e there (omega arith)) stay
    (λ past kept. sym (c.has_child.ensures.child past stay kept) ∙ has) inv.passed)

pub loop-place-preserved : goal.loop-place-preserved
loop-place-preserved c =
    let inv = c.loop-place.invariant in
    let es = c.args.job_slots.now in
    let k = c.loop-place.place in
    let within : k < length es = omega arith in
    let e = c.index-job_slots-place.result in
    record {
      passed = passed-more c.args.text.now es k e (get-at es k e within c.index-job_slots-place.is) (λ stay past kept. sym (c.has_child.ensures.child past stay kept) ∙ c.if-has_child.false) inv.passed;
      ahead = λ j y there up. inv.ahead j y there (omega (arith, up));
    }

pub returns : goal.returns
returns c = λ at jobs keeps.
    let inv = c.loop-place.invariant in
    let es = c.args.job_slots.now in
    let over = c.loop-place-test.false in
    none-with-child at (is_before c.args.text.now) es jobs keeps
    (λ k e there behind stay past kept. inv.passed k e there (let within = slice_get_within es k e there in omega (arith, within, over)) behind stay past kept)
