-- One more minute is marked; at the end all are.
use Rattle.std.proofs.Common.{◌≡◌, ◌<◌, ℕ, zero, suc, true, false, [], ◌∷◌, replicate, slice_index_or, refl, sym, subst, ◌∙◌, arith}
use Rattle.loaded_jobs.specs.Marking.{stands_at}
use Rattle.history_model.proofs.BooleanLemmas.{or-false-right}
use Rattle.std.proofs.lemmas.List.{take_all}
use Rattle.loaded_jobs.specs.Marking.{Marks}
use Rattle.loaded_jobs.specs.Index.{place_in}
use Rattle.loaded_jobs.proofs.MinutesLemmas.{stands_among, once-more, same-marks, some-first, minute-spared, minute-marks}
use Rattle.loaded_jobs.proofs.marks.mark_minutes.Goals as goal

pub mark_once-requires-clause-places : goal.mark_once-requires-clause-places
mark_once-requires-clause-places c = λ k one at. (
    let own = c.requires.places k one at in
    (own.0, subst (λ r. place_in c.args.places.now one.number < r) (sym c.loop-minute.invariant.marks.room) own.1))

none-noted : (size n : ℕ) → slice_index_or (replicate size false) n false ≡ false
none-noted zero n = refl
none-noted (suc size) zero = refl
none-noted (suc size) (suc n) = none-noted size n

pub loop-minute-init : goal.loop-minute-init
loop-minute-init c = record {
  marks = same-marks c.args.ready.now c.mark_of.new.ready (stands_at c.args.listed.now c.args.places.now (0 ∷ [])) (stands_among c.args.listed.now c.args.places.now [])
      (λ place. or-false-right (stands_at c.args.listed.now c.args.places.now (0 ∷ []) place)) c.mark_of.ensures;
  noted = λ n is. (let clash : false ≡ true = sym (none-noted 256 n) ∙ is in cc);
}

pub loop-minute-preserved : goal.loop-minute-preserved
loop-minute-preserved c =
    once-more c.args.listed.now c.args.places.now c.args.ready.now c.loop-minute.ready c.mark_once.new.ready c.loop-minute.seen c.mark_once.new.seen c.args.minutes.now c.loop-minute.minute-index _ (omega arith)
    c.mark_once.ensures.noted c.mark_once.ensures.fresh c.loop-minute.invariant

pub returns-clause-spared : goal.returns-clause-spared
returns-clause-spared c = λ es are placed place job_slot at spared.
    let listed = c.args.listed.now in
    let places = c.args.places.now in
    let minutes = c.args.minutes.now in
    let over = c.loop-minute-test.false in
    let marks = subst (λ ms. Marks c.args.ready.now c.loop-minute.ready (stands_among listed places ms)) (take_all c.loop-minute.minute-index minutes (omega (arith, over))) c.loop-minute.invariant.marks in
    minute-spared places es placed listed are c.args.ready.now c.loop-minute.ready minutes (some-first minutes (sym c.if-is_empty.ensures)) marks place job_slot at spared

pub returns-clause-marks : goal.returns-clause-marks
returns-clause-marks c = λ es are placed place at.
    let listed = c.args.listed.now in
    let places = c.args.places.now in
    let minutes = c.args.minutes.now in
    let over = c.loop-minute-test.false in
    let marks = subst (λ ms. Marks c.args.ready.now c.loop-minute.ready (stands_among listed places ms)) (take_all c.loop-minute.minute-index minutes (omega (arith, over))) c.loop-minute.invariant.marks in
    minute-marks places es placed listed are c.args.ready.now c.loop-minute.ready minutes (some-first minutes (sym c.if-is_empty.ensures)) marks place at
