-- One more place is marked.
use Rattle.std.proofs.Common.{◌≡◌, ◌+◌, ◌==◌, ◌||◌, ℕ, Bool, true, false, nat_lt, refl, ap, arith}
use Rattle.std.proofs.lemmas.Bool.Decides.{nat_tests}
use Rattle.loaded_jobs.proofs.MinutesLemmas.{no-marks, more-marks, same-marks, one-mark}
use Rattle.loaded_jobs.proofs.marks.mark_each.Goals as goal

none-below : (p : ℕ) → nat_lt p 0 ≡ false
none-below p = grind arith

lt-more : (p k : ℕ) → nat_lt p (k + 1) ≡ (nat_lt p k || (k == p))
lt-more p k = go (nat_lt p k) refl (k == p) refl
  where
    go : (b : Bool) → nat_lt p k ≡ b → (d : Bool) → (k == p) ≡ d → nat_lt p (k + 1) ≡ (b || d)
    go true low d is = grind (arith, nat_tests, low)
    go false low true is = grind (arith, nat_tests, is)
    go false low false is = grind (arith, nat_tests, low, is)

pub loop-place-init : goal.loop-place-init
loop-place-init c = record { marks = no-marks c.args.ready.now (λ p. nat_lt p 0) none-below; below = omega arith }

pub loop-place-preserved : goal.loop-place-preserved
loop-place-preserved c =
    let k = c.loop-place.place in
    record {
      marks = more-marks c.args.ready.now c.loop-place.ready c.insert.new.self (λ p. nat_lt p k) (λ p. k == p) (λ p. nat_lt p (k + 1)) (λ p. lt-more p k) c.loop-place.invariant.marks
          (one-mark c.loop-place.ready c.insert.new.self k c.insert.ensures);
      below = omega arith;
    }

pub returns : goal.returns
returns c =
    let below = c.loop-place.invariant.below in
    let over = c.loop-place-test.false in
    let same : c.args.count ≡ c.loop-place.place = omega (arith, below, over) in
    same-marks c.args.ready.now c.loop-place.ready (λ p. nat_lt p c.loop-place.place) (λ p. nat_lt p c.args.count) (λ p. ap (nat_lt p) same) c.loop-place.invariant.marks
