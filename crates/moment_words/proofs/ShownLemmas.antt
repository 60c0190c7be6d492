-- The least minute at which a clock shows a time of a day.
use Rattle.std.proofs.Common.{◌≡◌, ℕ, ◌+◌, ◌*◌, ◌/◌, ◌==◌, ◌<◌, ◌≤◌, ◌↔◌, IsTrue, Bool, true, false, Some, None, refl, sym, ◌∙◌, subst, arith}
use Rattle.std.proofs.lemmas.Bool.{eq-eqb}
use Rattle.std.proofs.lemmas.Bool.Decides.{nat_tests}
use Rattle.history_model.specs.declared.CivilMinute.{CivilMinute}
use Rattle.history_model.specs.Calendar.{Zone}
use Rattle.moment_words.specs.Shown.{IsOn, IsShownIn, IsFirstShown}

module _ (zone : Zone) (wanted : CivilMinute) (after until : ℕ) where
  -- every minute at which it is shown comes after the k-th
  abbrev pub AreBehind : ℕ → Type 0
  AreBehind k = (n : ℕ) → IsShownIn zone wanted after until n → 60 * k < n

  pub behind-start : AreBehind (after / 60)
  behind-start n (whole, above, below, is) = omega (arith, above)

  pub behind-next : (k : ℕ) → AreBehind k → ¬ IsOn wanted (zone (60 * (k + 1))) → AreBehind (k + 1)
  behind-next k behind unshown n (whole, above, below, is) = go (n == 60 * (k + 1)) refl where
    so_far : 60 * k < n
    so_far = behind n (whole, above, below, is)

    go : (b : Bool) → (n == 60 * (k + 1)) ≡ b → 60 * (k + 1) < n
    go true same =
        let equal : n ≡ 60 * (k + 1) = grind (arith, nat_tests, same) in
        absurd (unshown (subst (λ m. IsOn wanted (zone m)) equal is))
    go false other = let differ : n ≡ 60 * (k + 1) → ⊥ = (λ e. let t = eq-eqb n (60 * (k + 1)) e in cc) in omega (arith, so_far, whole, differ)

  pub behind-all : (k : ℕ) → AreBehind k → until / 60 ≤ k → IsFirstShown zone wanted after until None
  behind-all k behind over n (whole, above, low, is) = let so_far = behind n (whole, above, low, is) in omega (arith, so_far, low, whole, over)

  pub first-found : (k : ℕ) → AreBehind k → after / 60 ≤ k → k < until / 60 → IsOn wanted (zone (60 * (k + 1))) →
      IsFirstShown zone wanted after until (Some (60 * (k + 1)))
  first-found k behind from below is =
      ((omega arith, omega (arith, from), omega (arith, below), is), (λ n due. let so_far = behind n due in let whole = due.0 in omega (arith, so_far, whole)))

-- what a test of the shown minute says
pub unshown : (b : Bool) (wanted shown minute : CivilMinute) → (IsTrue b ↔ IsOn wanted shown) → shown ≡ minute → b ≡ false → ¬ IsOn wanted minute
unshown b wanted shown minute tells is e = λ on.
    let so : b ≡ true = tells.1 (subst (IsOn wanted) (sym is) on) in
    let clash : false ≡ true = sym e ∙ so in cc

pub is_shown : (b : Bool) (wanted shown minute : CivilMinute) → (IsTrue b ↔ IsOn wanted shown) → shown ≡ minute → b ≡ true → IsOn wanted minute
is_shown b wanted shown minute tells is e = subst (IsOn wanted) is (tells.0 e)
