-- The least minute that a calendar matches, and what it says of the clock readings that fire it.
use Rattle.std.proofs.Common.{◌≡◌, ℕ, ◌+◌, ◌*◌, ◌/◌, ◌==◌, ◌<◌, ◌≤◌, Bool, true, false, ◌||◌, List, [], ◌∷◌, Option, Some, None, refl, sym, ap, ◌∙◌, nat_le, arith}
use Rattle.std.proofs.lemmas.Bool.{eq-eqb}
use Rattle.std.proofs.lemmas.Bool.Decides.{nat_tests}
use Rattle.std.specs.List.{list_any}
use Rattle.history_model.specs.declared.TheConstants.{CALENDAR_REACH}
use Rattle.history_model.specs.declared.Entry.{Entry}
use Rattle.history_model.specs.Calendar.{Zone, crossed, calendar_fires}
use Rattle.history_model.specs.NextMomentByFacts.{has_come}
use Rattle.history_model.proofs.BooleanLemmas.{or-true}
use Rattle.history_model.proofs.CrossedMinutesLemmas.{members}
use Rattle.calendar_due.specs.Next.{is_matched, IsDueIn, IsFirstDue}
use Rattle.calendar_due.proofs.CalendarLemmas.{any_of}

module _ (zone : Zone) (entries : List Entry) (after until : ℕ) where
  -- every minute that is due comes after the k-th
  abbrev pub AreBehind : ℕ → Type 0
  AreBehind k = (n : ℕ) → IsDueIn zone entries after until n → 60 * k < n

  pub behind-start : AreBehind (after / 60)
  behind-start n (whole, above, below, is) = omega (arith, above)

  pub behind-next : (k : ℕ) → AreBehind k → is_matched zone entries (60 * (k + 1)) ≡ false → AreBehind (k + 1)
  behind-next k behind unmatched n (whole, above, below, is) = go (n == 60 * (k + 1)) refl where
    so_far : 60 * k < n
    so_far = behind n (whole, above, below, is)

    go : (b : Bool) → (n == 60 * (k + 1)) ≡ b → 60 * (k + 1) < n
    go true same =
        let equal : n ≡ 60 * (k + 1) = grind (arith, nat_tests, same) in
        let clash : false ≡ true = sym unmatched ∙ ap (is_matched zone entries) (sym equal) ∙ is in cc
    go false other = let differ : n ≡ 60 * (k + 1) → ⊥ = (λ e. let t = eq-eqb n (60 * (k + 1)) e in cc) in omega (arith, so_far, whole, differ)

  pub behind-all : (k : ℕ) → AreBehind k → until / 60 ≤ k → IsFirstDue zone entries after until None
  behind-all k behind over n (whole, above, low, is) = let so_far = behind n (whole, above, low, is) in omega (arith, so_far, low, whole, over)

  pub first-found : (k : ℕ) → AreBehind k → after / 60 ≤ k → k < until / 60 → is_matched zone entries (60 * (k + 1)) ≡ true →
      IsFirstDue zone entries after until (Some (60 * (k + 1)))
  first-found k behind from below is =
      ((omega arith, omega (arith, from), omega (arith, below), is), (λ n due. let so_far = behind n due in let whole = due.0 in omega (arith, so_far, whole)))

-- what passes is in the list
found-in : (p : ℕ → Bool) (xs : List ℕ) → list_any p xs ≡ true → (m : ℕ) × (list_any (λ c. c == m) xs ≡ true) × (p m ≡ true)
found-in p [] some = cc
found-in p (x ∷ xs) some = go (p x) refl (found-in p xs) some where
  go : (b : Bool) → p x ≡ b → (list_any p xs ≡ true → (m : ℕ) × (list_any (λ c. c == m) xs ≡ true) × (p m ≡ true)) → (b || list_any p xs) ≡ true →
      (m : ℕ) × (list_any (λ c. c == m) (x ∷ xs) ≡ true) × (p m ≡ true)
  go true e later some = (x, ap (λ b. b || list_any (λ c. c == x) xs) (eq-eqb x x refl), e)
  go false e later some = let (m, there, passes) = later some in (m, ap (λ b. (x == m) || b) there ∙ or-true (x == m), passes)

-- a clock reading fires the calendar exactly if it is not before the first minute that is due
pub first-fires : (zone : Zone) (entries : List Entry) (after until wall : ℕ) (o : Option ℕ) → IsFirstDue zone entries after until o → wall ≤ until → wall ≤ after + CALENDAR_REACH →
    calendar_fires zone entries after wall ≡ has_come o wall
first-fires zone entries after until wall o first inside near = go (calendar_fires zone entries after wall) o refl first where
  -- a crossed minute that is matched is due
  due-crossed : calendar_fires zone entries after wall ≡ true → (m : ℕ) × (m ≤ wall) × IsDueIn zone entries after until m
  due-crossed fires =
      let (m, there, passes) = found-in (is_matched zone entries) (crossed after wall) fires in
      let (whole, above, low, late) = (members after wall m).0 there in
      (m, low, (whole, above, omega (arith, low, inside), passes))

  crossed-due : (m : ℕ) → m ≤ wall → IsDueIn zone entries after until m → calendar_fires zone entries after wall ≡ true
  crossed-due m low (whole, above, below, is) =
      any_of (is_matched zone entries) (crossed after wall) m ((members after wall m).1 (whole, above, low, omega (arith, near, above))) is

  go : (b : Bool) (o : Option ℕ) → calendar_fires zone entries after wall ≡ b → IsFirstDue zone entries after until o → b ≡ has_come o wall
  go true None e none = let (m, low, due) = due-crossed e in absurd (none m due)
  go false None e none = refl
  go true (Some m) e (due, least) = let (n, low, other) = due-crossed e in let le = least n other in let is : nat_le m wall ≡ true = grind (arith, nat_tests, le, low) in sym is
  go false (Some m) e (due, least) = test (nat_le m wall) refl where
    test : (b : Bool) → nat_le m wall ≡ b → false ≡ b
    test true le = let low : m ≤ wall = grind (arith, nat_tests, le) in let is = crossed-due m low due in cc
    test false le = refl
