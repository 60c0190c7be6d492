-- Moments do not fall, so the newest one decides.
use Rattle.std.proofs.Common.{◌≡◌, ℕ, ◌≤◌, Bool, true, false, not, ◌||◌, cond, Option, Some, None, [], ◌∷◌, refl, sym, arith, nat_lt}
use Rattle.std.specs.List.{list_any}
use Rattle.std.proofs.lemmas.Bool.Decides.{nat_tests}
use Rattle.history_model.specs.declared.Reading.{Reading}
use Rattle.history_model.specs.declared.Refusal.TheVariants.{ClockRefused}
use Rattle.history_model.specs.declared.TheConstants.{MAX_UP, MAX_WALL}
use Rattle.history_model.specs.Items.{Item, Loaded, Read, Saw, Asked, Came, Left, Ordered, Answered, RunEnded, WaitRefused, History}
use Rattle.history_model.specs.Search.{first}
use Rattle.history_model.specs.Clock.{now, moments}
use Rattle.history_model.specs.Due.{is_within}
use Rattle.history_model.specs.Refusals.{IsLawful, is_clock_refused}
use Rattle.history_model.specs.DueByFacts.{is_newest_within}
use Rattle.history_model.proofs.BooleanLemmas.{not-true, or-false}
use Rattle.history_model.proofs.LawfulLemmas.{unless-None}

pub Read-later : (before at : Reading) → is_clock_refused before at ≡ false → (before.up ≤ at.up) × (at.up ≤ MAX_UP)
Read-later before at e =
    let outer = or-false (nat_lt at.up before.up || nat_lt MAX_UP at.up) (nat_lt MAX_WALL at.wall) e in
    let inner = or-false (nat_lt at.up before.up) (nat_lt MAX_UP at.up) outer.0 in
    (grind (arith, nat_tests, inner.0), grind (arith, nat_tests, inner.1))

-- no item leads back
pub now-grows : (x : Item) (t : History) → IsLawful (x ∷ t) → (now t).up ≤ (now (x ∷ t)).up
now-grows (Loaded d at) t lawful = rw lawful.0.0 (omega arith)
now-grows (Read at calendar) t lawful =
    (Read-later (now t) at (not-true (is_clock_refused (now t) at) (unless-None (not (is_clock_refused (now t) at)) ClockRefused lawful.0.1))).0
now-grows (Saw path obs) t lawful = omega arith
now-grows (Asked ask) t lawful = omega arith
now-grows (Came conn) t lawful = omega arith
now-grows (Left conn) t lawful = omega arith
now-grows (Ordered act) t lawful = omega arith
now-grows (Answered answer) t lawful = omega arith
now-grows (RunEnded run how) t lawful = omega arith
now-grows (WaitRefused run) t lawful = omega arith

-- the newest moment is not after the present one
pub first-moment-le : (p : Item → Bool) (t : History) → IsLawful t → (u : ℕ) → first (moments p t) ≡ Some u → u ≤ (now t).up
first-moment-le p [] lawful u e = cc
first-moment-le p (x ∷ t) lawful u e = go (first-moment-le p t lawful.1 u) (p x) e where
  go : (first (moments p t) ≡ Some u → u ≤ (now t).up) → (b : Bool) → first (cond b ((now (x ∷ t)).up ∷ moments p t) (moments p t)) ≡ Some u → u ≤ (now (x ∷ t)).up
  go older true e' = let same : (now (x ∷ t)).up ≡ u = cc in omega (arith, same)
  go older false e' = let le : u ≤ (now t).up = older e' in let grows = now-grows x t lawful in omega (arith, grows)

or-implied : (a b : Bool) → (b ≡ true → a ≡ true) → (a || b) ≡ a
or-implied true b h = refl
or-implied false true h = sym (h refl)
or-implied false false h = refl

within-later : (wait up u v : ℕ) → u ≤ v → is_within wait up u ≡ true → is_within wait up v ≡ true
within-later wait up u v le e = grind (arith, nat_tests, le, e)

-- some moment lies that near exactly if the newest does
pub any-within : (wait up : ℕ) (p : Item → Bool) (t : History) → IsLawful t →
    list_any (is_within wait up) (moments p t) ≡ is_newest_within wait up (first (moments p t))
any-within wait up p [] lawful = refl
any-within wait up p (x ∷ t) lawful = go (any-within wait up p t lawful.1) (p x) where
  m : ℕ
  m = (now (x ∷ t)).up

  older : (o : Option ℕ) → first (moments p t) ≡ o → is_newest_within wait up o ≡ true → is_within wait up (now (x ∷ t)).up ≡ true
  older None e yes_it_is = cc
  older (Some u) e yes_it_is =
      let le : u ≤ (now t).up = first-moment-le p t lawful.1 u e in
      let grows = now-grows x t lawful in
      within-later wait up u (now (x ∷ t)).up (omega (arith, le, grows)) yes_it_is

  go : list_any (is_within wait up) (moments p t) ≡ is_newest_within wait up (first (moments p t)) → (b : Bool) →
      list_any (is_within wait up) (cond b ((now (x ∷ t)).up ∷ moments p t) (moments p t)) ≡ is_newest_within wait up (first (cond b ((now (x ∷ t)).up ∷ moments p t) (moments p t)))
  go rest true = rw rest (or-implied (is_within wait up (now (x ∷ t)).up) (is_newest_within wait up (first (moments p t))) (older (first (moments p t)) refl))
  go rest false = rest
