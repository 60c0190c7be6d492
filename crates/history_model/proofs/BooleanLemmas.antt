-- How `and`, `or` and `not` compute if one side is known, and what follows of the sides if the whole is known.
use Rattle.std.proofs.Common.{◌≡◌, ◌⊎◌, inl, inr, Bool, true, false, not, ◌||◌, ◌&&◌, refl, sym}

-- ---- one side is known

pub and-false : (a : Bool) → (a && false) ≡ false
and-false true = refl
and-false false = refl

pub and-true : (a : Bool) → (a && true) ≡ a
and-true true = refl
and-true false = refl

pub or-true : (a : Bool) → (a || true) ≡ true
or-true true = refl
or-true false = refl

pub or-false-right : (a : Bool) → (a || false) ≡ a
or-false-right true = refl
or-false-right false = refl

pub or-first : (a b : Bool) → a ≡ true → (a || b) ≡ true
or-first a b e = rw e refl

pub or-second : (a b : Bool) → b ≡ true → (a || b) ≡ true
or-second true b e = refl
or-second false b e = e

pub false-or : (a b : Bool) → a ≡ false → b ≡ false → (a || b) ≡ false
false-or a b e f = rw (e, f) refl

pub false-and : (a b : Bool) → a ≡ false → (a && b) ≡ false
false-and a b e = rw e refl

pub false-and-second : (a b : Bool) → b ≡ false → (a && b) ≡ false
false-and-second a b e = rw e (and-false a)

pub true-and : (a b : Bool) → a ≡ true → b ≡ true → (a && b) ≡ true
true-and a b e f = rw (e, f) refl

-- ---- the whole is known

pub and-left : (a b : Bool) → (a && b) ≡ true → a ≡ true
and-left true b e = refl
and-left false b e = cc

pub and-right : (a b : Bool) → (a && b) ≡ true → b ≡ true
and-right true b e = e
and-right false b e = cc

pub and-both : (a b : Bool) → (a && b) ≡ true → (a ≡ true) × (b ≡ true)
and-both a b e = (and-left a b e, and-right a b e)

pub or-false : (a b : Bool) → (a || b) ≡ false → (a ≡ false) × (b ≡ false)
or-false true b e = cc
or-false false b e = (refl, e)

pub or-only : (a : Bool) → (a || false) ≡ true → a ≡ true
or-only true e = refl
or-only false e = cc

pub or-either : (a b : Bool) → (a || b) ≡ true → (a ≡ true) ⊎ (b ≡ true)
or-either true b e = inl refl
or-either false b e = inr e

pub not-true : (a : Bool) → not a ≡ true → a ≡ false
not-true true e = cc
not-true false e = refl

pub not-false : (a : Bool) → not a ≡ false → a ≡ true
not-false true e = refl
not-false false e = cc

-- ---- two forms of one

pub or-assoc : (a b c : Bool) → (a || (b || c)) ≡ ((a || b) || c)
or-assoc true b c = refl
or-assoc false b c = refl

pub or-false-first : (a b : Bool) → (a || b) ≡ false → a ≡ false
or-false-first a b e = (or-false a b e).0

pub or-false-second : (a b : Bool) → (a || b) ≡ false → b ≡ false
or-false-second a b e = (or-false a b e).1

pub or-swap : (a b : Bool) → (a || b) ≡ (b || a)
or-swap true b = sym (or-true b)
or-swap false b = sym (or-false-right b)

pub unless-true : (b : Bool) → (b ≡ true → ⊥) → b ≡ false
unless-true true clash = absurd (clash refl)
unless-true false clash = refl
