-- How the parts of a conjunction settle it, and follow from it.
use Rattle.std.proofs.Common.{◌≡◌, Bool, true, false, ◌&&◌, refl}

pub and-left : (a b : Bool) → (a && b) ≡ true → a ≡ true
and-left true b e = refl
and-left false b e = cc

-- two pairs hold, and so do three of their sides
pub and-joined : (a b c d : Bool) → (a && b) ≡ true → (c && d) ≡ true → ((a && c) && d) ≡ true
and-joined true b c d e f = f
and-joined false b c d e f = absurd (cc)

-- the first pair holds and the second fails, and so do three of their sides
pub and-joined-false : (a b c d : Bool) → (a && b) ≡ true → (c && d) ≡ false → ((a && c) && d) ≡ false
and-joined-false true b c d e f = f
and-joined-false false b c d e f = absurd (cc)
