-- A place on an axis.
use Rattle.std.proofs.Common.{ℕ, ◌≤◌, ◌-◌, ◌*◌, ◌/◌, arith}
use Rattle.std.proofs.Math.Nat.{mul-le-mul_right, div-le_of_le-mul, le_trans}
use Rattle.std.proofs.lemmas.Nat.{mul-le}
use Rattle.run_times.specs.Axis.{HasBegun, IsPlace}

-- a part of the span is within the places
pub place_fits : (m w d : ℕ) → m ≤ d → m * w / d ≤ w
place_fits m w d h = div-le_of_le-mul d (mul-le-mul_right w h)

-- the product on the way to a place is no more than a number of 64 bits holds
pub product_fits : (m w : ℕ) → m ≤ 250000000000 → w ≤ 65535 → m * w ≤ 16383750000000000
product_fits m w h k = mul-le m w 250000000000 65535 h k

-- a place that has begun has begun later too
begun_later : (from until places at later place : ℕ) → at ≤ later → HasBegun from until places at place → HasBegun from until places later place
begun_later from until places at later place h begun =
    let gone : at - from ≤ later - from = omega (arith, h) in
    le_trans begun (mul-le-mul_right places gone)

-- what is between two seconds of one place is there too
pub between : (from until places first last at place : ℕ) → first ≤ at → at ≤ last → IsPlace from until places first place
    → IsPlace from until places last place → IsPlace from until places at place
between from until places first last at place h k (fits, begun, _) (_, _, least) = (
  fits,
  begun_later from until places first at place h begun,
  λ other fine has. least other fine (begun_later from until places at last other k has),
)
