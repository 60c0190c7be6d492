-- What a contract sees of a set of places: which are among them, and for which there is room. It is kept in numbers of 64 bits,
-- place by place, from the lowest bit of the first number on.
use Rattle.std.specs.Prelude.{◌≡◌, ◌≢◌, ℕ, ◌<◌, ◌≤◌, ◌*◌, ◌/◌, ◌%◌, ◌^◌, ◌==◌, Bool, true, false, List, length, slice_index_or, Option, Some, None}
use Rattle.std.specs.Int.{bit_at}

pub record Places : Type 0 where
  pub words : List ℕ

-- the bit of the place is set
abbrev pub has_bit : List ℕ → ℕ → Bool
has_bit words place = bit_at (slice_index_or words (place / 64) 0) (place % 64) == 1

-- the place is among them
abbrev pub has_place : Places → ℕ → Bool
has_place places place = has_bit places.words place

-- there is room for the places below this one
abbrev pub place_room : Places → ℕ
place_room places = 64 * length places.words

-- each place of the numbers is below 2 ^ 32
abbrev pub AreFew : List ℕ → Type 0
AreFew words = length words ≤ 2 ^ 26

-- the first numbers, this many, have no bit
abbrev pub AreEmpty : ℕ → List ℕ → Type 0
AreEmpty count words = (k : ℕ) → k < count → slice_index_or words k 0 ≡ 0

-- each place is among them if it was, and there is no less room
pub record KeepsPlaces (old new : Places) : Type 0 where
  pub places : (place : ℕ) → has_place new place ≡ has_place old place
  pub room : place_room old ≤ place_room new

-- the place is among them, each other one if it was, and there is as much room
pub record Inserts (old new : Places) (place : ℕ) : Type 0 where
  pub own : has_place new place ≡ true
  pub others : (other : ℕ) → other ≢ place → has_place new other ≡ has_place old other
  pub room : place_room new ≡ place_room old

-- the place was the least and is among them no more; each other one is if it was; there is as much
-- room
pub record Pops (old new : Places) (place : ℕ) : Type 0 where
  pub there : has_place old place ≡ true
  pub least : (lesser : ℕ) → lesser < place → has_place old lesser ≡ false
  pub own : has_place new place ≡ false
  pub others : (other : ℕ) → other ≢ place → has_place new other ≡ has_place old other
  pub room : place_room new ≡ place_room old

-- the least place was taken out, or there was none and all is as it was
abbrev pub IsLeastTaken : Places → Option ℕ → Places → Type 0
IsLeastTaken old None new = (new ≡ old) × ((place : ℕ) → has_place old place ≡ false)
IsLeastTaken old (Some place) new = Pops old new place

-- the number is the first that has a bit set, or none has one
abbrev pub IsFirstWord : List ℕ → Option ℕ → Type 0
IsFirstWord words None = (k : ℕ) → slice_index_or words k 0 ≡ 0
IsFirstWord words (Some at) =
    (at < length words) × (0 < slice_index_or words at 0)
    × ((k : ℕ) → k < at → slice_index_or words k 0 ≡ 0)
