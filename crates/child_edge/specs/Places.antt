-- Which connections of jobs' sockets may go for a further client.
use Rattle.std.specs.Prelude.{◌≡◌, ◌⊎◌, ◌+◌, ◌≤◌, ℕ, true, Option, Some, None}
use Rattle.std.specs.Option.{IsSomeAnd}
use Rattle.std.specs.declared.cmp.Ordering.{Ordering}
use Rattle.std.specs.Ordering.{nat_cmp, ordering_then}
use Rattle.std.specs.BTreeMap.{BTreeMap, get}
use Rattle.std.specs.Time.{instant_nanos}
use Rattle.child_edge.specs.declared.connection.Connection.{Connection}

-- The run that served it is over, and the client was offered the reply for 5 seconds and took nothing of it.
pub record IsSpent {C F : Type 0} (connection : Connection C F) : Type 0 where
  pub is_over : connection.is_over ≡ true
  pub offered : IsSomeAnd connection.refused (λ refused. instant_nanos refused.first + 5_000_000_000 ≤ instant_nanos refused.last)

-- by the job, then by the number
abbrev pub key_cmp : ℕ × ℕ → ℕ × ℕ → Ordering
key_cmp one other = ordering_then (nat_cmp one.0 other.0) (nat_cmp one.1 other.1)

module _ {C F : Type 0} where
  -- the connection of this job with this number
  abbrev pub held_at : BTreeMap (ℕ × ℕ) (Connection C F) → ℕ × ℕ → Option (Connection C F)
  held_at held key = get key_cmp held key

  -- What was held is held still, but what was spent.
  abbrev pub ReleasesSpent : BTreeMap (ℕ × ℕ) (Connection C F) → BTreeMap (ℕ × ℕ) (Connection C F) → Type 0
  ReleasesSpent old new = (key : ℕ × ℕ) → (held_at new key ≡ held_at old key)
      ⊎ ((held_at new key ≡ None) × IsSomeAnd (held_at old key) IsSpent)

  -- The same, and one may have come under a number that was free.
  abbrev pub TakesOne : BTreeMap (ℕ × ℕ) (Connection C F) → BTreeMap (ℕ × ℕ) (Connection C F) → Type 0
  TakesOne old new = (key : ℕ × ℕ) → (connection : Connection C F) → held_at old key ≡ Some connection →
      (held_at new key ≡ Some connection) ⊎ IsSpent connection
