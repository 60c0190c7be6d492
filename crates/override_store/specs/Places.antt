-- What the place of a store may be found with, and how often it is asked for a connection.
use Rattle.std.specs.Prelude.{◌≡◌, ◌⊎◌, ◌<◌, ◌+◌, ℕ, Bool, false, List, ◌∷◌, Option, Some, None, MatchOption, IsTrue, ⊤}
use Rattle.sqlite.specs.Held.{Held, state}
use Rattle.sqlite.specs.Store.{Ghosts}
use Rattle.sqlite.specs.Tree.{Trees}
use Rattle.sqlite.specs.View.{IsClean}
use Rattle.history_model.specs.Labels.{Label}
use Rattle.override_store.specs.declared.known.Known.{Known}
use Rattle.override_store.specs.KnownSettings.{HoldsTrees, known_as}
use Rattle.override_store.specs.OverrideStores.{HoldsAs}

-- if it is known afterwards, it was known before, and this holds between
abbrev pub IsCounted : (ℕ → ℕ → Type 0) → Option ℕ → Option ℕ → Type 0
IsCounted Stands old new =
    (after : ℕ) → new ≡ Some after → (before : ℕ) × (old ≡ Some before) × Stands before after

-- it was asked once
abbrev pub IsAskedOnce : Option ℕ → Option ℕ → Type 0
IsAskedOnce = IsCounted (λ before after. after ≡ before + 1)

-- it was asked at least once
abbrev pub IsAskedMore : Option ℕ → Option ℕ → Type 0
IsAskedMore = IsCounted (λ before after. before < after)

-- what an open of the place finds after a stop at this moment
pub record Finds : Type 1 where
  -- each disk has returned what was written, and each connection found what the one before it left
  pub IsHonest : Type 0
  pub may_find : Trees → Type 0

-- nothing is known of it
abbrev pub unknown : Finds
unknown = record { IsHonest = ⊥; may_find = λ _. ⊤ }

-- where this is under a connection
abbrev pub over_left : {S : Type 0} → Ghosts S → Finds → S → Finds
over_left g place store =
    record { IsHonest = IsClean (g.view store) × place.IsHonest; may_find = g.recovers store }

-- where this connection is
abbrev pub over_connection : {S : Type 0} → Ghosts S → Finds → Held S → Finds
over_connection g place conn = over_left g place conn.store

-- where this store is at hand, or else this one was shut
abbrev pub over_stores : {S : Type 0} → Ghosts S → Finds → Option (Held S) → Option (Held S) → Finds
over_stores g place (Some store) shut = over_connection g place store
over_stores g place None (Some shut) = over_connection g place shut
over_stores g place None None = place

-- of a place that has this in memory, or has lent it
abbrev pub kept_in : {S : Type 0} → Ghosts S → Bool → Option S → Finds
kept_in g is_lost left = record {
  IsHonest = (is_lost ≡ false) × MatchOption left ⊤ (λ s. IsClean (g.view s));
  may_find = λ db. MatchOption left ⊤ (λ s. g.recovers s db);
}

-- nothing else may be found than before
abbrev pub Keeps : Finds → Finds → Type 0
Keeps old new = new.IsHonest → old.IsHonest × ((db : Trees) → new.may_find db → old.may_find db)

-- it might be found before, or is a database of a store with the settings of one that might
abbrev pub IsFoundAs : Finds → Trees → Type 0
IsFoundAs old db = old.may_find db ⊎ ((before : Trees) × old.may_find before × HoldsAs before db)

-- nothing else may be found, but for databases of which this holds
abbrev pub LeadsTo : Finds → Finds → (Trees → Type 0) → Type 0
LeadsTo old new Holds =
    new.IsHonest → old.IsHonest × ((db : Trees) → new.may_find db → IsFoundAs old db ⊎ Holds db)

-- they are a database of a store that has what is known, or that with one setting more, with its second
abbrev pub IsKnownOr : Trees → List Known → Label → Bool → ℕ → Type 0
IsKnownOr trees known label disabled changed =
    HoldsTrees trees known ⊎ HoldsTrees trees (known_as label disabled changed ∷ known)

-- What a place says of its connections is so: no less may be found where one is than a stop leaves under it.
pub record IsOver {S P : Type 0} (g : Ghosts S) (finds : P → Finds) (over : P → Held S → Finds)
    (after : P → S → Finds) (is_open : Held S → Type 0) : Type 0 where
  pub there : (place : P) (conn : Held S) → Keeps (over place conn) (over_connection g (finds place) conn)
  pub left : (place : P) (left : S) → Keeps (over_left g (finds place) left) (after place left)
  pub up : (conn : Held S) → is_open conn → IsTrue (state g conn).is_open
