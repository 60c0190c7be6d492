-- What the path checks remember.
use Rattle.std.specs.Prelude.{◌≡◌, ◌≤◌, ◌+◌, ◌-◌, ◌^◌, min, ℕ, List, Bool, true, false, Option, Some, None}
use Rattle.std.specs.BTreeMap.{get_by_text}
use Rattle.std.specs.String.{string_bytes}
use Rattle.live_loop.specs.declared.paths.Observations.{Observations}
use Rattle.live_loop.specs.Looks.{Known}

-- what was delivered last of each path
abbrev pub known_in : Observations → Known
known_in observations path = get_by_text observations.seen path

-- the path of the last check
abbrev pub path_in : Observations → List ℕ
path_in observations = string_bytes observations.path

abbrev pub walk_at : Bool → List ℕ → Option (List ℕ)
walk_at true path = Some path
walk_at false path = None

-- the path after which a series of path checks goes on, if one does
abbrev pub walk_in : Observations → Option (List ℕ)
walk_in observations = walk_at observations.is_walking (path_in observations)

-- the time of `up` at which paths are asked about or checked next
abbrev pub next_in : Observations → ℕ
next_in observations = observations.next

-- the time of `up` of the next series of path checks
abbrev pub later_in : Observations → ℕ
later_in observations = observations.later

-- the path in the room
abbrev pub room_in : Observations → List ℕ
room_in observations = string_bytes observations.room

-- a series of path checks that begins at this time is followed by another a second later
abbrev pub later_after : Option (List ℕ) → ℕ → ℕ → ℕ
later_after (Some path) up later = later
later_after None up later = min (up + 1000) (2 ^ 64 - 1)

-- A series of path checks that goes on does so within two milliseconds; if none does, the next one begins a second after the last began.
abbrev pub IsNextLook : Option (List ℕ) → ℕ → ℕ → ℕ → Type 0
IsNextLook (Some path) up later next = (up ≤ next) × (next ≤ up + 2)
IsNextLook None up later next = next ≡ later

-- what was delivered last of each path, and where the series of path checks is, are as before
pub record IsStill (old new : Observations) : Type 0 where
  pub seen : new.seen ≡ old.seen
  pub path : path_in new ≡ path_in old
  pub walking : new.is_walking ≡ old.is_walking
  pub later : new.later ≡ old.later
