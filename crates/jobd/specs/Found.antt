-- What an edge finds of children that are over, and what it holds of clients.
use Rattle.std.specs.Prelude.{◌≡◌, ◌≤◌, ⊤, ℕ, Bool, true, false, Option, Some, None}
use Rattle.child_edge.specs.Calls.{one_more}

-- the job that was found, with a run of it, is the one that was asked about, or one above it
abbrev pub IsFrom : ℕ → Option (ℕ × ℕ) → Type 0
IsFrom first None = ⊤
IsFrom first (Some (job, run)) = first ≤ job

-- a connection is held, or that it is not is counted as a failure
abbrev pub IsCounted : Bool → ℕ → ℕ → Type 0
IsCounted true old new = new ≡ old
IsCounted false old new = new ≡ one_more old
