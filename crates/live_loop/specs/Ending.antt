-- Which pass of the live loop is the last.
use Rattle.std.specs.Prelude.{◌≡◌, ◌≤◌, ◌+◌, ℕ, Bool, true, false, Option, Some, None}

-- The `up` of the pass that first found that no job is left after a shutdown: this one, if none did before.
abbrev pub found_at : Option ℕ → ℕ → ℕ
found_at None up = up
found_at (Some first) up = first

-- The launcher says whether a shutdown was accepted and no job is left. Until then no pass is the last. From then on
-- the loop keeps when that was found first, and a pass a second later is the last.
pub record Ends {H : Type 0} (Says : H → Bool → Option ℕ → Type 0) (host : H) (up : ℕ) (old new : Option ℕ) (is_last : Bool) : Type 0 where
  pub has_ended : Bool
  pub next : Option ℕ
  pub says : Says host has_ended next
  pub goes_on : has_ended ≡ false → is_last ≡ false
  pub found : has_ended ≡ true → new ≡ Some (found_at old up)
  pub ends : has_ended ≡ true → found_at old up + 1000 ≤ up → is_last ≡ true
