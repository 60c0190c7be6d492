-- How long a pass of the live loop waits, in milliseconds.
use Rattle.std.specs.Prelude.{ℕ, ◌+◌, ◌-◌, ◌^◌, ◌≤◌, Bool, true, false, List, [], ◌∷◌, Option, min, max}
use Rattle.std.specs.Option.{ForSome}

-- How many quiet passes there were since one in which something happened. The passes come newest
-- first, each as whether something happened in it.
abbrev pub quiet_rounds : List Bool → ℕ
quiet_rounds [] = 0
quiet_rounds (true ∷ rounds) = 0
quiet_rounds (false ∷ rounds) = quiet_rounds rounds + 1

-- the pause after these passes: a millisecond, doubled by each quiet pass, and at most a tenth of
-- a second
abbrev pub pause_after : List Bool → ℕ
pause_after rounds = min (2 ^ quiet_rounds rounds) 100

-- How many of the next passes are quick: four after a pass in which a client's request came whole, and each pass takes one
-- of them away. The passes come newest first, each as whether a request came whole in it.
abbrev pub quick_after : List Bool → ℕ
quick_after [] = 0
quick_after (true ∷ rounds) = 4
quick_after (false ∷ rounds) = quick_after rounds - 1

-- a wait from up on does not go past the time, if there is one
abbrev pub IsNotPast : ℕ → Option ℕ → ℕ → Type 0
IsNotPast up moment wait = ForSome moment (λ m. up + wait ≤ max up m)

-- the longest wait that is within the pause, and goes past neither the next time of the table nor the next check of
-- paths
pub record IsLongestWait (pause up : ℕ) (moment look : Option ℕ) (wait : ℕ) : Type 0 where
  pub within : wait ≤ pause
  pub before_moment : IsNotPast up moment wait
  pub before_look : IsNotPast up look wait
  pub longest : (other : ℕ) → other ≤ pause → IsNotPast up moment other → IsNotPast up look other →
      other ≤ wait
