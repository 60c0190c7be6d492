-- How often the jobs were visited.
use Rattle.std.specs.Prelude.{◌≡◌, ℕ, ◌==◌, ◌+◌, ◌%◌, ◌^◌, Bool, true, false, not, ◌||◌, List, [], ◌∷◌, map, length, Result, Ok, Err, if◌then◌else◌}
use Rattle.std.specs.List.{filter, list_all, list_any}
use Rattle.history_model.specs.declared.Refusal.{Refusal}
use Rattle.history_model.specs.Labels.{Label, is_same}
use Rattle.loaded_jobs.specs.Tables.{Row, Table}

-- each job's label, and how often it was visited
abbrev pub count_of : Row → Label × ℕ
count_of row = (row.described.label, row.decided)

-- these for each job
abbrev pub counts : List Row → List (Label × ℕ)
counts rows = map count_of rows

-- how often the label's job was visited: 0 if it is not loaded
abbrev pub count_in : List (Label × ℕ) → Label → ℕ
count_in [] label = 0
count_in (count ∷ counts) label = if is_same label count.0 then count.1 else count_in counts label

-- the next count; after the greatest comes 0
abbrev pub next_count : ℕ → ℕ
next_count count = (count + 1) % 2 ^ 64

-- the job's count is another one than before
abbrev pub went_up : List (Label × ℕ) → Row → Bool
went_up before row = not (row.decided == count_in before row.described.label)

-- it is the one before, or the next
abbrev pub is_near : List (Label × ℕ) → Row → Bool
is_near before row =
    not (went_up before row) || (row.decided == next_count (count_in before row.described.label))

-- each loaded job's count stays or goes up by one, and `count` of them went up; the count of a job that is gone stays
pub record IsCounted (before : List (Label × ℕ)) (after gone : List Row) (count : ℕ) : Type 0 where
  pub each : list_all (is_near before) after ≡ true
  pub visited : count ≡ length (filter (went_up before) after)
  pub unasked : list_any (went_up before) gone ≡ false

-- a refused event asks no job
abbrev pub Counts : {A : Type 0} → Result A Refusal → Table → Table → Type 0
Counts (Ok a) old new = IsCounted (counts old.rows) new.rows new.gone new.visited
Counts (Err refusal) old new = new.rows ≡ old.rows
