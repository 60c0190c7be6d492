-- When the run of a bar was running, which bars are kept together, and how many runs the bars of a row are
-- for.
use Rattle.std.specs.Prelude.{ℕ, List, [], ◌∷◌, ◌++◌, ◌≡◌, ◌≤◌, ◌+◌, ◌⊎◌, max}
use Rattle.std.specs.List.{sum_by}
use Rattle.run_times.specs.declared.picture.axis.Axis.{Axis}
use Rattle.run_times.specs.declared.picture.chart.Bar.{Bar}
use Rattle.run_times.specs.declared.picture.chart.End.{End}
use Rattle.run_times.specs.declared.picture.chart.End.TheVariants.{Lives}
use Rattle.run_times.specs.Axis.{IsPlace}

-- a run that began and ended at these seconds, or that is running, was there at the second
abbrev pub WasThere : End → ℕ → ℕ → ℕ → Type 0
WasThere Lives begun ended at = begun ≤ at
WasThere _ begun ended at = (begun ≤ at) × (at ≤ ended)

-- the bar is drawn at the second
abbrev pub Covers : Bar → ℕ → Type 0
Covers bar at = (bar.from ≤ at) × (at ≤ bar.until)

-- the second at which the bar of a run ends: that of the run's end, or of the axis's end if the run is
-- running
abbrev pub bar_end : End → ℕ → ℕ → ℕ
bar_end Lives last ended = last
bar_end _ last ended = ended

abbrev pub runs_in : List Bar → ℕ
runs_in bars = sum_by (λ bar. bar.runs) bars

-- The bar lies whole in the place of the axis. If the clock was set back in its run, it ends where it begins.
abbrev pub LiesIn : Axis → ℕ → Bar → Type 0
LiesIn axis place bar =
    IsPlace axis.from axis.until axis.places bar.from place
    × IsPlace axis.from axis.until axis.places (max bar.from bar.until) place

-- The bar stands for two that lie whole in one place of the axis: for the runs of both, from where the
-- first begins to the later of their ends.
pub record Joins (axis : Axis) (last next bar : Bar) : Type 0 where
  pub place : ℕ
  pub last_lies : LiesIn axis place last
  pub next_lies : LiesIn axis place next
  pub from : bar.from ≡ last.from
  pub until : bar.until ≡ max next.until last.until
  pub run : bar.run ≡ last.run
  pub runs : bar.runs ≡ last.runs + next.runs

-- the last bar of a row stands for one more, which lies in its place
pub record IsJoined (axis : Axis) (bar : Bar) (old new : List Bar) : Type 0 where
  pub others : List Bar
  pub last : Bar
  pub both : Bar
  pub was : old ≡ others ++ last ∷ []
  pub is : new ≡ others ++ both ∷ []
  pub joins : Joins axis last bar both

-- a bar was added: it follows the others, or it is joined to the last of them
abbrev pub IsAdded : Axis → Bar → List Bar → List Bar → Type 0
IsAdded axis bar old new = (new ≡ old ++ bar ∷ []) ⊎ IsJoined axis bar old new
