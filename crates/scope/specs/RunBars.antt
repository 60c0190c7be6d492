-- Where the bar of a run ends in a chart.
use Rattle.std.specs.Prelude.{ℕ, Option, Some, None}
use Rattle.scope.specs.declared.journal.run.RunEnd.{RunEnd}
use Rattle.scope.specs.declared.journal.run.RunEnd.TheVariants.{Awaited, Lives, Refused}

-- the second at which the bar of a run ends: that of its end, or of the axis's end if it is running; none if the run did not
-- begin
abbrev pub run_bar_end : RunEnd → ℕ → ℕ → Option ℕ
run_bar_end Awaited last ended = None
run_bar_end Refused last ended = None
run_bar_end Lives last ended = Some last
run_bar_end _ last ended = Some ended
