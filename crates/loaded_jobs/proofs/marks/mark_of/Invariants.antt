-- The places of those that were passed are marked.
use Rattle.std.proofs.Common.{take}
use Rattle.std.specs.List.{list_any}
use Rattle.loaded_jobs.specs.Marking.{Marks}
use Rattle.loaded_jobs.specs.Triggers.{is_placed_at}
use Rattle.loaded_jobs.proofs.marks.mark_of.Given as goal

abbrev pub invariant-loop-one : goal.invariant-loop-one
invariant-loop-one l = Marks l.fn.ready l.ready (λ place. list_any (is_placed_at l.places place) (take l.one-index l.run))
