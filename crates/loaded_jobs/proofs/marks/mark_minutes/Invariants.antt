-- The minutes that were passed are marked, and those that are noted are among them.
use Rattle.std.proofs.Common.{take}
use Rattle.loaded_jobs.proofs.MinutesLemmas.{IsNoted}
use Rattle.loaded_jobs.proofs.marks.mark_minutes.Given as goal

abbrev pub invariant-loop-minute : goal.invariant-loop-minute
invariant-loop-minute l = IsNoted l.listed l.places l.fn.ready l.ready l.seen (take l.minute-index l.minutes)
