-- What the loop of `places::jobs_among` keeps: what it counted, and what it has still to count, are all.
use Rattle.std.proofs.Common.{◌≡◌, ◌≤◌, ◌+◌, ℕ, drop}
use Rattle.job_clients.specs.Places.{how_many_jobs}
use Rattle.job_clients.proofs.places.jobs_among.Given as goal

abbrev pub invariant-loop-place : goal.invariant-loop-place
invariant-loop-place l = (l.jobs + how_many_jobs (drop l.place l.binds) ≡ how_many_jobs l.binds) × (l.jobs ≤ l.place)
