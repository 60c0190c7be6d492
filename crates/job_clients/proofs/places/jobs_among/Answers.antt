use Rattle.std.proofs.Common.{arith, ◌≡◌, ◌≤◌, ◌+◌, ℕ}
use Rattle.std.proofs.lemmas.Grind.{common_steps}
use Rattle.job_clients.proofs.Jobs.{next_job}
use Rattle.job_clients.proofs.places.jobs_among.Goals as goal

pub loop-place-preserved : goal.loop-place-preserved
loop-place-preserved c =
    grind (arith, common_steps, next_job c.args.binds.now c.loop-place.place c.loop-place-test.true)
