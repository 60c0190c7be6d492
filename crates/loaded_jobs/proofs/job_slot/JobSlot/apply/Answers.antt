-- What is not refused is kept.
use Rattle.std.proofs.Common.{refl}
use Rattle.loaded_jobs.proofs.ReceivingLemmas.{accepted-kept}
use Rattle.loaded_jobs.proofs.job_slot.JobSlot.apply.Goals as goal

pub returns : goal.returns
returns c = record {
  name = refl;
  going = refl;
  decided = c.event-accepted.ensures.decided;
  kept = λ past keeps present none. accepted-kept _ _ _ _ (c.event-accepted.ensures.refused past keeps present) none (c.event-accepted.ensures.kept past keeps present);
}
