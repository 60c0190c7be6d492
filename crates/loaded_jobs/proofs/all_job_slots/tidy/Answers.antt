-- What is kept is what has not left.
use Rattle.std.proofs.Common.{rules}
use Rattle.std.proofs.lemmas.List.Elements.{filter_from_retain}
use Rattle.loaded_jobs.specs.JobSlots.{job_slot_stays}
use Rattle.loaded_jobs.proofs.all_job_slots.tidy.Goals as goal

pub returns-clause-items : goal.returns-clause-items
returns-clause-items c = filter_from_retain _ job_slot_stays (λ p x b q r. search rules) _ _ _ c.retain.ensures.filtered
