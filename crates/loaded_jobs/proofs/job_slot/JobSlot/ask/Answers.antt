-- The job keeps its past with the order.
use Rattle.loaded_jobs.proofs.ScanLemmas.{Keeps-due}
use Rattle.loaded_jobs.proofs.KnownNumbersLemmas.{known-more}
use Rattle.loaded_jobs.proofs.job_slot.JobSlot.ask.Goals as goal

pub returns-in-Some-clause-kept : goal.returns-in-Some-clause-kept
returns-in-Some-clause-kept c = λ past keeps present stays. Keeps-due _ _ past (c.in-Some.ensures.due past keeps present) (c.in-Some.ensures.kept past keeps present)

pub returns-in_default-clause-kept : goal.returns-in_default-clause-kept
returns-in_default-clause-kept c = λ past keeps present stays. Keeps-due _ _ past (c.in_default.ensures.due past keeps present) (c.in_default.ensures.kept past keeps present)

pub returns-in-Some-clause-known : goal.returns-in-Some-clause-known
returns-in-Some-clause-known c = λ names is before. known-more names _ _ _ c.push_reserved.ensures.items is before
