-- What is kept is what stays.
use Rattle.std.proofs.Common.{rules}
use Rattle.std.proofs.lemmas.Fn.{filter_same}
use Rattle.loaded_jobs.specs.Triggers.{stays_under}
use Rattle.loaded_jobs.proofs.triggers.forget.Goals as goal

pub returns-clause-items : goal.returns-clause-items
returns-clause-items c = filter_same _ (stays_under c.args.places.now c.args.job_slots.now) _ (λ x b q r. search rules) _ _ c.retain.ensures.filtered
