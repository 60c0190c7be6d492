-- No job is loaded if every slot is gone.
use Rattle.std.proofs.Common.{ap, ◌∙◌}
use Rattle.std.specs.List.{list_all}
use Rattle.loaded_jobs.proofs.RestLemmas.{empty-same}
use Rattle.loaded_jobs.proofs.jobs.Jobs.is_empty.Goals as goal

pub returns : goal.returns
returns c = λ s keeps. c.all_gone.ensures ∙ ap (list_all (λ e. e.has_gone)) c.deref.ensures.value ∙ empty-same s.reading c.args.self.now.job_slots.items s.jobs keeps.jobs
