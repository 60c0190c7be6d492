-- The table's flag is that of each state that the table stands for.
use Rattle.std.proofs.Common.{ap, ◌∙◌}
use Rattle.job_table.proofs.JobTable.is_shutting_down.Goals as goal

pub returns : goal.returns
returns c = λ s keeps. c.is_shutting_down.ensures ∙ ap (λ t. t.is_shutting_down) c.self.view_is ∙ keeps.shutdown
