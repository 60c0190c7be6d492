use Rattle.std.proofs.Common.{◌≡◌, map, take}
use Rattle.load_plan.specs.Plan.{operation_of, with_operations}
use Rattle.load_plan.proofs.add_loaded.Given as goal

abbrev pub invariant-loop-job : goal.invariant-loop-job
invariant-loop-job l = l.steps.items ≡ with_operations (operation_of l.files l.loaded l.flags) (map (λ job. job.label) (take l.job-index l.loaded)) l.fn.steps.items
