use Rattle.std.proofs.Common.{◌≡◌, map, take}
use Rattle.load_plan.specs.Plan.{operation_of, unload_only, with_operations}
use Rattle.load_plan.proofs.add_unloads.Given as goal

abbrev pub invariant-loop-job : goal.invariant-loop-job
invariant-loop-job l =
    l.steps.items ≡ with_operations (λ label. unload_only (operation_of l.files l.loaded l.flags label)) (map (λ job. job.label) (take l.job-index l.loaded)) l.fn.steps.items
