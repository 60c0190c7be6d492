use Rattle.std.proofs.Common.{◌∙◌, ap}
use Rattle.load_plan.specs.Plan.{operation_of, unload_only}
use Rattle.load_plan.proofs.PlanLemmas.{next_operation}
use Rattle.load_plan.proofs.add_unloads.Goals as goal

pub loop-job-preserved : goal.loop-job-preserved
loop-job-preserved c =
    next_operation (λ label. unload_only (operation_of c.args.files.now c.args.loaded.now c.args.flags.now label)) (λ job. job.label) c.args.loaded.now c.loop-job.job-index _ c.unload_only-operation.result c.args.steps.now.items c.loop-job.steps.items c.add_operation.new.steps.items c.loop-job-test.true
    (c.unload_only-operation.ensures ∙ ap unload_only c.operation_of-found.ensures) c.loop-job.invariant c.in_ok-add_operation.ensures
