use Rattle.load_plan.specs.Plan.{operation_of}
use Rattle.load_plan.proofs.PlanLemmas.{next_operation}
use Rattle.load_plan.proofs.add_loaded.Goals as goal

pub loop-job-preserved : goal.loop-job-preserved
loop-job-preserved c =
    next_operation (operation_of c.args.files.now c.args.loaded.now c.args.flags.now) (λ job. job.label) c.args.loaded.now c.loop-job.job-index _ c.operation_of-operation.result c.args.steps.now.items c.loop-job.steps.items c.add_operation.new.steps.items c.loop-job-test.true c.operation_of-operation.ensures c.loop-job.invariant c.in_ok-add_operation.ensures
