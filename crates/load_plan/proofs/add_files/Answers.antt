use Rattle.load_plan.specs.Plan.{operation_of}
use Rattle.load_plan.proofs.PlanLemmas.{next_operation}
use Rattle.load_plan.proofs.add_files.Goals as goal

pub loop-file-preserved : goal.loop-file-preserved
loop-file-preserved c =
    next_operation (operation_of c.args.files.now c.args.loaded.now c.args.flags.now) (λ file. file.label) c.args.files.now c.loop-file.file-index _ c.operation_of-operation.result c.args.steps.now.items c.loop-file.steps.items c.add_operation.new.steps.items c.loop-file-test.true c.operation_of-operation.ensures c.loop-file.invariant c.in_ok-add_operation.ensures
