use Rattle.std.proofs.Common.{map}
use Rattle.load_plan.specs.Plan.{operation_of, unload_only}
use Rattle.load_plan.proofs.PlanLemmas.{has_operations, are_once}
use Rattle.load_plan.proofs.OrderLemmas.{in_order}
use Rattle.load_plan.proofs.steps_of.Goals as goal

pub returns-clause-operations : goal.returns-clause-operations
returns-clause-operations c =
    has_operations c.args.files.now c.args.loaded.now c.args.flags.now c.new-steps.result.items c.add_unloads.new.steps.items c.add_loaded.new.steps.items c.add_files.new.steps.items c.new-steps.ensures.items c.in_ok-add_unloads.ensures c.in_ok-add_loaded.ensures c.in_ok-add_files.ensures

pub returns-clause-once : goal.returns-clause-once
returns-clause-once c =
    are_once (λ label. unload_only (operation_of c.args.files.now c.args.loaded.now c.args.flags.now label)) (operation_of c.args.files.now c.args.loaded.now c.args.flags.now) (map (λ job. job.label) c.args.loaded.now) (map (λ file. file.label) c.args.files.now) c.new-steps.result.items c.add_unloads.new.steps.items c.add_loaded.new.steps.items c.add_files.new.steps.items c.new-steps.ensures.items c.in_ok-add_unloads.ensures c.in_ok-add_loaded.ensures c.in_ok-add_files.ensures

pub returns-clause-in_order : goal.returns-clause-in_order
returns-clause-in_order c =
    in_order c.args.files.now c.args.loaded.now c.args.flags.now c.new-steps.result.items c.add_unloads.new.steps.items c.add_loaded.new.steps.items c.add_files.new.steps.items c.new-steps.ensures.items c.in_ok-add_unloads.ensures c.in_ok-add_loaded.ensures c.in_ok-add_files.ensures
