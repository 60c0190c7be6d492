use Rattle.load_plan.proofs.StepsLemmas.{unloads_unnamed, ends_no_run, leaves_unclear, leaves_faulty, keeps_beside_unread, prunes_own, keeps_same, heeds_warning, waits_for_no_end, waits_for_going, plan_settles, plan_puts_in_effect, plan_clears_orphans}
use Rattle.load_plan.proofs.MoveLemmas.{moves_whole, loads_rightly}
use Rattle.load_plan.proofs.plan.Goals as goal

pub returns-clause-ends_no_run : goal.returns-clause-ends_no_run
returns-clause-ends_no_run c = ends_no_run c.args.files.now c.args.loaded.now c.args.flags.now c.in_ok-steps.steps.items c.in_ok-steps.ensures.operations

pub returns-clause-leaves_unclear : goal.returns-clause-leaves_unclear
returns-clause-leaves_unclear c = leaves_unclear c.args.files.now c.args.loaded.now c.args.flags.now c.in_ok-steps.steps.items c.in_ok-steps.ensures.operations

pub returns-clause-leaves_faulty : goal.returns-clause-leaves_faulty
returns-clause-leaves_faulty c = leaves_faulty c.args.files.now c.args.loaded.now c.args.flags.now c.in_ok-steps.steps.items c.in_ok-steps.ensures.operations

pub returns-clause-keeps_beside_unread : goal.returns-clause-keeps_beside_unread
returns-clause-keeps_beside_unread c = keeps_beside_unread c.args.files.now c.args.loaded.now c.args.flags.now c.in_ok-steps.steps.items c.in_ok-steps.ensures.operations

pub returns-clause-prunes_own : goal.returns-clause-prunes_own
returns-clause-prunes_own c = prunes_own c.args.files.now c.args.loaded.now c.args.flags.now c.in_ok-steps.steps.items c.in_ok-steps.ensures.operations

pub returns-clause-keeps_same : goal.returns-clause-keeps_same
returns-clause-keeps_same c = keeps_same c.args.files.now c.args.loaded.now c.args.flags.now c.in_ok-steps.steps.items c.in_ok-steps.ensures.operations

pub returns-clause-heeds_warning : goal.returns-clause-heeds_warning
returns-clause-heeds_warning c = heeds_warning c.args.files.now c.args.loaded.now c.args.flags.now c.in_ok-steps.steps.items c.in_ok-steps.ensures.operations

pub returns-clause-waits_for_no_end : goal.returns-clause-waits_for_no_end
returns-clause-waits_for_no_end c = waits_for_no_end c.args.files.now c.args.loaded.now c.args.flags.now c.in_ok-steps.steps.items c.in_ok-steps.ensures.operations

pub returns-clause-settles : goal.returns-clause-settles
returns-clause-settles c = plan_settles c.args.files.now c.args.loaded.now c.args.flags.now c.in_ok-steps.steps.items c.in_ok-steps.ensures.operations c.in_ok-steps.ensures.once

pub returns-clause-puts_in_effect : goal.returns-clause-puts_in_effect
returns-clause-puts_in_effect c = plan_puts_in_effect c.args.files.now c.args.loaded.now c.args.flags.now c.in_ok-steps.steps.items c.in_ok-steps.ensures.operations c.in_ok-steps.ensures.once

pub returns-clause-clears_orphans : goal.returns-clause-clears_orphans
returns-clause-clears_orphans c = plan_clears_orphans c.args.files.now c.args.loaded.now c.args.flags.now c.in_ok-steps.steps.items c.in_ok-steps.ensures.operations c.in_ok-steps.ensures.once

pub returns-clause-waits_for_going : goal.returns-clause-waits_for_going
returns-clause-waits_for_going c = waits_for_going c.args.files.now c.args.loaded.now c.args.flags.now c.in_ok-steps.steps.items c.in_ok-steps.ensures.operations

pub returns-clause-unloads_unnamed : goal.returns-clause-unloads_unnamed
returns-clause-unloads_unnamed c = unloads_unnamed c.args.files.now c.args.loaded.now c.args.flags.now c.in_ok-steps.steps.items c.in_ok-steps.ensures.operations

pub returns-clause-moves_whole : goal.returns-clause-moves_whole
returns-clause-moves_whole c = moves_whole c.args.files.now c.args.loaded.now c.args.flags.now c.in_ok-steps.steps.items c.in_ok-steps.ensures.operations

pub returns-clause-loads_rightly : goal.returns-clause-loads_rightly
returns-clause-loads_rightly c = loads_rightly c.args.files.now c.args.loaded.now c.args.flags.now c.in_ok-steps.steps.items c.in_ok-steps.ensures.operations
