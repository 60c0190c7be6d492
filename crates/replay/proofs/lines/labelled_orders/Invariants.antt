-- What stays true in the loop of `lines::labelled_orders`.
use Rattle.std.proofs.Common.{◌≡◌, take}
use Rattle.ctl_protocol.specs.OutcomeLines.{plain_orders}
use Rattle.job_table.specs.Ends.{names_in}
use Rattle.loaded_jobs.specs.StandsFor.{labelled}
use Rattle.replay.proofs.lines.labelled_orders.Given as goal

-- the orders before are told
abbrev pub invariant-loop-order : goal.invariant-loop-order
invariant-loop-order l = plain_orders l.orders.items ≡ labelled (names_in l.step) (take l.order-index l.step.orders.now)
