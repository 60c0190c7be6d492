-- What is written and the orders to come are the text of all orders.
use Rattle.std.proofs.Common.{◌≡◌, ◌∷◌, ◌++◌, drop, false}
use Rattle.serde_json.specs.Written.{items_text}
use Rattle.ctl_protocol.specs.OutcomeLines.{orders_data, plain_orders}
use Rattle.ctl_protocol.proofs.orders.orders_text.Given as goal

abbrev pub invariant-loop-job : goal.invariant-loop-job
invariant-loop-job l = l.text.items ++ items_text l.later (orders_data (plain_orders (drop l.job-index l.orders))) ≡ 91 ∷ items_text false (orders_data (plain_orders l.orders))
