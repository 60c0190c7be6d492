-- The goals of `laws::what_changes_nothing_need_not_be_received` that the prover leaves open.
use Rattle.std.proofs.Common.{[]}
use Rattle.history_model.specs.Machine.{opened}
use Rattle.history_model.proofs.StepLemmas.{good-opened}
use Rattle.history_model.proofs.LeftOutLemmas.{at-one, received-same, left-silent, orders-same, hands-more, leaves-more}
use Rattle.history_model.proofs.ObservationLemmas.{seen-still}
use Rattle.history_model.proofs.laws.what_changes_nothing_need_not_be_received.Goals as goal

pub returns-clause-outcomes : goal.returns-clause-outcomes
returns-clause-outcomes c = λ h lines range may.
    received-same lines h.reading [] (opened h) (at-one (opened h) (good-opened h range)) may

pub returns-clause-silent : goal.returns-clause-silent
returns-clause-silent c = λ h lines range may.
    left-silent lines h.reading [] (opened h) (at-one (opened h) (good-opened h range)) may

pub returns-clause-orders : goal.returns-clause-orders
returns-clause-orders c = λ h lines range may.
    orders-same lines (opened h) (good-opened h range) may

pub returns-clause-seen : goal.returns-clause-seen
returns-clause-seen c = λ s after path obs no_look no_load. seen-still path obs s after no_look no_load

pub returns-clause-left : goal.returns-clause-left
returns-clause-left c = λ last s lines e may quiet. leaves-more lines last s e may quiet

pub returns-clause-handed : goal.returns-clause-handed
returns-clause-handed c = λ last s lines e may in_time. hands-more lines last s e may in_time
