-- What a job waits for once its run has ended, or its start was refused, and the orders of the step were given.
use Rattle.std.specs.Prelude.{◌≡◌, true, false, Option, Some, None, is_some}
use Rattle.history_model.specs.declared.reasons.Reasons.{Reasons}
use Rattle.history_model.specs.Reasons.{some_want, waits_alone}
use Rattle.scope.specs.declared.journal.waiting.Wait.{Wait}
use Rattle.scope.specs.declared.journal.waiting.Wait.TheVariants.{Leaves, Unwanted, Throttled, Other}

-- It left exactly if it is not loaded. It waits for the end of its throttle exactly if nothing else keeps it
-- from a start. Nothing wants it exactly if no want holds and no answer is awaited: a start that was ordered at
-- once has used up its start request.
abbrev pub WaitsFor : Option Reasons → Wait → Type 0
WaitsFor None Leaves = Unit {0}
WaitsFor None Unwanted = ⊥
WaitsFor None (Throttled up) = ⊥
WaitsFor None Other = ⊥
WaitsFor (Some r) Leaves = ⊥
WaitsFor (Some r) Unwanted = (some_want r.wants ≡ false) × (is_some r.awaited ≡ false)
WaitsFor (Some r) (Throttled up) = (waits_alone r ≡ true) × (r.throttled_until ≡ Some up)
WaitsFor (Some r) Other =
    (waits_alone r ≡ false) × (some_want r.wants ≡ false → is_some r.awaited ≡ true)
