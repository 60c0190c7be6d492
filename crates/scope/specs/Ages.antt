-- What the clocks make due after a last event.
use Rattle.std.specs.Prelude.{◌≡◌, ◌-◌, ℕ, nat_le, nat_lt, Bool, true, false, Option, Some, None, if◌then◌else◌}
use Rattle.history_model.specs.declared.reasons.Reasons.{Reasons}
use Rattle.scope.specs.declared.texts.since.TheConstants.{ON_TIME}

-- an `up` that is still to come at this `up`
abbrev pub still_coming : Option ℕ → ℕ → Option ℕ
still_coming None up = None
still_coming (Some until) up = if nat_le until up then None else Some until

-- the reasons, but that a throttle which is over at this `up` is left out
abbrev pub reasons_then : Reasons → ℕ → Reasons
reasons_then r up = record r { throttled_until = still_coming r.throttled_until up }

-- An order that may be given at these values of `up` came due after the last clock reading and up to
-- now: its `up`. None if it may not be given now, or might have been then.
abbrev pub ComesSince : (ℕ → Bool) → ℕ → ℕ → Option ℕ → Type 0
ComesSince may last now None = may now ≡ true → may last ≡ true
ComesSince may last now (Some at) =
    (may last ≡ false) × (may now ≡ true) × ((up : ℕ) → may up ≡ nat_le at up)

-- a start that comes at one second is overdue at another: more than two seconds passed
abbrev pub is_overdue : ℕ → ℕ → Bool
is_overdue at now = nat_lt ON_TIME (now - at)
