-- The exit status of what was written whole.
use Rattle.std.proofs.Common.{◌≡◌, ℕ, sym, subst, Result, Ok, Err, true≢false}
use Rattle.std.specs.Prelude.{IfOk, OnErr}
use Rattle.std.specs.declared.io.Error.{Error}
use Rattle.run_times.specs.declared.telling.Outcome.{Outcome}
use Rattle.run_times.specs.Endings.{WantsMemory}

-- What holds of the status of what was made holds of the status that is answered.
pub carried : {E : Type 0} (P : ℕ → Type 0) (made : Result Outcome E) (result : Result ℕ Error) → IfOk made (λ outcome. P outcome.status)
    → IfOk made (λ outcome. IfOk result (λ status. status ≡ outcome.status)) → OnErr made (WantsMemory result) → IfOk result P
carried P (Ok outcome) (Ok status) fits same wants = subst P (sym same) fits
carried P (Ok outcome) (Err error) fits same wants = tt
carried P (Err none) (Ok status) fits same wants = absurd (true≢false (sym wants.0))
carried P (Err none) (Err error) fits same wants = tt
