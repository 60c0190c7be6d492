-- The answers of a call that never wants memory.
use Rattle.std.specs.Prelude.{Result, Ok, Err}
use Rattle.history_model.specs.declared.Refusal.{Refusal}
use Rattle.history_model.specs.declared.Refusal.TheVariants.{NoMemory}

-- the answer is ok, or another refusal
abbrev pub NeedsNoMemory : {A : Type 0} → Result A Refusal → Type 0
NeedsNoMemory (Ok a) = Unit {0}
NeedsNoMemory (Err NoMemory) = ⊥
NeedsNoMemory (Err refusal) = Unit {0}
