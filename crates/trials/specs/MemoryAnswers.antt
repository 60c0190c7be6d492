-- What a store in memory answers if it is asked for its settings.
use Rattle.std.specs.Prelude.{◌≡◌, ◌⊎◌, List, Option, Some, None, Result, Ok, Err}
use Rattle.history_model.specs.declared.event.Setting.{Setting}
use Rattle.outside.specs.declared.store.StoreFault.{StoreFault}
use Rattle.outside.specs.declared.store.StoreFault.TheVariants.{NoMemory}

-- the fault that it was made with, or else all that it holds, if there is memory for the copies
abbrev pub MayGive : List Setting → Option StoreFault → Result (List Setting) StoreFault → Type 0
MayGive held (Some fault) answer = answer ≡ Err fault
MayGive held None answer = (answer ≡ Ok held) ⊎ (answer ≡ Err NoMemory)
