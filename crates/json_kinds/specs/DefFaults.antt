-- A key's value, or its fault. The first fault is the answer.
use Rattle.std.specs.Prelude.{◌≡◌, Option, Some, None, Result, Ok, Err}
use Rattle.history_model.specs.declared.Reason.{Reason}
use Rattle.history_model.specs.declared.KeyName.{KeyName}
use Rattle.history_model.specs.Machine.{Fault}
use Rattle.json_kinds.specs.declared.fault.DefFault.{DefFault}
use Rattle.json_kinds.specs.declared.fault.DefFault.TheVariants.{Bad, NoMemory}

-- the fault with this reason, at this key
abbrev pub bad : Reason → KeyName → Fault
bad reason key = record { reason = reason; key = key }

-- go on with the value; a fault stays the answer
infixl 10 ◌>>=◌
abbrev pub ◌>>=◌ : {A B E : Type 0} → Result A E → (A → Result B E) → Result B E
(Ok x) >>= f = f x
(Err e) >>= f = Err e

-- the value, or this fault if there is none
abbrev pub or_fault : {A E : Type 0} → Option A → E → Result A E
or_fault None e = Err e
or_fault (Some x) e = Ok x

-- the fault is the given one, or memory ran out
abbrev pub Fails : {Y : Type 0} → DefFault → Result Y Fault → Type 0
Fails (Bad reason key) wanted = wanted ≡ Err (bad reason key)
Fails NoMemory wanted = Unit {0}

-- what was answered, seen by `view`, is the given value or the given fault, unless memory ran out
abbrev pub Gives : {X Y : Type 0} → (X → Y) → Result X DefFault → Result Y Fault → Type 0
Gives view (Ok x) wanted = wanted ≡ Ok (view x)
Gives view (Err e) wanted = Fails e wanted
