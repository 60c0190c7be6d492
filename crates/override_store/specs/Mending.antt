-- What the statements of a mend do within its transaction.
use Rattle.std.specs.Prelude.{◌≡◌, List, [], ◌∷◌, Result, OnOk, IsTrue}
use Rattle.sqlite.specs.State.{State, HasCleanDisk}
use Rattle.override_store.specs.declared.StoreFault.{StoreFault}
use Rattle.override_store.specs.declared.known.Known.{Known}
use Rattle.override_store.specs.OverrideStores.{AreOurs, rows_now}
use Rattle.override_store.specs.KnownSettings.{HasKnown}

-- a transaction is open over a database of ours
pub record IsInside (s : State) : Type 0 where
  pub mode : IsTrue s.in_transaction
  pub ours : AreOurs s.now

-- a call that is begun so and answers Ok leaves the transaction open, and this holds
abbrev pub Inside : State → State → Result (Unit {0}) StoreFault → Type 0 → Type 0
Inside old new result Holds =
    HasCleanDisk new → IsInside old → OnOk result (IsInside new × Holds)

-- it leaves no setting
abbrev pub Clears : State → State → Result (Unit {0}) StoreFault → Type 0
Clears old new result = Inside old new result (rows_now new ≡ [])

-- it makes one setting, and leaves the others
abbrev pub PutsOne : State → State → Known → Result (Unit {0}) StoreFault → Type 0
PutsOne old new one result =
    Inside old new result
    ((known : List Known) → HasKnown (rows_now old) known → HasKnown (rows_now new) (one ∷ known))

-- over no setting, it makes all that are known
abbrev pub Fills : State → State → List Known → Result (Unit {0}) StoreFault → Type 0
Fills old new known result =
    Inside old new result (rows_now old ≡ [] → HasKnown (rows_now new) known)

-- it makes all that are known, and leaves no other
abbrev pub IsMended : State → State → List Known → Result (Unit {0}) StoreFault → Type 0
IsMended old new known result = Inside old new result (HasKnown (rows_now new) known)

-- within a transaction, only an open connection answers Ok
abbrev pub RunsOpen : State → State → Result (Unit {0}) StoreFault → Type 0
RunsOpen old new result =
    HasCleanDisk new → IsTrue old.in_transaction → OnOk result (IsTrue old.is_open)
