-- What several statements leave that are run in one transaction.
use Rattle.std.specs.Prelude.{◌≡◌, ℕ, true, false, IsTrue, List, Ok}
use Rattle.sqlite.specs.Store.{Ghosts}
use Rattle.sqlite.specs.Effect.{Database}
use Rattle.sqlite.specs.Batch.{ExecutesAllInside}
use Rattle.sqlite.specs.Held.{Held, state}
use Rattle.sqlite.specs.Tree.{Trees}

-- the statements of the text, each run in turn, leave this database
pub record RanBatch {S : Type 0} (g : Ghosts S) (sql : List ℕ) (old : Held S)
    (db : Database) : Type 0 where
  pub last : Held S
  pub ran : ExecutesAllInside g 0 sql (record old { in_transaction = true }) last (Ok tt)
  pub is : db ≡ (state g last).now

-- they were run, and committed
abbrev pub HasRun : {S : Type 0} → Ghosts S → List ℕ → Held S → Held S → Type 0
HasRun g sql old new =
    RanBatch g sql old (state g new).now × IsTrue (state g new).is_open
    × ((state g new).committed ≡ (state g new).now) × ((state g new).in_transaction ≡ false)

-- the trees are those of a database that they leave
abbrev pub LeavesBatch : {S : Type 0} → Ghosts S → List ℕ → Held S → Trees → Type 0
LeavesBatch g sql old trees = (db : Database) × RanBatch g sql old db × (trees ≡ db.trees)
