-- What a store holds after a call.
use Rattle.std.proofs.Common.{◌≡◌, ◌⊎◌, inl, inr, Bool, false, List, Result, IsTrue, IsErr, OnOk, OnErr, Ok, Err, refl, sym, subst, ◌∙◌, arith}
use Rattle.sqlite.specs.Tree.{Trees}
use Rattle.sqlite_disk.specs.Disk.{MoreFaults}
use Rattle.sqlite.specs.Effect.{Database}
use Rattle.sqlite.specs.State.{State, HasCleanDisk, Survives}
use Rattle.override_store.specs.OverrideStores.{IsOurs, setting_rows}
use Rattle.sqlite.specs.Order.{Row}

module _ {A : Type 0} (Keeps : List Row → A → Type 0) {old new : State} {Commits : Trees → Type 0} (survives : Survives old new Commits) (was_open : HasCleanDisk new → IsTrue new.is_open → IsTrue old.is_open) where
  -- a store keeps this, as long as it is open over an honest disk
  abbrev Has : State → A → Type 0
  Has s it = HasCleanDisk s → IsTrue s.is_open → IsOurs s × Keeps (setting_rows s.now.trees) it

  before : (it : A) → Has old it → HasCleanDisk new → IsTrue new.is_open → IsOurs old × Keeps (setting_rows old.now.trees) it
  before it holds clean up =
      let early : HasCleanDisk old = omega (arith, clean, survives.clean) in
      holds early (was_open clean up)

  -- what changes nothing leaves what is kept
  pub kept : (HasCleanDisk new → IsOurs old → IsTrue new.is_open → IsOurs new × (new.now ≡ old.now)) → (it : A) → Has old it → Has new it
  kept same it holds clean up =
      let was = before it holds clean up in
      let both = same clean was.0 up in
      (both.0, subst (λ (d : Database). Keeps (setting_rows d.trees) it) (sym both.1) was.1)

  -- the call that sets answers
  pub answered : {U E : Type 0} (r : Result U E) (more : A → A) → (HasCleanDisk new → IsOurs old → OnOk r (IsOurs new)) → (HasCleanDisk new → IsOurs old → OnOk r ((it : A) → Keeps (setting_rows old.now.trees) it → Keeps (setting_rows new.now.trees) (more it)))
      → (HasCleanDisk new → IsOurs old → IsTrue new.is_open → OnErr r (IsOurs new × (new.now ≡ old.now))) → (it : A) → Has old it → OnOk r (Has new (more it)) × OnErr r (Has new it)
  answered (Ok u) more ours newest same it holds =
      (λ clean up. let was = before it holds clean up in (ours clean was.0, newest clean was.0 it was.1), tt)
  answered (Err e) more ours newest same it holds = (tt, kept same it holds)

not_open : (b : Bool) → b ≡ false → IsTrue b → ⊥
not_open b e h = let turned = sym e ∙ h in cc

-- a store that was shut by the call was refused, the disk failed, and a crash leaves what it left before or what the call commits
pub shut_by : {old new : State} {May : Trees → Type 0} {U E : Type 0} (r : Result U E) (Commits : Trees → Type 0) → Survives old new May → HasCleanDisk new → IsOurs old → new.is_open ≡ false
    → OnOk r (IsOurs new) → ((db : Trees) → May db → Commits db) → IsErr r × MoreFaults old.faults new.faults × ((db : Trees) → new.may_leave db → old.may_leave db ⊎ Commits db)
shut_by {old} {new} r Commits survives clean ours shut ok means = (refused r ok, failed, left)
  where
    refused : {U E : Type 0} (r : Result U E) → OnOk r (IsOurs new) → IsErr r
    refused (Ok u) it = absurd (not_open new.is_open shut it.is_open)
    refused (Err e) it = refl

    failed : MoreFaults old.faults new.faults
    failed = elim (survives.closes clean ours.is_open) [ inl up ↦ absurd (not_open new.is_open shut up) | inr more ↦ more ]

    left : (db : Trees) → new.may_leave db → old.may_leave db ⊎ Commits db
    left db h = elim (survives.crash clean db h) [ inl before ↦ inl before | inr made ↦ inr (means db made) ]
