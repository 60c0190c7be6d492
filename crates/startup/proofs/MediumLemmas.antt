-- A medium stays frozen if the one that it is does.
use Rattle.std.proofs.Common.{◌≡◌, ℕ, Bool, List, sym, subst}
use Rattle.std.specs.Prelude.{Result, IsTrue, IsErr}
use Rattle.sqlite_disk.specs.Disk.{StaysFrozen}
use Rattle.startup.specs.declared.medium.Medium.{Medium}
use Rattle.startup.specs.declared.medium.Medium.TheVariants.{Plain, Copied}
use Rattle.startup.specs.Medium.{told, Says}

-- what a frozen medium stays, by what the two of them show
abbrev pub Stays : {F C : Type 0} → (F → List ℕ) → (C → List ℕ) → (F → List ℕ → Type 0) → (C → List ℕ → Type 0) → (F → Bool) → (C → Bool) → (F → Bool) → (C → Bool) → (old new : Medium F C) → Type 0
Stays seen-1 seen-2 left-1 left-2 clean-1 clean-2 frozen-1 frozen-2 old new =
    StaysFrozen (told seen-1 seen-2) (λ medium left. Says (λ file. left-1 file left) (λ copy. left-2 copy left) medium) (told clean-1 clean-2) (told frozen-1 frozen-2) old new

pub plain-stays : {F C : Type 0} (seen-1 : F → List ℕ) (seen-2 : C → List ℕ) (left-1 : F → List ℕ → Type 0) (left-2 : C → List ℕ → Type 0) (clean-1 : F → Bool) (clean-2 : C → Bool) (frozen-1 : F → Bool) (frozen-2 : C → Bool) (medium : Medium F C) (file new : F) {A E : Type 0} (result : Result A E) → medium ≡ Plain file →
    (IsTrue (frozen-1 file) → IsErr result × StaysFrozen seen-1 left-1 clean-1 frozen-1 file new) →
    IsTrue (told frozen-1 frozen-2 medium) → IsErr result × Stays seen-1 seen-2 left-1 left-2 clean-1 clean-2 frozen-1 frozen-2 medium (Plain new)
plain-stays seen-1 seen-2 left-1 left-2 clean-1 clean-2 frozen-1 frozen-2 medium file new result is stays =
    subst (λ m. IsTrue (told frozen-1 frozen-2 m) → IsErr result × Stays seen-1 seen-2 left-1 left-2 clean-1 clean-2 frozen-1 frozen-2 m (Plain new)) (sym is)
    (λ frozen. let both = stays frozen in (both.0, record { frozen = both.1.frozen; same = both.1.same; clean = both.1.clean; no_more = both.1.no_more; no_fewer = both.1.no_fewer }))

pub copied-stays : {F C : Type 0} (seen-1 : F → List ℕ) (seen-2 : C → List ℕ) (left-1 : F → List ℕ → Type 0) (left-2 : C → List ℕ → Type 0) (clean-1 : F → Bool) (clean-2 : C → Bool) (frozen-1 : F → Bool) (frozen-2 : C → Bool) (medium : Medium F C) (copy new : C) {A E : Type 0} (result : Result A E) → medium ≡ Copied copy →
    (IsTrue (frozen-2 copy) → IsErr result × StaysFrozen seen-2 left-2 clean-2 frozen-2 copy new) →
    IsTrue (told frozen-1 frozen-2 medium) → IsErr result × Stays seen-1 seen-2 left-1 left-2 clean-1 clean-2 frozen-1 frozen-2 medium (Copied new)
copied-stays seen-1 seen-2 left-1 left-2 clean-1 clean-2 frozen-1 frozen-2 medium copy new result is stays =
    subst (λ m. IsTrue (told frozen-1 frozen-2 m) → IsErr result × Stays seen-1 seen-2 left-1 left-2 clean-1 clean-2 frozen-1 frozen-2 m (Copied new)) (sym is)
    (λ frozen. let both = stays frozen in (both.0, record { frozen = both.1.frozen; same = both.1.same; clean = both.1.clean; no_more = both.1.no_more; no_fewer = both.1.no_fewer }))
