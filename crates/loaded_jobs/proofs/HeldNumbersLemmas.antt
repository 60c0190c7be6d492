-- The numbers of slots with the same names are given out alike.
use Rattle.std.proofs.Common.{◌≡◌, List, [], ◌∷◌, Some, map, subst}
use Rattle.slab.specs.Slab.{Slab, get}
use Rattle.loaded_jobs.specs.Tables.{Name}
use Rattle.loaded_jobs.specs.JobSlots.{name}
use Rattle.loaded_jobs.specs.Sound.{AreHeld}
use Rattle.loaded_jobs.specs.declared.job_slot.JobSlot.{JobSlot}

-- by names alone
abbrev AreUsed : Slab (Unit {0}) → List Name → Type 0
AreUsed numbers [] = Unit {0}
AreUsed numbers (n ∷ names) = (get numbers n.number ≡ Some tt) × AreUsed numbers names

used : (numbers : Slab (Unit {0})) (es : List JobSlot) → AreHeld numbers es → AreUsed numbers (map name es)
used numbers [] held = tt
used numbers (e ∷ es) held = (held.0, used numbers es held.1)

back : (numbers : Slab (Unit {0})) (es : List JobSlot) → AreUsed numbers (map name es) → AreHeld numbers es
back numbers [] held = tt
back numbers (e ∷ es) held = (held.0, back numbers es held.1)

pub held-names : (es later : List JobSlot) (numbers : Slab (Unit {0})) → map name es ≡ map name later → AreHeld numbers es → AreHeld numbers later
held-names es later numbers same held = back numbers later (subst (AreUsed numbers) same (used numbers es held))
