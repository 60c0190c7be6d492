-- What stays when the jobs that are gone are dropped.
use Rattle.std.proofs.Common.{◌≡◌, ℕ, ◌==◌, Bool, true, false, not, ◌&&◌, ◌||◌, cond, List, [], ◌∷◌, map, refl, ap, ◌∙◌}
use Rattle.std.specs.List.{filter, list_any, AllByRecursion}
use Rattle.slab.specs.Slab.{Slab, get}
use Rattle.loaded_jobs.specs.Tables.{Name, IsOther, IsOnce}
use Rattle.loaded_jobs.specs.JobSlots.{row, name, rows, AllStay, job_slot_stays, has_gone_under}
use Rattle.loaded_jobs.specs.Sound.{AreHeld}
use Rattle.loaded_jobs.specs.declared.job_slot.JobSlot.{JobSlot}
use Rattle.history_model.proofs.BooleanLemmas.{and-false}
use Rattle.loaded_jobs.proofs.EnteringLemmas.{number-false}

pub tidy-rows : (es : List JobSlot) → rows (filter job_slot_stays es) ≡ rows es
tidy-rows [] = refl
tidy-rows (e ∷ es) = go e.has_gone refl (tidy-rows es)
  where
    go : (b : Bool) → e.has_gone ≡ b → rows (filter job_slot_stays es) ≡ rows es →
        rows (cond (not b) (e ∷ filter job_slot_stays es) (filter job_slot_stays es)) ≡ cond b (rows es) (row e ∷ rows es)
    go true is later = later
    go false is later = ap (λ b. cond b (rows (filter job_slot_stays es)) (row e ∷ rows (filter job_slot_stays es))) is ∙ ap (λ rs. row e ∷ rs) later

pub tidy-stay : (es : List JobSlot) → AllStay (filter job_slot_stays es)
tidy-stay [] = tt
tidy-stay (e ∷ es) = go e.has_gone refl (tidy-stay es)
  where
    go : (b : Bool) → e.has_gone ≡ b → AllStay (filter job_slot_stays es) → AllStay (cond (not b) (e ∷ filter job_slot_stays es) (filter job_slot_stays es))
    go true is later = later
    go false is later = (is, later)

tidy-other : (n : Name) (es : List JobSlot) → IsOther n (map name es) → IsOther n (map name (filter job_slot_stays es))
tidy-other n [] other = tt
tidy-other n (e ∷ es) other = go e.has_gone (tidy-other n es other.2)
  where
    go : (b : Bool) → IsOther n (map name (filter job_slot_stays es)) → IsOther n (map name (cond (not b) (e ∷ filter job_slot_stays es) (filter job_slot_stays es)))
    go true later = later
    go false later = (other.0, other.1, later)

pub tidy-once : (es : List JobSlot) → IsOnce (map name es) → IsOnce (map name (filter job_slot_stays es))
tidy-once [] once = tt
tidy-once (e ∷ es) once = go e.has_gone (tidy-once es once.1)
  where
    go : (b : Bool) → IsOnce (map name (filter job_slot_stays es)) → IsOnce (map name (cond (not b) (e ∷ filter job_slot_stays es) (filter job_slot_stays es)))
    go true later = later
    go false later = (tidy-other (name e) es once.0, later)

-- ---- numbers

under-other : (m n : ℕ) (going : Bool) → (m == n) ≡ false → (going && (m == n)) ≡ false
under-other m n going e = ap (λ b. going && b) e ∙ and-false going

pub other-free : (n : Name) (es : List JobSlot) → IsOther n (map name es) → list_any (has_gone_under n.number) es ≡ false
other-free n [] other = refl
other-free n (e ∷ es) other =
    ap (λ b. b || list_any (has_gone_under n.number) es) (under-other e.number n.number e.has_gone (number-false n.number e.number other.0)) ∙ other-free n es other.2

-- if the job stays, no job that is gone has its number
abbrev IsFree : List JobSlot → JobSlot → Type 0
IsFree all e = e.has_gone ≡ false → list_any (has_gone_under e.number) all ≡ false

free-with : (e : JobSlot) (all es : List JobSlot) → IsOther (name e) (map name es) → AllByRecursion (IsFree all) es → AllByRecursion (IsFree (e ∷ all)) es
free-with e all [] other free = tt
free-with e all (x ∷ xs) other free =
    ((λ job_slot_stays. ap (λ b. b || list_any (has_gone_under x.number) all) (under-other e.number x.number e.has_gone other.0) ∙ free.0 job_slot_stays), free-with e all xs other.2 free.1)

free-all : (es : List JobSlot) → IsOnce (map name es) → AllByRecursion (IsFree es) es
free-all [] once = tt
free-all (e ∷ es) once =
    ((λ job_slot_stays. ap (λ b. (b && (e.number == e.number)) || list_any (has_gone_under e.number) es) job_slot_stays ∙ other-free (name e) es once.0), free-with e es es once.0 (free-all es once.1))

held : (old new : Slab (Unit {0})) (all es : List JobSlot) → ((number : ℕ) → list_any (has_gone_under number) all ≡ false → get new number ≡ get old number) →
    AllByRecursion (IsFree all) es → AreHeld old es → AreHeld new (filter job_slot_stays es)
held old new all [] same free are = tt
held old new all (e ∷ es) same free are = go e.has_gone refl (held old new all es same free.1 are.1)
  where
    go : (b : Bool) → e.has_gone ≡ b → AreHeld new (filter job_slot_stays es) → AreHeld new (cond (not b) (e ∷ filter job_slot_stays es) (filter job_slot_stays es))
    go true is later = later
    go false is later = (same e.number (free.0 is) ∙ are.0, later)

pub tidy-held : (old new : Slab (Unit {0})) (es : List JobSlot) → ((number : ℕ) → list_any (has_gone_under number) es ≡ false → get new number ≡ get old number) →
    IsOnce (map name es) → AreHeld old es → AreHeld new (filter job_slot_stays es)
tidy-held old new es same once are = held old new es es same (free-all es once) are
