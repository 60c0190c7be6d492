-- A new job among the others.
use Rattle.std.proofs.Common.{◌≡◌, ℕ, zero, suc, ◌==◌, Bool, true, false, ◌||◌, cond, List, [], ◌∷◌, ◌++◌, map, take, drop, length, Option, Some, None, refl, sym, ap, ◌∙◌, subst, arith, ◌≤◌}
use Rattle.std.specs.Prelude.{unwrap_or, ◌≢◌}
use Rattle.std.specs.List.{position}
use Rattle.slab.specs.Slab.{Slab, get, Updates}
use Rattle.history_model.specs.declared.Reading.{Reading}
use Rattle.history_model.specs.Labels.{is_same, is_before}
use Rattle.history_model.specs.Machine.{Job}
use Rattle.history_model.specs.Step.{with_job}
use Rattle.loaded_jobs.specs.Tables.{Name, IsOther, IsOnce}
use Rattle.loaded_jobs.specs.StandsFor.{KeepsJob, KeepsJobs}
use Rattle.loaded_jobs.specs.JobSlots.{row, name, rows, AllStay, is_above, job_slots_with}
use Rattle.loaded_jobs.specs.Sound.{AreHeld}
use Rattle.loaded_jobs.specs.Loads.{IsAbsent}
use Rattle.loaded_jobs.specs.Minutes.{some_calendar}
use Rattle.history_model.specs.News.{is_some_entry}
use Rattle.loaded_jobs.specs.declared.job_slot.JobSlot.{JobSlot}
use Rattle.loaded_jobs.proofs.FirstLemmas.{IsFirstWhere, NonePasses, first-where, none-where}
use Rattle.loaded_jobs.proofs.PlacesLemmas.{rows-all}
use Rattle.history_model.proofs.BooleanLemmas.{or-assoc, or-swap}
use Rattle.std.proofs.lemmas.List.{length-map}
use Rattle.history_model.proofs.FreshOrdersLemmas.{differ-sym}

-- ---- labels and numbers

pub number-false : (m n : ℕ) → (m == n) ≡ false → (n == m) ≡ false
number-false m n e = grind (arith, e)

other-placed : (n : Name) (new : JobSlot) (es : List JobSlot) (k : ℕ) → IsOther n (map name es) → (n.number == new.number) ≡ false →
    is_same n.described.label new.def.label ≡ false → IsOther n (map name (take k es ++ new ∷ drop k es))
other-placed n new es zero other number label = (number, label, other)
other-placed n new [] (suc k) other number label = (number, label, tt)
other-placed n new (e ∷ es) (suc k) other number label = (other.0, other.1, other-placed n new es k other.2 number label)

pub once-placed : (new : JobSlot) (es : List JobSlot) (k : ℕ) → IsOnce (map name es) → IsOther (name new) (map name es) → IsOnce (map name (take k es ++ new ∷ drop k es))
once-placed new es zero once other = (other, once)
once-placed new [] (suc k) once other = (tt, tt)
once-placed new (e ∷ es) (suc k) once other =
    (other-placed (name e) new es k once.0 (number-false new.number e.number other.0) (differ-sym new.def.label e.def.label other.1), once-placed new es k once.1 other.2)

-- a number that is not given out is not a job's
pub is-other : (numbers : Slab (Unit {0})) (new : JobSlot) (es : List JobSlot) → AreHeld numbers es → get numbers new.number ≡ None → IsAbsent new.def.label (map name es) →
    IsOther (name new) (map name es)
is-other numbers new [] held free absent = tt
is-other numbers new (e ∷ es) held free absent = (go (new.number == e.number) refl, absent.0, is-other numbers new es held.1 free absent.1)
  where
    go : (v : Bool) → (new.number == e.number) ≡ v → v ≡ false
    go true is =
        let same : new.number ≡ e.number = grind (arith, is) in
        let clash : None ≡ Some tt = sym free ∙ ap (get numbers) same ∙ held.0 in absurd (cc clash)
    go false is = refl

pub held-placed : (old new : Slab (Unit {0})) (e : JobSlot) (es : List JobSlot) (k : ℕ) → Updates old new e.number (Some tt) → IsOther (name e) (map name es) → AreHeld old es →
    AreHeld new (take k es ++ e ∷ drop k es)
held-placed old new e es zero updates other held = (updates.changed, all es other held)
  where
    all : (es : List JobSlot) → IsOther (name e) (map name es) → AreHeld old es → AreHeld new es
    all [] other held = tt
    all (x ∷ xs) other held = (updates.others x.number (apart x other.0) ∙ held.0, all xs other.2 held.1)
      where
        apart : (x : JobSlot) → (e.number == x.number) ≡ false → x.number ≢ e.number
        apart x differ = λ same. (let clash : true ≡ false = grind (arith, same, differ) in cc clash)
held-placed old new e [] (suc k) updates other held = (updates.changed, tt)
held-placed old new e (x ∷ xs) (suc k) updates other held =
    (updates.others x.number (λ same. (let clash : true ≡ false = grind (arith, same, other.0) in cc clash)) ∙ held.0, held-placed old new e xs k updates other.2 held.1)

pub stay-placed : (new : JobSlot) (es : List JobSlot) (k : ℕ) → new.has_gone ≡ false → AllStay es → AllStay (take k es ++ new ∷ drop k es)
stay-placed new es zero stays all = (stays, all)
stay-placed new [] (suc k) stays all = (stays, tt)
stay-placed new (e ∷ es) (suc k) stays all = (all.0, stay-placed new es k stays all.1)

-- ---- the machine's own place

module _ (at : Reading) (new : JobSlot) (job : Job) (this : KeepsJob at (row new) job) where
  pub before-job : (e : JobSlot) (j : Job) (b : Bool) → KeepsJob at (row e) j → is_above new.def.label e ≡ b → is_before job.label j.label ≡ b
  before-job e j b keeps is = (λ i. is_before (sym this.label i) (sym keeps.label i)) ∙ is

  enters-at : (es : List JobSlot) (k : ℕ) (jobs : List Job) → KeepsJobs at (map row es) jobs → IsFirstWhere (is_above new.def.label) es k →
      KeepsJobs at (map row (take k es ++ new ∷ drop k es)) (with_job job jobs)
  enters-at [] k jobs keeps first = absurd first
  enters-at (e ∷ es) k [] keeps first = absurd keeps
  enters-at (e ∷ es) zero (j ∷ js) keeps first =
      subst (KeepsJobs at (row new ∷ row e ∷ map row es)) (ap (λ b. cond b (job ∷ j ∷ js) (j ∷ with_job job js)) (sym (before-job e j true keeps.0 first))) (this, keeps)
  enters-at (e ∷ es) (suc k) (j ∷ js) keeps first =
      subst (KeepsJobs at (row e ∷ map row (take k es ++ new ∷ drop k es))) (ap (λ b. cond b (job ∷ j ∷ js) (j ∷ with_job job js)) (sym (before-job e j false keeps.0 first.0)))
      (keeps.0, enters-at es k js keeps.1 first.1)

  enters-last : (es : List JobSlot) (jobs : List Job) → KeepsJobs at (map row es) jobs → NonePasses (is_above new.def.label) es →
      KeepsJobs at (map row (take (length es) es ++ new ∷ drop (length es) es)) (with_job job jobs)
  enters-last [] [] keeps none = (this, tt)
  enters-last [] (j ∷ js) keeps none = absurd keeps
  enters-last (e ∷ es) [] keeps none = absurd keeps
  enters-last (e ∷ es) (j ∷ js) keeps none =
      subst (KeepsJobs at (row e ∷ map row (take (length es) es ++ new ∷ drop (length es) es))) (ap (λ b. cond b (job ∷ j ∷ js) (j ∷ with_job job js)) (sym (before-job e j false keeps.0 none.0)))
      (keeps.0, enters-last es js keeps.1 none.1)

  enters : (es : List JobSlot) (jobs : List Job) (o : Option ℕ) → KeepsJobs at (map row es) jobs → o ≡ position (is_above new.def.label) es →
      KeepsJobs at (map row (take (unwrap_or o (length es)) es ++ new ∷ drop (unwrap_or o (length es)) es)) (with_job job jobs)
  enters es jobs None keeps is = enters-last es jobs keeps (none-where (is_above new.def.label) es is)
  enters es jobs (Some k) keeps is = enters-at es k jobs keeps (first-where (is_above new.def.label) es k is)

  -- the table with the new job stands for the machine with it
  pub entered-kept : (es : List JobSlot) (jobs : List Job) → AllStay es → new.has_gone ≡ false → KeepsJobs at (rows es) jobs → KeepsJobs at (rows (job_slots_with new es)) (with_job job jobs)
  entered-kept es jobs stay stays keeps =
      let k = unwrap_or (position (is_above new.def.label) es) (length es) in
      subst (λ rs. KeepsJobs at rs (with_job job jobs)) (sym (rows-all (take k es ++ new ∷ drop k es) (stay-placed new es k stays stay)))
      (enters es jobs (position (is_above new.def.label) es) (subst (λ rs. KeepsJobs at rs jobs) (rows-all es stay) keeps) refl)

-- ---- the rows of a table with no job that left

few-rows : (es : List JobSlot) → length (rows es) ≤ length es
few-rows [] = omega arith
few-rows (e ∷ es) = go e.has_gone (few-rows es)
  where
    go : (b : Bool) → length (rows es) ≤ length es → length (cond b (rows es) (row e ∷ rows es)) ≤ suc (length es)
    go true later = omega (arith, later)
    go false later = omega (arith, later)

pub stay-from : (es : List JobSlot) → length (rows es) ≡ length es → AllStay es
stay-from [] same = tt
stay-from (e ∷ es) same = go e.has_gone refl same (stay-from es)
  where
    go : (b : Bool) → e.has_gone ≡ b → length (cond b (rows es) (row e ∷ rows es)) ≡ suc (length es) → (length (rows es) ≡ length es → AllStay es) → AllStay (e ∷ es)
    go true is same later = let few = few-rows es in absurd (omega (arith, few, same))
    go false is same later = (is, later (omega (arith, same)))

pub stay-names : (es : List JobSlot) → length (rows es) ≡ length (map name es) → AllStay es
stay-names es same = stay-from es (same ∙ length-map es name)

pub names-stay : (es : List JobSlot) → AllStay es → length (rows es) ≡ length (map name es)
names-stay [] stay = refl
names-stay (e ∷ es) stay = ap (λ b. length (cond b (rows es) (row e ∷ rows es))) stay.0 ∙ ap suc (names-stay es stay.1)

-- ---- calendars

-- with a new job some definition has calendar entries if one had or the new one has
pub calendars-placed : (new : JobSlot) (es : List JobSlot) (k : ℕ) →
    some_calendar (map name (take k es ++ new ∷ drop k es)) ≡ (some_calendar (map name es) || is_some_entry new.def.calendar)
calendars-placed new es zero = or-swap (is_some_entry new.def.calendar) (some_calendar (map name es))
calendars-placed new [] (suc k) = or-swap (is_some_entry new.def.calendar) false
calendars-placed new (e ∷ es) (suc k) =
    ap (λ b. is_some_entry e.def.calendar || b) (calendars-placed new es k) ∙ or-assoc (is_some_entry e.def.calendar) (some_calendar (map name es)) (is_some_entry new.def.calendar)
