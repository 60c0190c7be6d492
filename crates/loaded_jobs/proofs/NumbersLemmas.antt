-- The numbers of the loaded jobs, before an event and after it.
use Rattle.std.proofs.Common.{◌≡◌, ℕ, zero, suc, ◌==◌, Bool, true, false, not, ◌||◌, cond, List, [], ◌∷◌, ◌++◌, map, take, drop, Some, refl, sym, ap, ◌∙◌, subst}
use Rattle.std.proofs.lemmas.Bool.{false≢true}
use Rattle.std.specs.List.{AllByRecursion}
use Rattle.loaded_jobs.specs.Tables.{Name, IsOther, IsOnce, Row, definition_of_number}
use Rattle.loaded_jobs.specs.JobSlots.{row, name, rows, gone, AllStay}
use Rattle.loaded_jobs.specs.Numbers.{row_names, is_loaded, not_loaded, IsNumbered}
use Rattle.loaded_jobs.specs.Sound.{seen_table, IsSound}
use Rattle.loaded_jobs.specs.declared.job_slot.JobSlot.{JobSlot}
use Rattle.loaded_jobs.specs.declared.jobs.Jobs.{Jobs}
use Rattle.loaded_jobs.proofs.PlacesLemmas.{rows-all}
use Rattle.history_model.proofs.LawfulLemmas.{eqb-self, eqb-false}

names-map : (es : List JobSlot) → map name es ≡ row_names (map row es)
names-map [] = refl
names-map (e ∷ es) = ap (λ ns. name e ∷ ns) (names-map es)

-- if no job is gone, the names are those of the rows
pub names-begun : (es old : List JobSlot) → AllStay es → rows es ≡ rows old → map name es ≡ row_names (rows old)
names-begun es old stay same = names-map es ∙ ap row_names (sym (rows-all es stay) ∙ same)

abbrev IsNamedIn : List Name → JobSlot → Type 0
IsNamedIn names e = definition_of_number names e.number ≡ Some e.def

more : (n : Name) (names : List Name) (es : List JobSlot) → IsOther n (map name es) → AllByRecursion (IsNamedIn names) es → AllByRecursion (IsNamedIn (n ∷ names)) es
more n names [] other all = tt
more n names (e ∷ es) other all = (ap (λ b. cond b (Some n.described) (definition_of_number names e.number)) other.0 ∙ all.0, more n names es other.2 all.1)

named-in : (es : List JobSlot) → IsOnce (map name es) → AllByRecursion (IsNamedIn (map name es)) es
named-in [] once = tt
named-in (e ∷ es) once =
    (ap (λ b. cond b (Some e.def) (definition_of_number (map name es) e.number)) (eqb-self e.number), more (name e) (map name es) es once.0 (named-in es once.1))

named-rows : (names : List Name) (es : List JobSlot) → AllByRecursion (IsNamedIn names) es → AllByRecursion (λ (r : Row). definition_of_number names r.number ≡ Some r.described) (rows es)
named-rows names [] all = tt
named-rows names (e ∷ es) all = go e.has_gone (named-rows names es all.1) where
  go : (b : Bool) → AllByRecursion (λ (r : Row). definition_of_number names r.number ≡ Some r.described) (rows es) →
      AllByRecursion (λ (r : Row). definition_of_number names r.number ≡ Some r.described) (cond b (rows es) (row e ∷ rows es))
  go true rest = rest
  go false rest = (all.0, rest)

pub swapped : (a b : ℕ) → (a == b) ≡ false → (b == a) ≡ false
swapped a b differ = eqb-false b a (λ same. false≢true (sym (subst (λ n. (a == n) ≡ false) same differ) ∙ eqb-self a))

-- a name that is none of theirs is that of no loaded job
not-among : (n : Name) (es : List JobSlot) → IsOther n (map name es) → is_loaded (rows es) n ≡ false
not-among n [] other = refl
not-among n (e ∷ es) other = go e.has_gone (not-among n es other.2) where
  go : (b : Bool) → is_loaded (rows es) n ≡ false → is_loaded (cond b (rows es) (row e ∷ rows es)) n ≡ false
  go true rest = rest
  go false rest = λ i. other.0 i || rest i

-- one loaded job more leaves the other names as they are
beside : (e : JobSlot) (rs : List Row) (es : List JobSlot) → IsOther (name e) (map name es) → not_loaded (row e ∷ rs) (map name es) ≡ not_loaded rs (map name es)
beside e rs [] other = refl
beside e rs (x ∷ es) other =
    let rest = beside e rs es other.2 in λ i. cond (not (swapped e.number x.number other.0 i || is_loaded rs (name x))) (name x ∷ rest i) (rest i)

gone-names : (es : List JobSlot) → IsOnce (map name es) → row_names (gone es) ≡ not_loaded (rows es) (map name es)
gone-names [] once = refl
gone-names (e ∷ es) once = go e.has_gone (gone-names es once.1) where
  go : (b : Bool) → row_names (gone es) ≡ not_loaded (rows es) (map name es) →
      row_names (cond b (row e ∷ gone es) (gone es)) ≡ not_loaded (cond b (rows es) (row e ∷ rows es)) (name e ∷ map name es)
  go true rest =
      ap (λ ns. name e ∷ ns) rest
      ∙ sym (ap (λ b. cond (not b) (name e ∷ not_loaded (rows es) (map name es)) (not_loaded (rows es) (map name es))) (not-among (name e) es once.0))
  go false rest =
      let left = not_loaded (row e ∷ rows es) (map name es) in
      rest ∙ sym (beside e (rows es) es once.0)
      ∙ sym (ap (λ b. cond (not (b || is_loaded (rows es) (name e))) (name e ∷ left) left) (eqb-self e.number))

-- every table's numbers stand for its labels
pub numbered : (t : Jobs) → IsSound t → IsNumbered (seen_table t)
numbered t sound =
    let es = t.job_slots.items in
    record {
      once = sound.once;
      named = named-rows (map name es) es (named-in es sound.once);
      gone = gone-names es sound.once;
    }

all-placed : (P : JobSlot → Type 0) (e : JobSlot) (es : List JobSlot) (k : ℕ) → AllByRecursion P (take k es ++ e ∷ drop k es) → P e × AllByRecursion P es
all-placed P e es zero all = (all.0, all.1)
all-placed P e [] (suc k) all = (all.0, tt)
all-placed P e (x ∷ xs) (suc k) all = let later = all-placed P e xs k all.1 in (later.0, (all.0, later.1))

-- a job that is put among the others leaves each its number
pub named-placed : (e : JobSlot) (es : List JobSlot) (k : ℕ) → IsOnce (map name (take k es ++ e ∷ drop k es)) →
    (definition_of_number (map name (take k es ++ e ∷ drop k es)) e.number ≡ Some e.def)
    × AllByRecursion (λ (r : Row). definition_of_number (map name (take k es ++ e ∷ drop k es)) r.number ≡ Some r.described) (rows es)
named-placed e es k once =
    let all = take k es ++ e ∷ drop k es in
    let each = all-placed (IsNamedIn (map name all)) e es k (named-in all once) in
    (each.0, named-rows (map name all) es each.1)
