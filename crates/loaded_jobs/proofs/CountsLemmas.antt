-- How often the jobs were visited: those that were visited once more, those that were not, and a new one.
use Rattle.std.proofs.Common.{◌≡◌, ℕ, zero, suc, ◌<◌, ◌==◌, Bool, true, false, not, ◌&&◌, ◌||◌, cond, List, [], ◌∷◌, ◌++◌, map, take, drop, length, get_or, refl, sym, ap, ◌∙◌, subst, arith}
use Rattle.std.specs.Prelude.{slice_set, if◌then◌else◌}
use Rattle.std.specs.List.{filter, list_all, list_any}
use Rattle.history_model.specs.Labels.{Label, is_same}
use Rattle.loaded_jobs.specs.Tables.{Row, IsOther, IsOnce}
use Rattle.loaded_jobs.specs.JobSlots.{row, name, rows, gone, AllStay}
use Rattle.loaded_jobs.specs.Loads.{IsAbsent}
use Rattle.loaded_jobs.specs.Counts.{counts, count_in, next_count, went_up, is_near, IsCounted}
use Rattle.loaded_jobs.specs.declared.job_slot.JobSlot.{JobSlot}
use Rattle.loaded_jobs.proofs.ListLemmas.{set-map}
use Rattle.loaded_jobs.proofs.PlacesLemmas.{rows-all, none-gone}
use Rattle.loaded_jobs.proofs.SettingLemmas.{is-label}
use Rattle.loaded_jobs.proofs.EnteringLemmas.{stay-placed}
use Rattle.history_model.proofs.LawfulLemmas.{eqb-self}
use Rattle.history_model.proofs.LabelOrderLemmas.{same_self}
use Rattle.history_model.proofs.FreshOrdersLemmas.{differ-sym}

-- ---- the counts before and after

pub not-next : (n : ℕ) → (next_count n == n) ≡ false
not-next n = grind arith

abbrev pub AreFor : List (Label × ℕ) → List JobSlot → Type 0
AreFor all [] = Unit {0}
AreFor all (e ∷ es) = (count_in all e.def.label ≡ e.core.decided) × AreFor all es

for-more : (e : JobSlot) (all : List (Label × ℕ)) (es : List JobSlot) → IsOther (name e) (map name es) → AreFor all es → AreFor ((e.def.label, e.core.decided) ∷ all) es
for-more e all [] other is = tt
for-more e all (x ∷ xs) other is =
    (ap (λ b. if b then e.core.decided else count_in all x.def.label) (differ-sym e.def.label x.def.label other.1) ∙ is.0, for-more e all xs other.2 is.1)

pub for-all : (es : List JobSlot) → IsOnce (map name es) → AreFor (counts (map row es)) es
for-all [] once = tt
for-all (e ∷ es) once =
    (ap (λ b. if b then e.core.decided else count_in (counts (map row es)) e.def.label) (same_self e.def.label), for-more e (counts (map row es)) es once.0 (for-all es once.1))

pub goes-up : (all : List (Label × ℕ)) (e new : JobSlot) → name new ≡ name e → count_in all e.def.label ≡ e.core.decided → new.core.decided ≡ next_count e.core.decided →
    (went_up all (row new) ≡ true) × (is_near all (row new) ≡ true)
goes-up all e new named before up =
    let at : count_in all new.def.label ≡ e.core.decided = ap (λ n. count_in all n.described.label) named ∙ before in
    let apart : (new.core.decided == count_in all new.def.label) ≡ false = (λ i. up i == at i) ∙ not-next e.core.decided in
    let next : (new.core.decided == next_count (count_in all new.def.label)) ≡ true = (λ i. up i == next_count (at i)) ∙ eqb-self (next_count e.core.decided) in
    (ap not apart, λ i. not (not (apart i)) || next i)

-- ---- no job is asked

idle-all : (all : List (Label × ℕ)) (es : List JobSlot) → AreFor all es → (list_all (is_near all) (map row es) ≡ true) × (length (filter (went_up all) (map row es)) ≡ 0)
idle-all all [] is = (refl, refl)
idle-all all (e ∷ es) is =
    let rest = idle-all all es is.1 in
    let same : (e.core.decided == count_in all e.def.label) ≡ true = ap (λ n. e.core.decided == n) is.0 ∙ eqb-self e.core.decided in
    let stays : went_up all (row e) ≡ false = ap not same in
    let near : is_near all (row e) ≡ true = ap (λ b. not b || (e.core.decided == next_count (count_in all e.def.label))) stays in (
      (λ i. near i && rest.0 i),
      ap (λ b. length (cond b (row e ∷ filter (went_up all) (map row es)) (filter (went_up all) (map row es)))) stays ∙ rest.1,
    )

pub idle : (es : List JobSlot) → AllStay es → IsOnce (map name es) → IsCounted (counts (rows es)) (rows es) (gone es) 0
idle es stay once =
    let done = idle-all (counts (map row es)) es (for-all es once) in
    subst (λ rs. IsCounted (counts rs) rs (gone es) 0) (sym (rows-all es stay))
    (record { each = done.0; visited = sym done.1; unasked = ap (list_any (went_up (counts (map row es)))) (none-gone es stay) })

-- ---- what comes before the scan

-- so it is from counts that are the same for each label
pub counted-from : (a b : List (Label × ℕ)) (rs gs : List Row) (visited : ℕ) → ((label : Label) → count_in a label ≡ count_in b label) → IsCounted a rs gs visited → IsCounted b rs gs visited
counted-from a b rs gs visited same is = record {
  each = sym (λ i. list_all (λ r. not (not (r.decided == same r.described.label i)) || (r.decided == next_count (same r.described.label i))) rs) ∙ is.each;
  visited = is.visited ∙ (λ i. length (filter (λ r. not (r.decided == same r.described.label i)) rs));
  unasked = sym (λ i. list_any (λ r. not (r.decided == same r.described.label i)) gs) ∙ is.unasked;
}

abbrev job_slot-count : JobSlot → Label × ℕ
job_slot-count e = (e.def.label, e.core.decided)

counts-map : (es : List JobSlot) → counts (map row es) ≡ map job_slot-count es
counts-map [] = refl
counts-map (e ∷ es) = ap (λ cs. (e.def.label, e.core.decided) ∷ cs) (counts-map es)

-- a slot that is written with its own count leaves the counts
pub counts-set : (es : List JobSlot) (k : ℕ) (e new : JobSlot) → AllStay es → AllStay (slice_set es k new) → k < length es → e ≡ get_or es k e → name new ≡ name e →
    new.core.decided ≡ e.core.decided → counts (rows (slice_set es k new)) ≡ counts (rows es)
counts-set es k e new stay stays within is named same =
    ap counts (rows-all (slice_set es k new) stays) ∙ counts-map (slice_set es k new)
    ∙ set-map job_slot-count es k e new within is (λ i. ((named i).described.label, same i))
    ∙ sym (counts-map es) ∙ ap counts (sym (rows-all es stay))

-- ---- a new job, which was never asked

absent-count : (label : Label) (es : List JobSlot) → IsAbsent label (map name es) → count_in (counts (map row es)) label ≡ 0
absent-count label [] absent = refl
absent-count label (e ∷ es) absent = ap (λ b. if b then e.core.decided else count_in (counts (map row es)) label) absent.0 ∙ absent-count label es absent.1

first-count : (new : JobSlot) (es : List JobSlot) (label : Label) → IsAbsent new.def.label (map name es) → new.core.decided ≡ 0 →
    (if is_same label new.def.label then new.core.decided else count_in (counts (map row es)) label) ≡ count_in (counts (map row es)) label
first-count new es label absent fresh = go (is_same label new.def.label) refl
  where
    go : (b : Bool) → is_same label new.def.label ≡ b → (if b then new.core.decided else count_in (counts (map row es)) label) ≡ count_in (counts (map row es)) label
    go true is = fresh ∙ sym (ap (count_in (counts (map row es))) (is-label label new.def.label is) ∙ absent-count new.def.label es absent)
    go false is = refl

placed-count : (new : JobSlot) (es : List JobSlot) (k : ℕ) (label : Label) → IsAbsent new.def.label (map name es) → new.core.decided ≡ 0 →
    count_in (counts (map row (take k es ++ new ∷ drop k es))) label ≡ count_in (counts (map row es)) label
placed-count new es zero label absent fresh = first-count new es label absent fresh
placed-count new [] (suc k) label absent fresh = first-count new [] label absent fresh
placed-count new (e ∷ es) (suc k) label absent fresh = ap (λ n. if is_same label e.def.label then e.core.decided else n) (placed-count new es k label absent.1 fresh)

pub counts-placed : (new : JobSlot) (es : List JobSlot) (k : ℕ) (label : Label) → AllStay es → new.has_gone ≡ false → IsAbsent new.def.label (map name es) → new.core.decided ≡ 0 →
    count_in (counts (rows (take k es ++ new ∷ drop k es))) label ≡ count_in (counts (rows es)) label
counts-placed new es k label stay stays absent fresh =
    ap (λ rs. count_in (counts rs) label) (rows-all (take k es ++ new ∷ drop k es) (stay-placed new es k stays stay))
    ∙ placed-count new es k label absent fresh ∙ ap (λ rs. count_in (counts rs) label) (sym (rows-all es stay))
