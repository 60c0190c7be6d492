-- Each order is of a job whose number stands for its definition.
use Rattle.std.proofs.Common.{◌≡◌, ℕ, zero, suc, ◌==◌, ◌<◌, Bool, true, false, ◌&&◌, cond, List, [], ◌∷◌, ◌++◌, map, drop, length, get_or, Some, is_some, refl, sym, ap, ◌∙◌}
use Rattle.std.specs.List.{list_all}
use Rattle.std.proofs.lemmas.List.Folds.{list_all-append}
use Rattle.history_model.specs.declared.Order.{Order}
use Rattle.history_model.proofs.BooleanLemmas.{and-both}
use Rattle.loaded_jobs.specs.Tables.{Name, definition_of_number, is_known}
use Rattle.loaded_jobs.specs.JobSlots.{name, is_named}
use Rattle.loaded_jobs.specs.declared.job_slot.JobSlot.{JobSlot}
use Rattle.loaded_jobs.proofs.ListLemmas.{at-drop}
use Rattle.history_model.proofs.LawfulLemmas.{eqb-self}

pub known-more : (names : List Name) (earlier later : List Order) (order : Order) → later ≡ earlier ++ order ∷ [] → is_known names order ≡ true →
    list_all (is_known names) earlier ≡ true → list_all (is_known names) later ≡ true
known-more names earlier later order pushed is all =
    ap (list_all (is_known names)) pushed ∙ list_all-append (is_known names) earlier (order ∷ []) ∙ (λ i. all i && (is i && true))

all-drop : {X : Type 0} (p : X → Bool) (xs : List X) (i : ℕ) → list_all p xs ≡ true → list_all p (drop i xs) ≡ true
all-drop p [] zero all = refl
all-drop p [] (suc i) all = refl
all-drop p (x ∷ xs) zero all = all
all-drop p (x ∷ xs) (suc i) all = all-drop p xs i (and-both (p x) (list_all p xs) all).1

-- the slot at a place that the scan has not reached
pub named-at : (names : List Name) (xs ys : List JobSlot) (i : ℕ) (e : JobSlot) → i < length ys → drop i ys ≡ drop i xs → e ≡ get_or ys i e → list_all (is_named names) xs ≡ true →
    is_named names e ≡ true
named-at names xs ys i e within same is all =
    let first : drop i xs ≡ e ∷ drop (suc i) ys = sym same ∙ at-drop ys i e within is in
    (and-both (is_named names e) (list_all (is_named names) (drop (suc i) ys)) (sym (ap (list_all (is_named names)) first) ∙ all-drop (is_named names) xs i all)).0

more-named : (n : Name) (names : List Name) (es : List JobSlot) → list_all (is_named names) es ≡ true → list_all (is_named (n ∷ names)) es ≡ true
more-named n names [] all = refl
more-named n names (e ∷ es) all =
    let both = and-both (is_named names e) (list_all (is_named names) es) all in (λ i. go (n.number == e.number) both.0 i && more-named n names es both.1 i)
  where
    go : (b : Bool) → is_some (definition_of_number names e.number) ≡ true → is_some (cond b (Some n.described) (definition_of_number names e.number)) ≡ true
    go true is = refl
    go false is = is

-- each slot is named among the slots' own names
pub all-named : (es : List JobSlot) → list_all (is_named (map name es)) es ≡ true
all-named [] = refl
all-named (e ∷ es) =
    λ i. ap (λ b. is_some (cond b (Some e.def) (definition_of_number (map name es) e.number))) (eqb-self e.number) i && more-named (name e) (map name es) es (all-named es) i
