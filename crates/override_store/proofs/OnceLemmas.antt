-- A list of the rows has each label once.
use Rattle.std.proofs.Common.{◌≡◌, inl, inr, ℕ, List, [], ◌∷◌, map, Bool, false, Ordering, Less, Equal, Greater, refl, sym, ap, subst, ◌∙◌, true≢false}
use Rattle.std.specs.List.{AllByRecursion, AllZip, IsDistinct}
use Rattle.std.specs.Ordering.{is_eq, ordering_reverse}
use Rattle.std.specs.Cmp.Lexicographic.{same_text}
use Rattle.std.proofs.lemmas.Bool.{cases_Bool}
use Rattle.std.proofs.lemmas.Cmp.{tied_itself}
use Rattle.std.proofs.lemmas.Map.Keys.{IsDistinct-IsPermutation}
use Rattle.sqlite.specs.declared.types.Value.TheVariants.{Text}
use Rattle.sqlite_value.specs.Order.{Row, column, value_cmp}
use Rattle.sqlite_value.proofs.OrderLemmas.{value_cmp_total}
use Rattle.sqlite_trees.specs.Tree.{IsTable, rowid}
use Rattle.sqlite_rules.specs.Lists.{Has}
use Rattle.sqlite_rules.proofs.ListLemmas.{all_has, all_from}
use Rattle.sqlite_rules.proofs.ProbeLemmas.{has_mapped}
use Rattle.sqlite.specs.Effect.{Database}
use Rattle.sqlite.specs.Schema.{Schema}
use Rattle.sqlite_catalog.specs.Listing.{IsSound}
use Rattle.history_model.specs.Labels.{is_same}
use Rattle.override_store.specs.OverrideStores.{AreOurs, setting_rows}
use Rattle.override_store.specs.Settings.{shown, Lists}
use Rattle.override_store.proofs.RowLemmas.{equal_is, text_is}
use Rattle.override_store.proofs.TypedLemmas.{seconds_alone, seconds_labelled}

-- two rows of an answer have one label
abbrev ties : Row → Row → Bool
ties x y = is_eq (value_cmp (column x 0) (column y 0))

reversed : (o : Ordering) → is_eq (ordering_reverse o) ≡ is_eq o
reversed Less = refl
reversed Equal = refl
reversed Greater = refl

flips : (x y : Row) → ties x y ≡ ties y x
flips x y = ap is_eq (value_cmp_total.antisymm (column x 0) (column y 0)) ∙ reversed (value_cmp (column y 0) (column x 0))

rows_once : (rows : List Row) → IsTable rows → ((r : Row) → Has rows r → (t : List ℕ) × (column r 1 ≡ Text t))
    → ((r s : Row) (l : List ℕ) → Has rows r → Has rows s → column r 1 ≡ Text l → column s 1 ≡ Text l → r ≡ s) → IsDistinct ties (map shown rows)
unfolding IsDistinct
rows_once [] up labelled one = tt
rows_once (x ∷ rows) up labelled one = (
  all_from (λ y. ties (shown x) y ≡ false) (map shown rows) (λ y h.
      let r = has_mapped shown rows y h in
      let apart : ties (shown x) (shown r.0) ≡ false = elim (cases_Bool (ties (shown x) (shown r.0))) [
        | inl tied ↦ absurd (
            let t = labelled r.0 (inr r.1) in
            let tie : value_cmp (column x 1) (Text t.0) ≡ Equal = subst (λ v. value_cmp (column x 1) v ≡ Equal) t.1 (equal_is _ tied) in
            let same = one x r.0 t.0 (inl refl) (inr r.1) (text_is (column x 1) t.0 tie) t.1 in
            let below : value_cmp (rowid x) (rowid x) ≡ Less = subst (λ (z : Row). value_cmp (rowid x) (rowid z) ≡ Less) (sym same) (all_has _ rows r.0 up.0 r.1) in
            let e : Less ≡ Equal = sym below ∙ tied_itself value_cmp_total (rowid x) in
            cc)
        | inr other ↦ other
      ] in
      subst (λ z. ties (shown x) z ≡ false) (sym r.2) apart),
  rows_once rows up.1 (λ r h. labelled r (inr h)) (λ r s l p q. one r s l (inr p) (inr q)),
)

module _ {A : Type 0} (label_of : A → List ℕ) (Reads : Row → A → Type 0) (labelled : (row : Row) (a : A) → Reads row a → column row 0 ≡ Text (label_of a)) where
  apart_from : (x : Row) (l : List ℕ) → column x 0 ≡ Text l → (xs : List Row) (es : List A) → AllZip Reads xs es → AllByRecursion (λ y. ties x y ≡ false) xs → AllByRecursion (λ k. is_same l k ≡ false) (map label_of es)
  apart_from x l is [] [] all apart = tt
  apart_from x l is [] (e ∷ es) all apart = absurd all
  apart_from x l is (y ∷ xs) [] all apart = absurd all
  apart_from x l is (y ∷ xs) (e ∷ es) all apart = (
    elim (cases_Bool (is_same l (label_of e))) [
      | inl same ↦ absurd (
          let here : column y 0 ≡ Text l = labelled y e all.0 ∙ ap Text (sym (same_text l (label_of e) (sym same))) in
          let tie : value_cmp (column x 0) (column y 0) ≡ Equal = rw (is, here, tied_itself value_cmp_total (Text l)) in
          true≢false (sym (ap is_eq tie) ∙ apart.0))
      | inr other ↦ other
    ],
    apart_from x l is xs es all.1 apart.1,
  )

  labels_once : (xs : List Row) (es : List A) → AllZip Reads xs es → IsDistinct ties xs → IsDistinct is_same (map label_of es)
  unfolding IsDistinct
  labels_once [] [] all apart = tt
  labels_once [] (e ∷ es) all apart = absurd all
  labels_once (x ∷ xs) [] all apart = absurd all
  labels_once (x ∷ xs) (e ∷ es) all apart = (apart_from x (label_of e) (labelled x e all.0) xs es all.1 apart.0, labels_once xs es all.1 apart.1)

  pub once : (db : Database) (all : List A) → AreOurs db → Lists label_of Reads (setting_rows db.trees) all → IsDistinct is_same (map label_of all)
  once db all ours it =
      let sound = subst (λ (c : Schema). IsSound c db.trees) ours.schema ours.sound in
      let rows = rows_once (setting_rows db.trees) ours.shaped.0 (λ r h. seconds_labelled db.trees sound r h) (λ r s l p q. seconds_alone db.trees sound ours.shaped r s l p q) in
      labels_once it.answer all it.each (IsDistinct-IsPermutation ties flips (map shown (setting_rows db.trees)) it.answer it.same rows)
