-- What the statement that moves the rows of the first table leaves.
use Rattle.std.proofs.Common.{◌≡◌, inl, inr, ℕ, ℤ, pos, List, [], ◌∷◌, map, None, Ok, refl, sym, ap, subst, ◌∙◌}
use Rattle.std.specs.Prelude.{◌↔◌}
use Rattle.std.specs.List.{AllByRecursion}
use Rattle.std.specs.List.Sorted.{IsPermutation}
use Rattle.std.proofs.lemmas.List.Sorted.{IsPermutation-sym, IsPermutation-map}
use Rattle.sqlite.specs.declared.types.Value.{Value}
use Rattle.sqlite.specs.declared.types.Value.TheVariants.{Null, Int, Text}
use Rattle.sqlite_value.specs.Order.{Row, column}
use Rattle.sqlite_trees.specs.declared.store.Shape.TheVariants.{Table}
use Rattle.sqlite_trees.specs.View.{IsShaped}
use Rattle.sqlite_rules.specs.Lists.{Has}
use Rattle.sqlite_rules.proofs.ListLemmas.{all_from}
use Rattle.sqlite_rules.proofs.ProbeLemmas.{has_mapped, mapped_has}
use Rattle.sqlite.specs.Query.{IsAnswer, Output, output}
use Rattle.sqlite.specs.Program.{overlay}
use Rattle.sqlite.specs.Does.{Tally, Does}
use Rattle.sqlite.specs.Rows.{Written, nothing}
use Rattle.sqlite.specs.Tree.{Trees}
use Rattle.sqlite.specs.Effect.{Database}
use Rattle.sqlite.specs.State.{State, mode_of}
use Rattle.sqlite_catalog.specs.Listing.{IsSound}
use Rattle.override_store.specs.StoreTables.{both_schema}
use Rattle.override_store.specs.SettingRows.{HasRow, IsFlag, Moves}
use Rattle.override_store.proofs.TextLemmas.{moved, move_command}
use Rattle.override_store.proofs.PutLemmas.{went, same_value}
use Rattle.override_store.proofs.FoldLemmas.{IsSource, Agree, keeps_shape, folds}
use Rattle.override_store.proofs.PermutationLemmas.{has_permuted}
use Rattle.override_store.proofs.TypedLemmas.{firsts_typed, firsts_alone}
use Rattle.override_store.proofs.AnswerLemmas.{all_matched}

-- what a row of the first table is moved as
abbrev pub sent : Row → Row
sent row = Null ∷ column row 1 ∷ column row 2 ∷ Int (pos 0) ∷ []

abbrev out : Row → Output
out row = ([], sent row)

outputs : (rows : List Row) → map (output moved) (map (λ r. [] ∷ r ∷ []) rows) ≡ map out rows
outputs [] = refl
outputs (r ∷ rows) = ap (λ xs. out r ∷ xs) (outputs rows)

seconds : (rows : List Row) → map (λ (o : Output). o.1) (map out rows) ≡ map sent rows
seconds [] = refl
seconds (r ∷ rows) = ap (λ xs. sent r ∷ xs) (seconds rows)

-- the query gives each row once
pub answered : (trees : Trees) (answer : List Row) → IsAnswer moved (overlay trees []) [] answer → IsPermutation (map sent (trees 0)) answer
answered trees answer a =
    let staged : a.staged ≡ map (λ r. [] ∷ r ∷ []) (trees 0) = a.grouped ∙ all_matched (trees 0) in
    let kept : a.kept ≡ map out (trees 0) = a.distinct ∙ ap (map (output moved)) staged ∙ outputs (trees 0) in
    let same : IsPermutation (map out (trees 0)) a.ordered = subst (λ k. IsPermutation k a.ordered) kept a.same in
    let shows : answer ≡ map (λ (o : Output). o.1) a.ordered = a.shown in
    subst (IsPermutation (map sent (trees 0))) (sym shows)
    (subst (λ k. IsPermutation k (map (λ (o : Output). o.1) a.ordered)) (seconds (trees 0)) (IsPermutation-map (λ (o : Output). o.1) (map out (trees 0)) a.ordered same))

-- the rows that the query gives are those of the table
module _ (firsts answer : List Row) (same : IsPermutation (map sent firsts) answer) where
  came_from : (x : Row) → Has answer x → (r : Row) × Has firsts r × (x ≡ sent r)
  came_from x h = has_mapped sent firsts x (has_permuted (map sent firsts) answer x same h)

  comes : (r : Row) → Has firsts r → Has answer (sent r)
  comes r h = has_permuted answer (map sent firsts) (sent r) (IsPermutation-sym (map sent firsts) answer same) (mapped_has sent firsts r h)

  pub has_sent : (P : Row → Type 0) (l : List ℕ) → HasRow answer l P ↔ HasRow firsts l (λ r. P (sent r))
  has_sent P l = (
    λ h. let it = came_from h.row h.there in
        record { row = it.0; there = it.1; label_is = sym (ap (λ r. column r 1) it.2) ∙ h.label_is; holds = subst P it.2 h.holds },
    λ h. record { row = sent h.row; there = comes h.row h.there; label_is = h.label_is; holds = h.holds },
  )

  pub sources : ((r : Row) → Has firsts r → ((t : List ℕ) × (column r 1 ≡ Text t)) × ((n : ℤ) × (column r 2 ≡ Int n))) → AllByRecursion IsSource answer
  sources typed = all_from IsSource answer (λ x h. let it = came_from x h in let t = typed it.0 it.1 in
      (t.0.0, t.1.0, pos 0, it.2 ∙ ap (λ v. Null ∷ v ∷ column it.0 2 ∷ Int (pos 0) ∷ []) t.0.1 ∙ ap (λ v. Null ∷ Text t.0.0 ∷ v ∷ Int (pos 0) ∷ []) t.1.1))

  pub agree : ((r s : Row) (l : List ℕ) → Has firsts r → Has firsts s → column r 1 ≡ Text l → column s 1 ≡ Text l → r ≡ s) → Agree answer
  agree alone x y l p q a b =
      let r = came_from x p in
      let s = came_from y q in
      let one = alone r.0 s.0 l r.1 s.1 (sym (ap (λ z. column z 1) r.2) ∙ a) (sym (ap (λ z. column z 1) s.2) ∙ b) in
      r.2 ∙ ap sent one ∙ sym s.2

pos_is : (s : ℕ) → ◌≡◌ {A = Value} (Int (pos 0)) (Int (pos s)) → s ≡ 0
pos_is s e = sym (same_pos e)
  where
    same_pos : ◌≡◌ {A = Value} (Int (pos 0)) (Int (pos s)) → ◌≡◌ {A = ℕ} 0 s
    same_pos e = cc

-- the statement gives each label of the first table its setting there, and keeps the others
pub moves : (old : State) (db after : Database) (text : List ℕ) (tally : Tally) → db.schema ≡ both_schema → IsSound both_schema db.trees → IsShaped Table (db.trees 0) → IsShaped Table (db.trees 2)
    → Does old.step_limit (mode_of old) [] db text None move_command (Ok (tally, after))
    → (after.schema ≡ both_schema) × IsShaped Table (after.trees 2) × (after.trees 0 ≡ db.trees 0) × Moves (db.trees 0) (db.trees 2) (after.trees 2)
moves old db after text tally has sound firsts shaped h =
    let done = went (subst (λ s. Does old.step_limit (mode_of old) [] (record db { schema = s }) text None move_command (Ok (tally, after))) has h) in
    let now = ap (λ (p : Tally × Database). p.1) (same_value (went (went done.2).2).2) in
    let given = went done.1 in
    let counter = went given.2 in
    let tries = went counter.2 in
    let counted = went tries.2 in
    let trees : after.trees ≡ tries.0.0.trees = ap (λ (d : Database). d.trees) now ∙ ap (λ (w : Written). w.trees) (same_value counted.2) ∙ same_value counted.1 in
    let rows = given.0 in
    let same = answered db.trees rows (given.1.answer Null) in
    let keys = (mode_of old).keys in
    let each = sources (db.trees 0) rows same (λ r there. firsts_typed db.trees sound r there) in
    let one = agree (db.trees 0) rows same (λ r s l there here p q. firsts_alone db.trees sound firsts r s l there here p q) in
    let kept = keeps_shape old.step_limit keys [] rows each _ (nothing db.trees) tries.0 shaped tries.1 in
    let fold = λ (P : Row → Type 0) (blind : (i j : Value) (t : Row) → P (i ∷ t) → P (j ∷ t)) (l : List ℕ). folds old.step_limit keys [] P blind l rows each one _ (nothing db.trees) tries.0 shaped tries.1 in
    let named = has_sent (db.trees 0) rows same (λ _. Unit {0}) in (
      ap (λ (d : Database). d.schema) now,
      subst (λ (t : Trees). IsShaped Table (t 2)) (sym trees) kept.0,
      ap (λ (t : Trees). t 0) trees ∙ kept.1,
      subst (λ (t : Trees). Moves (db.trees 0) (db.trees 2) (t 2)) (sym trees) (record {
        says = λ l d.
            let P : Row → Type 0 = λ r. IsFlag (column r 2) d in
            let it = fold P (λ i j t p. p) l in
            let sent_is = has_sent (db.trees 0) rows same P l in (
              λ s. elim (it.0 s) [ inl moved ↦ inl (sent_is.0 moved) | inr old ↦ inr (λ n. old.0 ((named l).1 n), old.1) ],
              λ e. elim e [ inl first ↦ it.1 (inl (sent_is.1 first)) | inr old ↦ it.1 (inr (λ n. old.0 ((named l).0 n), old.1)) ],
            );
        stamped = λ l s.
            let P : Row → Type 0 = λ r. column r 3 ≡ Int (pos s) in
            let it = fold P (λ i j t p. p) l in
            let sent_is = has_sent (db.trees 0) rows same P l in (
              λ h. elim (it.0 h) [
                | inl moved ↦ let m = sent_is.0 moved in inl (record { row = m.row; there = m.there; label_is = m.label_is; holds = tt }, pos_is s m.holds)
                | inr old ↦ inr (λ n. old.0 ((named l).1 n), old.1)
              ],
              λ e. elim e [
                | inl first ↦ let f = first.0 in it.1 (inl (sent_is.1 (record { row = f.row; there = f.there; label_is = f.label_is; holds = ap (λ k. Int (pos k)) (sym first.1) })))
                | inr old ↦ it.1 (inr (λ n. old.0 ((named l).0 n), old.1))
              ],
            );
      }),
    )
