-- What the statement that empties the first table leaves.
use Rattle.std.proofs.Common.{◌≡◌, inl, ℕ, ℤ, List, [], ◌∷◌, map, None, Ok, refl, sym, ap, subst, ◌∙◌, true}
use Rattle.std.specs.List.Sorted.{IsPermutation}
use Rattle.std.proofs.lemmas.List.Sorted.{IsPermutation-sym, IsPermutation-map}
use Rattle.sqlite.specs.declared.types.Value.TheVariants.{Null}
use Rattle.sqlite_value.specs.Order.{Row}
use Rattle.sqlite_trees.specs.Tree.{rowid, has_rowid}
use Rattle.sqlite_trees.specs.declared.store.Shape.TheVariants.{Table}
use Rattle.sqlite_trees.specs.View.{IsShaped}
use Rattle.sqlite_rules.specs.Lists.{Has}
use Rattle.sqlite_rules.specs.Calls.{ids_of}
use Rattle.sqlite_rules.specs.Edit.{without_all, id_in}
use Rattle.sqlite_rules.proofs.ListLemmas.{all_has}
use Rattle.sqlite_rules.proofs.TableLemmas.{without_all_has}
use Rattle.sqlite_rules.proofs.ProbeLemmas.{mapped_has}
use Rattle.sqlite.specs.Query.{IsAnswer, Output, output}
use Rattle.sqlite.specs.Program.{overlay}
use Rattle.sqlite.specs.Edit.{edit_of}
use Rattle.sqlite.specs.Rowids.TheVariants.{Given}
use Rattle.sqlite.specs.Does.{Tally, Does}
use Rattle.sqlite.specs.Rows.{Written}
use Rattle.sqlite.specs.Tree.{Trees}
use Rattle.sqlite.specs.Effect.{Database}
use Rattle.sqlite.specs.State.{State, mode_of}
use Rattle.sqlite.proofs.Callers.{one_step}
use Rattle.override_store.specs.StoreTables.{both_schema, overrides}
use Rattle.override_store.proofs.TextLemmas.{cleared, clear_command}
use Rattle.override_store.proofs.RowLemmas.{goes, own_rowid}
use Rattle.override_store.proofs.PutLemmas.{went, same_value, apart}
use Rattle.override_store.proofs.PermutationLemmas.{has_permuted}
use Rattle.override_store.proofs.AnswerLemmas.{all_matched}

abbrev pub named : Row → Row
named row = rowid row ∷ []

abbrev pub out : Row → Output
out row = ([], named row)

outputs : (rows : List Row) → map (output cleared) (map (λ r. [] ∷ r ∷ []) rows) ≡ map out rows
outputs [] = refl
outputs (r ∷ rows) = ap (λ xs. out r ∷ xs) (outputs rows)

pub rowids : (rows : List Row) → map (λ (o : Output). o.1) (map out rows) ≡ map named rows
rowids [] = refl
rowids (r ∷ rows) = ap (λ xs. named r ∷ xs) (rowids rows)

answered : (trees : Trees) (answer : List Row) → IsAnswer cleared (overlay trees []) [] answer → IsPermutation (map named (trees 0)) answer
answered trees answer a =
    let staged : a.staged ≡ map (λ r. [] ∷ r ∷ []) (trees 0) = a.grouped ∙ all_matched (trees 0) in
    let kept : a.kept ≡ map out (trees 0) = a.distinct ∙ ap (map (output cleared)) staged ∙ outputs (trees 0) in
    let same : IsPermutation (map out (trees 0)) a.ordered = subst (λ k. IsPermutation k a.ordered) kept a.same in
    let shows : answer ≡ map (λ (o : Output). o.1) a.ordered = a.shown in
    subst (IsPermutation (map named (trees 0))) (sym shows)
    (subst (λ k. IsPermutation k (map (λ (o : Output). o.1) a.ordered)) (rowids (trees 0)) (IsPermutation-map (λ (o : Output). o.1) (map out (trees 0)) a.ordered same))

nothing_left : {X : Type 0} (xs : List X) → ((x : X) → Has xs x → ⊥) → xs ≡ []
nothing_left [] none = refl
nothing_left (x ∷ xs) none = absurd (none x (inl refl))

-- if each row's rowid is taken out, no row is left
pub all_gone : (rows : List Row) (ids : List ℤ) → ((x : Row) → Has rows x → Has ids (id_in (rowid x)) × (has_rowid (id_in (rowid x)) x ≡ true)) → without_all rows ids ≡ []
all_gone rows ids each = nothing_left (without_all rows ids) (λ x h. let it = each x (without_all_has ids rows x h) in goes ids rows x (id_in (rowid x)) it.0 it.1 h)

-- the first table is empty, and the second as it was
pub clears : (old : State) (db after : Database) (text : List ℕ) (tally : Tally) → db.schema ≡ both_schema → IsShaped Table (db.trees 0)
    → Does old.step_limit (mode_of old) [] db text None clear_command (Ok (tally, after)) → (after.schema ≡ both_schema) × (after.trees 0 ≡ []) × (after.trees 2 ≡ db.trees 2)
clears old db after text tally has firsts h =
    let done = went (subst (λ s. Does old.step_limit (mode_of old) [] (record db { schema = s }) text None clear_command (Ok (tally, after))) has h) in
    let now = ap (λ (p : Tally × Database). p.1) (same_value (went (went done.2).2).2) in
    let queried = went done.1 in
    let edited = went queried.2 in
    let rows = queried.0 in
    let trees : after.trees ≡ edited.0 = ap (λ (d : Database). d.trees) now ∙ ap (λ (w : Written). w.trees) (same_value edited.2) in
    let same = answered db.trees rows (queried.1.answer Null) in
    let step = one_step both_schema (mode_of old).keys db.trees edited.0 (edit_of db.trees (overrides 0) (ids_of rows) Given 0 []) refl edited.1 in
    let gone : without_all (db.trees 0) (ids_of rows) ≡ [] = all_gone (db.trees 0) (ids_of rows) (λ x there. (
      mapped_has (λ (r : Row). id_in (rowid r)) rows (named x) (has_permuted rows (map named (db.trees 0)) (named x) (IsPermutation-sym (map named (db.trees 0)) rows same) (mapped_has named (db.trees 0) x there)),
      own_rowid x (all_has _ (db.trees 0) x firsts.1 there),
    )) in (
      ap (λ (d : Database). d.schema) now,
      ap (λ (t : Trees). t 0) trees ∙ step.rows ∙ gone,
      ap (λ (t : Trees). t 2) trees ∙ step.tables.1.0 (λ e. apart (sym e)),
    )
