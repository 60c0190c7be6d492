-- What the statements of a mend make of the rows, within its transaction.
use Rattle.std.proofs.Common.{◌≡◌, ℕ, negsuc, pos, List, [], ◌∷◌, ◌+◌, ◌-◌, ◌<◌, codes, false, true, map, drop, length, None, Ok, refl, sym, ap, subst, ◌∙◌, get_or, drop-cons, arith, Bool, suc}
use Rattle.std.specs.List.Sorted.{IsPermutation}
use Rattle.std.proofs.lemmas.List.Sorted.{IsPermutation-sym, IsPermutation-map}
use Rattle.sqlite.specs.declared.types.Value.TheVariants.{Null, Int}
use Rattle.sqlite_value.specs.Order.{Row}
use Rattle.sqlite_trees.specs.Tree.{rowid}
use Rattle.sqlite_trees.specs.declared.store.Shape.TheVariants.{Table}
use Rattle.sqlite_trees.specs.View.{IsShaped}
use Rattle.sqlite_rules.specs.Calls.{ids_of}
use Rattle.sqlite_rules.specs.Edit.{without_all, id_in}
use Rattle.sqlite_rules.proofs.ListLemmas.{all_has}
use Rattle.sqlite_rules.proofs.ProbeLemmas.{mapped_has}
use Rattle.sqlite_tied.specs.Compute.{everything}
use Rattle.sqlite.specs.Listing.{understood}
use Rattle.sqlite.specs.Term.{lit, col}
use Rattle.sqlite.specs.Query.{Query, inner, end, IsAnswer, Output, output}
use Rattle.sqlite.specs.Command.{Command}
use Rattle.sqlite.specs.Command.TheVariants.{Delete}
use Rattle.sqlite.specs.Program.{overlay}
use Rattle.sqlite.specs.Edit.{edit_of}
use Rattle.sqlite.specs.Rowids.TheVariants.{Given}
use Rattle.sqlite.specs.Does.{Tally, Does}
use Rattle.sqlite.specs.Rows.{Written}
use Rattle.sqlite.specs.Tree.{Trees}
use Rattle.sqlite.specs.Effect.{Database}
use Rattle.sqlite.specs.Held.{Held, state}
use Rattle.sqlite.specs.Store.{Ghosts}
use Rattle.sqlite.specs.State.{State, HasCleanDisk, Survives, ExecutesInside, mode_of}
use Rattle.sqlite.proofs.StateLemmas.{survives_then}
use Rattle.sqlite.proofs.Callers.{one_step, runs_as, statement_of, survives_begin}
use Rattle.override_store.specs.StoreTables.{both_schema, settings}
use Rattle.override_store.specs.OverrideStores.{CommitsOpen, rows_now, setting_rows}
use Rattle.override_store.specs.declared.known.Known.{Known}
use Rattle.override_store.specs.KnownSettings.{HasKnown, HoldsTrees, known_as, settings_of, stamps_of}
use Rattle.override_store.specs.Mending.{IsInside, IsMended, RunsOpen}
use Rattle.override_store.proofs.TextLemmas.{Means, set_text, set_command, set_means}
use Rattle.override_store.proofs.SetLemmas.{set_params, does, still_ours, sets, stamps}
use Rattle.override_store.proofs.RowLemmas.{own_rowid}
use Rattle.override_store.proofs.PutLemmas.{went, same_value, apart, shaped_left}
use Rattle.override_store.proofs.PermutationLemmas.{has_permuted}
use Rattle.override_store.proofs.AnswerLemmas.{all_matched}
use Rattle.override_store.proofs.ClearLemmas.{named, out, rowids, all_gone}
use Rattle.override_store.proofs.TieLemmas.{holds_more, stamps_more}

abbrev pub empty_text : List ℕ
empty_text = codes "DELETE FROM settings"

abbrev pub emptied : Query
emptied = record {
  from = inner 2 end;
  filter = [];
  group = None;
  project = col 1 0 ∷ [];
  distinct = false;
  collations = [];
  order = [];
  limit = lit (Int (negsuc 0));
  offset = lit (Int (pos 0));
}

abbrev pub empty_command : Command
empty_command = Delete 1 (record { lets = []; body = emptied })

pub empty_means : Means both_schema empty_text empty_command
unfolding understood everything
empty_means = record { command_is = refl; plain = (refl, refl) }

outputs : (rows : List Row) → map (output emptied) (map (λ r. [] ∷ r ∷ []) rows) ≡ map out rows
outputs [] = refl
outputs (r ∷ rows) = ap (λ xs. out r ∷ xs) (outputs rows)

answered : (trees : Trees) (answer : List Row) → IsAnswer emptied (overlay trees []) [] answer → IsPermutation (map named (trees 2)) answer
answered trees answer a =
    let staged : a.staged ≡ map (λ r. [] ∷ r ∷ []) (trees 2) = a.grouped ∙ all_matched (trees 2) in
    let kept : a.kept ≡ map out (trees 2) = a.distinct ∙ ap (map (output emptied)) staged ∙ outputs (trees 2) in
    let same : IsPermutation (map out (trees 2)) a.ordered = subst (λ k. IsPermutation k a.ordered) kept a.same in
    let shows : answer ≡ map (λ (o : Output). o.1) a.ordered = a.shown in
    subst (IsPermutation (map named (trees 2))) (sym shows)
    (subst (λ k. IsPermutation k (map (λ (o : Output). o.1) a.ordered)) (rowids (trees 2)) (IsPermutation-map (λ (o : Output). o.1) (map out (trees 2)) a.ordered same))

-- the second table is empty, and the first as it was
empties : (old : State) (db after : Database) (text : List ℕ) (tally : Tally) → db.schema ≡ both_schema → IsShaped Table (db.trees 2)
    → Does old.step_limit (mode_of old) [] db text None empty_command (Ok (tally, after)) → (after.schema ≡ both_schema) × (after.trees 2 ≡ []) × (after.trees 0 ≡ db.trees 0) × IsShaped Table (after.trees 2)
empties old db after text tally has shaped h =
    let done = went (subst (λ s. Does old.step_limit (mode_of old) [] (record db { schema = s }) text None empty_command (Ok (tally, after))) has h) in
    let now = ap (λ (p : Tally × Database). p.1) (same_value (went (went done.2).2).2) in
    let queried = went done.1 in
    let edited = went queried.2 in
    let rows = queried.0 in
    let trees : after.trees ≡ edited.0 = ap (λ (d : Database). d.trees) now ∙ ap (λ (w : Written). w.trees) (same_value edited.2) in
    let same = answered db.trees rows (queried.1.answer Null) in
    let step = one_step both_schema (mode_of old).keys db.trees edited.0 (edit_of db.trees (settings 2) (ids_of rows) Given 0 []) refl edited.1 in
    let left = ap (λ (t : Trees). t 2) trees ∙ step.rows in
    let gone : without_all (db.trees 2) (ids_of rows) ≡ [] = all_gone (db.trees 2) (ids_of rows) (λ x there. (
      mapped_has (λ (r : Row). id_in (rowid r)) rows (named x) (has_permuted rows (map named (db.trees 2)) (named x) (IsPermutation-sym (map named (db.trees 2)) rows same) (mapped_has named (db.trees 2) x there)),
      own_rowid x (all_has _ (db.trees 2) x shaped.1 there),
    )) in (
      ap (λ (d : Database). d.schema) now,
      left ∙ gone,
      ap (λ (t : Trees). t 0) trees ∙ step.tables.0 apart,
      subst (IsShaped Table) (sym left) (shaped_left (ids_of rows) (db.trees 2) shaped),
    )

module _ (old new : State) (inside : IsInside old) (count : ℕ) where
  pub has_emptied : ExecutesInside 0 empty_text [] old new (Ok count) → IsInside new × (rows_now new ≡ [])
  has_emptied h =
      let w = runs_as empty_text [] old new both_schema inside.ours.schema empty_command empty_means.command_is empty_means.plain count h.0 in
      let it = empties old old.now new.now (statement_of empty_text (understood both_schema empty_text)) w.tally inside.ours.schema inside.ours.shaped w.changed in
      (record { mode = h.1.mode; ours = record { schema = it.0; shaped = it.3; moved = it.2 ∙ inside.ours.moved; sound = w.sound } }, it.1)

  pub has_put : (label : List ℕ) (disabled : Bool) (changed : ℕ) → ExecutesInside 0 set_text (set_params label disabled changed) old new (Ok count)
      → IsInside new × ((known : List Known) → HasKnown (rows_now old) known → HasKnown (rows_now new) (known_as label disabled changed ∷ known))
  has_put label disabled changed h =
      let w = runs_as set_text (set_params label disabled changed) old new both_schema inside.ours.schema set_command set_means.command_is set_means.plain count h.0 in
      let it = does old label disabled changed w.tally new.now inside.ours.schema w.changed in (
        record { mode = h.1.mode; ours = still_ours old.now new.now label disabled changed inside.ours it.1 it.0 w.sound },
        λ known had. (
          holds_more (rows_now old) (rows_now new) (settings_of known) label disabled had.0 (sets old.now new.now label disabled changed inside.ours it.1),
          stamps_more (rows_now old) (rows_now new) (stamps_of known) label changed had.1 (stamps old.now new.now label disabled changed inside.ours it.1),
        ),
      )

-- no setting is what an empty list tells
pub none_known : HasKnown [] []
none_known = (λ l d. (λ e. absurd (let none = e in cc), λ says. absurd says.there), λ l s e. absurd (let none = e in cc))

-- one more of the list, from its end
pub one_more : {X : Type 0} (xs : List X) (turn : ℕ) (d : X) → turn < length xs → drop (length xs - (turn + 1)) xs ≡ get_or xs (length xs - 1 - turn) d ∷ drop (length xs - turn) xs
one_more xs turn d low =
    let at : length xs - (turn + 1) ≡ length xs - 1 - turn = omega (arith, low) in
    let next : suc (length xs - 1 - turn) ≡ length xs - turn = omega (arith, low) in
    ap (λ n. drop n xs) at ∙ drop-cons xs (length xs - 1 - turn) d (omega (arith, low)) ∙ ap (λ n. get_or xs (length xs - 1 - turn) d ∷ drop n xs) next

-- A transaction that had everything and was then committed, or not: a crash leaves what it left before it, or what is known.
module _ {S : Type 0} (g : Ghosts S) (old begun last : Held S) (known : List Known) (is : begun ≡ record old { in_transaction = true }) where
  pub mend_survives : (closed : Held S) → RunsOpen (state g begun) (state g last) (Ok tt) → IsMended (state g begun) (state g last) known (Ok tt) → Survives (state g begun) (state g last) (λ _. ⊥) →
      Survives (state g last) (state g closed) (λ db. db ≡ (state g last).now.trees) → Survives (state g old) (state g closed) (λ db. CommitsOpen (state g old) (HoldsTrees db known))
  mend_survives closed ran filled one two =
      let open_then = rw is at ran in
      let has = rw is at filled in
      survives_then (state g old) (state g last) (state g closed) (λ _. ⊥) (λ db. db ≡ (state g last).now.trees) (λ db. CommitsOpen (state g old) (HoldsTrees db known)) (λ _ db none. absurd none) (λ clean db same.
      let early : HasCleanDisk (state g last) = omega (arith, clean, two.clean) in (
        open_then early refl,
        λ ours.
            let it = has early (record { mode = refl; ours = ours.ours }) in
            ((state g last).now, same, it.0.ours, subst (λ (t : Trees). HasKnown (setting_rows t) known) (sym same) it.1),
      )) (survives_begin g old (state g last) _ (rw is at one)) two
