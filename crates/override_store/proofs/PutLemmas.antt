-- What putting rows in turn makes of the table.
use Rattle.std.proofs.Common.{◌≡◌, ◌≢◌, ◌⊎◌, inl, inr, ℕ, ℤ, List, [], ◌∷◌, Bool, true, false, cond, Some, None, Ok, Err, Result, refl, sym, ap, subst, ◌∙◌, Option, not, arith}
use Rattle.std.specs.Prelude.{◌↔◌}
use Rattle.sqlite.specs.declared.types.Value.{Value}
use Rattle.sqlite.specs.declared.types.Value.TheVariants.{Null, Int, Text}
use Rattle.sqlite_value.specs.Order.{Row}
use Rattle.sqlite_sql.specs.Ops.{unary}
use Rattle.sqlite.specs.Kind.TheVariants.{Integer}
use Rattle.sqlite_trees.specs.declared.store.Shape.TheVariants.{Table}
use Rattle.sqlite_trees.specs.View.{IsShaped}
use Rattle.sqlite_trees.specs.Tree.{has_rowid, without_rowid}
use Rattle.sqlite_trees.proofs.TreeLemmas.{IsShaped-put_row, IsShaped-filter}
use Rattle.sqlite_schema.specs.declared.command.Conflict.TheVariants.{Replace}
use Rattle.sqlite_schema.specs.declared.schema.Keys.{Keys}
use Rattle.sqlite.specs.Edit.{Edit, edit_of, edited}
use Rattle.sqlite.specs.Cast.{cast, cast_row}
use Rattle.sqlite.specs.Rowids.TheVariants.{Given, Chosen}
use Rattle.sqlite_rules.specs.Calls.{ids_of}
use Rattle.sqlite_rules.specs.Keys.{AreConflicts}
use Rattle.sqlite_rules.specs.Edit.{are_fresh, without_all, put_all, with_rowid}
use Rattle.sqlite.specs.Rows.{Written, Task, Puts, Clears, Tries, TriesEach, mended, joined}
use Rattle.sqlite.specs.Tree.{Trees, put_row}
use Rattle.sqlite.proofs.Callers.{one_step}
use Rattle.override_store.specs.StoreTables.{settings, both_schema}
use Rattle.override_store.specs.SettingRows.{HasRow}
use Rattle.override_store.proofs.RowLemmas.{kept, next_id, puts}

-- a part that gave a value did not stop on the way
pub went : {B E R : Type 0} {b : B} {Stops : E → Type 0} → ((stop : E) × Stops stop × (Ok b ≡ Err stop)) ⊎ R → R
went (inl stopped) = absurd (let e = stopped.2 in cc)
went (inr on) = on

pub same_value : {B E : Type 0} {a b : B} → ◌≡◌ {A = Result B E} (Ok a) (Ok b) → a ≡ b
same_value e = cc

either : (b : Bool) (x : Value) → cond b x x ≡ x
either true x = refl
either false x = refl

cast_null : cast Integer Null ≡ Null
unfolding unary
cast_null = either _ Null

cast_int : (n : ℤ) → cast Integer (Int n) ≡ Int n
unfolding unary
cast_int n = either _ (Int n)

pub apart : ◌≢◌ {A = ℕ} 0 2
apart e = absurd (omega (arith, e))

-- the rows hold the new row, in place of those that clash with it, and the other table is as it was
pub record Replaced (old new : Trees) (label : List ℕ) (m n : ℤ) : Type 0 where
  pub found : List Row
  pub are : AreConflicts None both_schema.indexes (settings 2) (old 2) (kept (next_id (old 2)) label m n) found
  pub fresh : are_fresh (without_all (old 2) (ids_of found)) (kept (next_id (old 2)) label m n ∷ []) ≡ true
  pub rows : new 2 ≡ put_row (kept (next_id (old 2)) label m n) (without_all (old 2) (ids_of found))
  pub other : new 0 ≡ old 0

-- a row that a statement puts
abbrev pub source : List ℕ → ℤ → ℤ → Row
source label m n = Null ∷ Text label ∷ Int m ∷ Int n ∷ []

module _ (limit : Option ℕ) (keys : Keys) (params : Row) where
  abbrev pub task : Task
  task = record { limit = limit; keys = keys; schema = both_schema; table = settings 2; params = params }

  put : (id : ℤ) (label : List ℕ) (m n : ℤ) (db : Trees) (w : Written) → Puts task (kept id label m n) db (Ok w)
      → (are_fresh (db 2) (kept id label m n ∷ []) ≡ true) × (w.trees 2 ≡ put_row (kept id label m n) (db 2)) × (w.trees 0 ≡ db 0)
  put id label m n db w h =
      let all = went h in
      let edit : Edit = edit_of db (settings 2) [] Given 0 (kept id label m n ∷ []) in
      let step = one_step both_schema keys db all.0 edit refl all.1 in
      let news : edit.news ≡ kept id label m n ∷ [] = rw (cast_int id, cast_int m, cast_int n) in
      let rows : edited db edit ≡ put_row (kept id label m n) (db 2) = ap (put_all (db 2)) news in
      let now = λ (t : ℕ). ap (λ (x : Written). x.trees t) (same_value all.2) in
      (subst (λ k. are_fresh (db 2) k ≡ true) news step.fresh, now 2 ∙ step.rows ∙ rows, now 0 ∙ step.tables.0 apart)

  clear : (id : ℤ) (label : List ℕ) (m n : ℤ) (db : Trees) (found : List Row) (w : Written) → Clears task Replace (kept id label m n) db found (Ok w)
      → (are_fresh (without_all (db 2) (ids_of found)) (kept id label m n ∷ []) ≡ true) × (w.trees 2 ≡ put_row (kept id label m n) (without_all (db 2) (ids_of found))) × (w.trees 0 ≡ db 0)
  clear id label m n db [] w h = put id label m n db w h
  clear id label m n db (x ∷ more) w h =
      let all = went h in
      let step = one_step both_schema keys db all.0 (edit_of db (settings 2) (ids_of (x ∷ more)) Given 0 []) refl all.1 in
      let it = put id label m n all.0 w all.2 in
      let P : List Row → Type 0 = λ rs. (are_fresh rs (kept id label m n ∷ []) ≡ true) × (w.trees 2 ≡ put_row (kept id label m n) rs) in
      let moved = subst P step.rows (it.0, it.1) in
      (moved.0, moved.1, it.2 ∙ step.tables.0 apart)

  tried : (label : List ℕ) (m n : ℤ) (db : Trees) (w : Written) → Tries task Replace [] (kept (next_id (db 2)) label m n) db (Ok w) → Replaced db w.trees label m n
  tried label m n db w (inl refused) = absurd (let e = refused.1 in cc)
  tried label m n db w (inr (None, judged, h)) =
      let c = clear (next_id (db 2)) label m n db h.0 w h.2 in record { found = h.0; are = h.1; fresh = c.0; rows = c.1; other = c.2 }
  tried label m n db w (inr (Some why, judged, h)) = absurd (let e = h in cc)

  laid : (rows : List Row) (label : List ℕ) (m n : ℤ) → with_rowid Chosen rows (cast_row (settings 2) (mended Replace (settings 2) (source label m n))) ≡ kept (next_id rows) label m n
  laid rows label m n = rw (cast_null, cast_int m, cast_int n)

  -- one row, and then the rest
  pub split : (label : List ℕ) (m n : ℤ) (more : List Row) (top : ℤ) (done : Written) (out : Written × ℤ) → TriesEach task Replace [] (source label m n ∷ more) top done (Ok out)
      → (one : Written) × Replaced done.trees one.trees label m n × ((up : ℤ) × TriesEach task Replace [] more up (joined done one) (Ok out))
  split label m n more top done out h =
      let one = went h in
      (one.0, tried label m n done.trees one.0 (subst (λ r. Tries task Replace [] r done.trees (Ok one.0)) (laid (done.trees 2) label m n) one.1), (_, one.2))

  pub ended : (top : ℤ) (done : Written) (out : Written × ℤ) → TriesEach task Replace [] [] top done (Ok out) → out.0.trees ≡ done.trees
  ended top done out h = ap (λ (d : Written × ℤ). d.0.trees) (same_value h)

-- rows from which some were taken out keep their order
pub shaped_left : (ids : List ℤ) (rows : List Row) → IsShaped Table rows → IsShaped Table (without_all rows ids)
shaped_left [] rows h = h
shaped_left (id ∷ ids) rows h = shaped_left ids (without_rowid id rows) (IsShaped-filter Table (λ r. not (has_rowid id r)) rows h)

-- the rows keep their order
pub still_shaped : (old new : Trees) (label : List ℕ) (m n : ℤ) → IsShaped Table (old 2) → Replaced old new label m n → IsShaped Table (new 2)
still_shaped old new label m n shaped it =
    subst (IsShaped Table) (sym it.rows) (IsShaped-put_row (kept (next_id (old 2)) label m n) (without_all (old 2) (ids_of it.found)) refl (shaped_left (ids_of it.found) (old 2) shaped))

-- the label has the new row, and each other label its own
pub has_replaced : (old new : Trees) (label : List ℕ) (m n : ℤ) → IsShaped Table (old 2) → Replaced old new label m n
    → (P : Row → Type 0) (l : List ℕ) → HasRow (new 2) l P ↔ (((l ≡ label) × P (kept (next_id (old 2)) label m n)) ⊎ ((l ≢ label) × HasRow (old 2) l P))
has_replaced old new label m n shaped it P l =
    subst (λ rows. HasRow rows l P ↔ (((l ≡ label) × P (kept (next_id (old 2)) label m n)) ⊎ ((l ≢ label) × HasRow (old 2) l P))) (sym it.rows) (puts label m n (old 2) shaped.0 shaped.1 it.found it.are it.fresh P l)
