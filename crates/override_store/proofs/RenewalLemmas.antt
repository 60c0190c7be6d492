-- A store that is opened: its schema over an empty database, and what a crash leaves once it was read.
use Rattle.std.proofs.Common.{◌≡◌, ◌⊎◌, inl, inr, [], refl, sym, ap, subst, arith, ◌∙◌}
use Rattle.sqlite.specs.Effect.{Database}
use Rattle.sqlite.specs.State.{State, HasCleanDisk, Survives}
use Rattle.sqlite.specs.Tree.{Trees}
use Rattle.sqlite.specs.Steps.{IsEmpty}
use Rattle.sqlite_catalog.specs.Listing.{IsSound}
use Rattle.override_store.specs.StoreTables.{both_schema, no_schema}
use Rattle.override_store.specs.OverrideStores.{AreFit, Carries, CommitsOpen, HoldsAs, IsOpenedOn, LeavesAll, old_rows_in, setting_rows}

empty_fits : (conn : State) → IsEmpty conn → AreFit conn.committed.trees
empty_fits conn it = ([], [], inr (inr (subst (λ schema. IsSound schema conn.committed.trees) (ap (λ (db : Database). db.schema) (sym it.0.clean) ∙ it.2) (it.1 it.0.is_open).1, refl, refl)))

pub new_schema : (conn s : State) → IsEmpty conn → IsOpenedOn conn s → HasCleanDisk s → s.now.schema ≡ both_schema
new_schema conn s empty on clean = (on.opened clean (empty_fits conn empty)).ours.schema

-- the trees of a store are fit to be opened
pub both_fit : (trees : Trees) → IsSound both_schema trees → AreFit trees
both_fit trees sound = (old_rows_in trees, setting_rows trees, inl (sound, refl, refl))

-- and so are those of a database without tables
pub none_fit : (trees : Trees) → IsSound no_schema trees → AreFit trees
none_fit trees sound = ([], [], inr (inr (sound, refl, refl)))

-- a store that was opened and read leaves what its connection could leave, or what it holds
pub leaves_held : (conn opened new : State) → IsOpenedOn conn opened → (HasCleanDisk opened → AreFit conn.committed.trees → LeavesAll opened) → Survives opened new (λ _. CommitsOpen opened ⊥) →
    HasCleanDisk new → AreFit conn.committed.trees → (db : Trees) → new.may_leave db → conn.may_leave db ⊎ HoldsAs conn.committed.trees db
leaves_held conn opened new on leaves survives late fit db may =
    let early : HasCleanDisk opened = omega (arith, late, survives.clean) in
    let ours = on.opened early fit in
    elim (survives.crash late db may) [
      | inl before ↦ let same = leaves early fit db before in inr (opened.now, same, ours.ours, subst (λ (t : Trees). Carries conn.committed.trees t) (sym same) (on.rows early))
      | inr commits ↦ absurd (commits.1 ours)
    ]
