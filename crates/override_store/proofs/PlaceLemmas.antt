-- What a place may be found with, from one connection to the next.
use Rattle.std.proofs.Common.{◌≡◌, ◌⊎◌, ◌≤◌, inl, inr, ℕ, Bool, Result, Ok, Err, IfOk, IfErr, List, [], ◌∷◌, IsTrue, Option, Some, None, refl, sym, ap, subst, ◌∙◌, arith}
use Rattle.sqlite.specs.Held.{Held, state}
use Rattle.sqlite.specs.Store.{Ghosts}
use Rattle.sqlite.specs.Order.{Row}
use Rattle.sqlite.specs.Tree.{Trees}
use Rattle.sqlite.specs.Schema.{Schema}
use Rattle.sqlite.specs.Effect.{Database}
use Rattle.sqlite.specs.State.{HasCleanDisk, Survives}
use Rattle.sqlite.specs.View.{IsClean, doubt}
use Rattle.sqlite_catalog.specs.Listing.{IsSound}
use Rattle.override_store.specs.StoreTables.{both_schema}
use Rattle.override_store.specs.SettingRows.{AreSame, Moves}
use Rattle.override_store.specs.OverrideStores.{AreFit, AreOurs, CommitsOpen, HasTables, HoldsAs, HoldsSetting, IsOurs, rows_now, setting_rows}
use Rattle.override_store.specs.declared.known.Known.{Known}
use Rattle.override_store.specs.KnownSettings.{AtHand, HoldsKnown, HoldsTrees, known_as, settings_of, stamps_of}
use Rattle.override_store.specs.Places.{Finds, IsFoundAs, IsKnownOr, Keeps, LeadsTo, over_connection, over_left, over_stores}
use Rattle.override_store.proofs.AgainLemmas.{moves_none}
use Rattle.override_store.proofs.TieLemmas.{holds_more, holds_same, stamps_more}

-- ---- databases with the same settings

tables_of : (trees : Trees) (db : Database) → trees ≡ db.trees → AreOurs db → HasTables trees [] (setting_rows trees)
tables_of trees db same ours = inl (
  subst (λ (t : Trees). IsSound both_schema t) (sym same) (subst (λ (c : Schema). IsSound c db.trees) ours.schema ours.sound),
  sym (ap (λ (t : Trees). t 0) same ∙ ours.moved),
  refl,
)

-- the rows of a store of ours are carried as they are
same_rows : (one other : Trees) (db : Database) → one ≡ db.trees → AreOurs db → HoldsAs one other → AreSame (setting_rows one) (setting_rows other)
same_rows one other db same ours moved = moves_none (setting_rows one) (setting_rows other) (moved.3 [] (setting_rows one) (tables_of one db same ours))

moves_same : (firsts seconds rows news : List Row) → Moves firsts seconds rows → AreSame rows news → Moves firsts seconds news
moves_same firsts seconds rows news it same = record {
  says = λ l d. (λ h. (it.says l d).0 ((same.says l d).0 h), λ h. (same.says l d).1 ((it.says l d).1 h));
  stamped = λ l s. (λ h. (it.stamped l s).0 ((same.stamped l s).0 h), λ h. (same.stamped l s).1 ((it.stamped l s).1 h));
}

as_then : (one two three : Trees) → HoldsAs one two → HoldsAs two three → HoldsAs one three
as_then one two three first second =
    let same = same_rows two three first.0 first.1 first.2 second in
    (second.0, second.1, second.2, λ firsts seconds has. moves_same firsts seconds (setting_rows two) (setting_rows three) (first.3 firsts seconds has) same)

known_as_before : (known : List Known) (one other : Trees) → HoldsAs one other → HoldsTrees one known → HoldsTrees other known
known_as_before known one other moved had =
    let same = same_rows one other had.0 had.1 had.2 moved in
    (moved.0, moved.1, moved.2, (holds_same (setting_rows one) (setting_rows other) (settings_of known) had.3.0 same, λ l s e. (same.stamped l s).1 (had.3.1 l s e)))

-- ---- one call and then another

pub if_ok : {A E : Type 0} (r : Result A E) (P Q : A → Type 0) → ((a : A) → P a → Q a) → IfOk r P → IfOk r Q
if_ok (Ok a) P Q means h = means a h
if_ok (Err e) P Q means h = tt

pub if_err : {A E : Type 0} (r : Result A E) (P Q : E → Type 0) → ((e : E) → P e → Q e) → IfErr r P → IfErr r Q
if_err (Ok a) P Q means h = tt
if_err (Err e) P Q means h = means e h

pub keeps_then : (a b c : Finds) → Keeps a b → Keeps b c → Keeps a c
keeps_then a b c one two honest =
    let late = two honest in
    let early = one late.0 in
    (early.0, λ db may. early.1 db (late.1 db may))

pub keeps_same : (a : Finds) → Keeps a a
keeps_same a honest = (honest, λ db may. may)

module _ (Holds : Trees → Type 0) where
  pub keeps_leads : (a b : Finds) → Keeps a b → LeadsTo a b Holds
  keeps_leads a b one honest = let it = one honest in (it.0, λ db may. inl (inl (it.1 db may)))

  pub keeps_lead : (a b c : Finds) → Keeps a b → LeadsTo b c Holds → LeadsTo a c Holds
  keeps_lead a b c one two honest =
      let late = two honest in
      let early = one late.0 in (
        early.0,
        λ db may. elim (late.1 db may) [
          | inl found ↦ elim found [ inl before ↦ inl (inl (early.1 db before)) | inr it ↦ inl (inr (it.0, early.1 it.0 it.1, it.2)) ]
          | inr holds ↦ inr holds
        ],
      )

  pub leads_keeps : (a b c : Finds) → LeadsTo a b Holds → Keeps b c → LeadsTo a c Holds
  leads_keeps a b c one two honest =
      let late = two honest in
      let early = one late.0 in
      (early.0, λ db may. early.1 db (late.1 db may))

  pub leads_same : (a : Finds) → LeadsTo a a Holds
  leads_same a honest = (honest, λ db may. inl (inl may))

  pub leads_more : (Fewer : Trees → Type 0) (a b : Finds) → ((db : Trees) → Fewer db → Holds db) → LeadsTo a b Fewer → LeadsTo a b Holds
  leads_more Fewer a b means one honest = let it = one honest in (it.0, λ db may. elim (it.1 db may) [ inl found ↦ inl found | inr holds ↦ inr (means db holds) ])

  pub leads_none : (a b : Finds) → LeadsTo a b (λ _. ⊥) → LeadsTo a b Holds
  leads_none a b one honest = let it = one honest in (it.0, λ db may. elim (it.1 db may) [ inl found ↦ inl found | inr none ↦ absurd none ])

  -- what was found with the settings of a database of which this holds
  module _ (closed : (one other : Trees) → HoldsAs one other → Holds one → Holds other) where
    found_then : (a b : Finds) → ((db : Trees) → b.may_find db → IsFoundAs a db ⊎ Holds db) → (db : Trees) → IsFoundAs b db ⊎ Holds db → IsFoundAs a db ⊎ Holds db
    found_then a b early db (inl (inl may)) = early db may
    found_then a b early db (inl (inr it)) = elim (early it.0 it.1) [
      | inl found ↦ elim found [ inl may ↦ inl (inr (it.0, may, it.2)) | inr moved ↦ inl (inr (moved.0, moved.1, as_then moved.0 it.0 db moved.2 it.2)) ]
      | inr holds ↦ inr (closed it.0 db it.2 holds)
    ]
    found_then a b early db (inr holds) = inr holds

    pub leads_then : (a b c : Finds) → LeadsTo a b Holds → LeadsTo b c Holds → LeadsTo a c Holds
    leads_then a b c one two honest =
        let late = two honest in
        let early = one late.0 in
        (early.0, λ db may. found_then a b early.1 db (late.1 db may))

pub known_then : (known : List Known) (a b c : Finds) → LeadsTo a b (λ db. HoldsTrees db known) → LeadsTo b c (λ db. HoldsTrees db known) → LeadsTo a c (λ db. HoldsTrees db known)
known_then known = leads_then (λ db. HoldsTrees db known) (known_as_before known)

pub one_then : (known : List Known) (label : List ℕ) (disabled : Bool) (changed : ℕ) (a b c : Finds) → LeadsTo a b (λ db. HoldsTrees db known) → LeadsTo b c (λ db. IsKnownOr db known label disabled changed) → LeadsTo a c (λ db. IsKnownOr db known label disabled changed)
one_then known label disabled changed a b c one two =
    leads_then (λ db. IsKnownOr db known label disabled changed) (λ one other moved holds. elim holds [ inl all ↦ inl (known_as_before known one other moved all) | inr more ↦ inr (known_as_before (known_as label disabled changed ∷ known) one other moved more) ]) a b c
    (leads_more (λ db. IsKnownOr db known label disabled changed) (λ db. HoldsTrees db known) a b (λ db all. inl all) one) two

-- ---- over a connection

module _ {S : Type 0} (g : Ghosts S) where
  -- a call that may commit
  pub survives_leads : (Commits Holds : Trees → Type 0) (place : Finds) (old new : Held S) → Survives (state g old) (state g new) Commits → (HasCleanDisk (state g old) → (db : Trees) → Commits db → Holds db) →
      LeadsTo (over_connection g place old) (over_connection g place new) Holds
  survives_leads Commits Holds place old new it means honest =
      let early : HasCleanDisk (state g old) = omega (arith, honest.0, it.clean) in
      ((early, honest.1), λ db may. elim (it.crash honest.0 db may) [ inl before ↦ inl (inl before) | inr made ↦ inr (means early db made) ])

  pub set_leads : (known : List Known) (label : List ℕ) (disabled : Bool) (changed : ℕ) (place : Finds) (old new : Held S) → HoldsKnown (state g old) known →
      Survives (state g old) (state g new) (λ db. CommitsOpen (state g old) (HoldsSetting (state g old) db label disabled changed)) →
      LeadsTo (over_connection g place old) (over_connection g place new) (λ db. IsKnownOr db known label disabled changed)
  set_leads known label disabled changed place old new had it =
      survives_leads _ (λ db. IsKnownOr db known label disabled changed) place old new it (λ early db may.
      let settings = had.0 early may.0 in
      let stamps = had.1 early may.0 in
      let made = may.1 settings.0 in
      inr (made.0, made.1, made.2, (holds_more (rows_now (state g old)) (setting_rows db) (settings_of known) label disabled settings.1 made.3, stamps_more (rows_now (state g old)) (setting_rows db) (stamps_of known) label changed stamps.1 made.4)))

  pub mend_leads : (known : List Known) (place : Finds) (old new : Held S) → (HasCleanDisk (state g old) → IsTrue (state g old).is_open → IsOurs (state g old)) →
      Survives (state g old) (state g new) (λ db. CommitsOpen (state g old) (HoldsTrees db known)) → LeadsTo (over_connection g place old) (over_connection g place new) (λ db. HoldsTrees db known)
  mend_leads known place old new ours it = survives_leads _ (λ db. HoldsTrees db known) place old new it (λ early db may. may.1 (ours early may.0))

  -- a connection that was closed, or refused to be
  pub closed_keeps : (place : Finds) (conn : Held S) (left : S) → doubt (g.view conn.store).is_clean ≤ doubt (g.view left).is_clean → ((db : Trees) → g.recovers left db → g.recovers conn.store db) →
      Keeps (over_connection g place conn) (over_left g place left)
  closed_keeps place conn left clean outcomes honest =
      let early : IsClean (g.view conn.store) = omega (arith, honest.0, clean) in
      ((early, honest.1), outcomes)

  -- a store over a new connection, or what a refused open of it leaves
  pub opened_leads : (Holds : Trees → Type 0) (before place : Finds) (conn : Held S) (left : S) → Keeps before (over_connection g place conn) → ((over_connection g place conn).IsHonest → IsTrue (state g conn).is_open) →
      (IsTrue (state g conn).is_open → AreFit (state g conn).committed.trees) → (IsTrue (state g conn).is_open → (state g conn).may_leave (state g conn).committed.trees) →
      doubt (g.view conn.store).is_clean ≤ doubt (g.view left).is_clean →
      (IsClean (g.view left) → AreFit (state g conn).committed.trees → (db : Trees) → g.recovers left db → (state g conn).may_leave db ⊎ HoldsAs (state g conn).committed.trees db) →
      LeadsTo before (over_left g place left) Holds
  opened_leads Holds before place conn left found is_open fits stays clean crash honest =
      let early : IsClean (g.view conn.store) = omega (arith, honest.0, clean) in
      let back = found (early, honest.1) in
      let up = is_open (early, honest.1) in
      let committed = (state g conn).committed.trees in
      (back.0, λ db may. elim (crash honest.0 (fits up) db may) [ inl before ↦ inl (inl (back.1 db before)) | inr moved ↦ inl (inr (committed, back.1 committed (stays up), moved)) ])

  -- the store that refused is shut
  pub leads_shut : (Holds : Trees → Type 0) (before place : Finds) (refused : Held S) (store shut : Option (Held S)) → store ≡ None → shut ≡ Some refused → LeadsTo before (over_connection g place refused) Holds → LeadsTo before (over_stores g place store shut) Holds
  leads_shut Holds before place refused store shut is_none is_some led =
      subst (λ (o : Option (Held S)). LeadsTo before (over_stores g place o shut) Holds) (sym is_none) (subst (λ (o : Option (Held S)). LeadsTo before (over_stores g place None o) Holds) (sym is_some) led)

  -- what makes room changes nothing of that
  module _ {P : Type 0} (finds : P → Finds) (label : List ℕ) (disabled : Bool) (changed : ℕ) (after : Finds) where
    abbrev Leads : P → Option (Held S) → Option (Held S) → List Known → Type 0
    Leads place store shut known = AtHand g store known → LeadsTo (over_stores g (finds place) store shut) after (λ db. IsKnownOr db known label disabled changed)

    pub leads_from : (place old_place : P) (store old_store shut old_shut : Option (Held S)) (known old_known : List Known) → place ≡ old_place → store ≡ old_store → shut ≡ old_shut → known ≡ old_known →
        Leads place store shut known → Leads old_place old_store old_shut old_known
    leads_from place old_place store old_store shut old_shut known old_known same_place same_store same_shut same_known led =
        subst (λ (p : P). Leads p old_store old_shut old_known) same_place
        (subst (λ (s : Option (Held S)). Leads place s old_shut old_known) same_store
        (subst (λ (s : Option (Held S)). Leads place store s old_known) same_shut
        (subst (λ (k : List Known). Leads place store shut k) same_known led)))
