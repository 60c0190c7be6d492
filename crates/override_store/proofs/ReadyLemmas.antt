-- What a call leaves of a connection on which its statement was first compiled.
use Rattle.std.proofs.Common.{◌≡◌, ◌⊎◌, inl, inr, ℕ, List, Bool, Result, OnOk, OnErr, subst, arith}
use Rattle.sqlite.specs.Tree.{Trees}
use Rattle.sqlite.specs.Order.{Row}
use Rattle.sqlite.specs.Effect.{Database}
use Rattle.sqlite.specs.State.{State, HasCleanDisk, IsUnchanged, IsRolledBack, IsNotRun, Survives}
use Rattle.sqlite.proofs.StateLemmas.{survives_then, survives_weaker}
use Rattle.sqlite.specs.declared.error.Error.{Error}
use Rattle.override_store.specs.OverrideStores.{AreOurs, CommitsOpen, HoldsSetting, IsOurs, SetsOne, StaysOurs, setting_rows, rows_now}
use Rattle.override_store.specs.SettingRows.{Sets, Stamps}
use Rattle.override_store.proofs.CallLemmas.{still_open}

-- a text that was not compiled changes nothing, or the transaction is undone
pub not_run : (old new : State) (sql : List ℕ) (params : Row) (e : Error) → IsNotRun old new sql params e → IsUnchanged old new ⊎ IsRolledBack old new
unfolding IsNotRun
not_run old new sql params e (inl h) = inl h.1
not_run old new sql params e (inr h) = inr h.3

pub ours_then : (old mid : State) → IsUnchanged old mid → IsOurs old → IsOurs mid
ours_then old mid same ours = (still_open old mid ours same.0.is_open (inl same)).0

module _ (old mid new : State) (same : IsUnchanged old mid) where
  pub sets_then : {U E : Type 0} (r : Result U E) (label : List ℕ) (disabled : Bool) (changed : ℕ) → OnOk r (SetsOne mid new label disabled changed) → OnOk r (SetsOne old new label disabled changed)
  sets_then r label disabled changed h =
      subst (λ (d : Database). OnOk r (IsOurs new × Sets (setting_rows d.trees) (rows_now new) label disabled × Stamps (setting_rows d.trees) (rows_now new) label changed)) same.0.now_is h

  pub stays_then : StaysOurs mid new → StaysOurs old new
  stays_then h = subst (λ (d : Database). IsOurs new × (new.now ≡ d)) same.0.now_is h

  pub refused_then : {U E : Type 0} (r : Result U E) → OnErr r (StaysOurs mid new) → OnErr r (StaysOurs old new)
  refused_then r h = subst (λ (d : Database). OnErr r (IsOurs new × (new.now ≡ d))) same.0.now_is h

  pub holds_then : (db : Trees) (label : List ℕ) (disabled : Bool) (changed : ℕ) → HoldsSetting mid db label disabled changed → HoldsSetting old db label disabled changed
  holds_then db label disabled changed h =
      subst (λ (d : Database). (it : Database) × (db ≡ it.trees) × AreOurs it × Sets (setting_rows d.trees) (setting_rows db) label disabled × Stamps (setting_rows d.trees) (setting_rows db) label changed) same.0.now_is h

-- what is committed once the text was compiled was committed on an open connection
pub commits_then : (old mid new : State) (Early Late : Trees → Type 0) → (HasCleanDisk mid → IsUnchanged old mid) → (IsUnchanged old mid → (db : Trees) → Early db → Late db) →
    Survives old mid (λ _. ⊥) → Survives mid new (λ db. IsOurs mid → Early db) → Survives old new (λ db. CommitsOpen old (Late db))
commits_then old mid new Early Late opened means one two =
    survives_then old mid new _ (λ db. IsOurs mid → Early db) (λ db. CommitsOpen old (Late db)) (λ _ db none. absurd none)
    (λ clean db may.
    let same = opened (omega (arith, two.clean, clean)) in
    (same.0.was_open, λ ours. means same db (may (ours_then old mid same ours))))
    one two

-- a text that was not compiled commits nothing
pub commits_none_then : (old new : State) (Late : Trees → Type 0) → Survives old new (λ _. ⊥) → Survives old new (λ db. CommitsOpen old (Late db))
commits_none_then old new Late one = survives_weaker old new _ _ (λ _ db none. absurd none) one
