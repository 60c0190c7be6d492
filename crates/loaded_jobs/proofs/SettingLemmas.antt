-- What a setting leaves of the others.
use Rattle.std.proofs.Common.{◌≡◌, ℕ, zero, suc, Bool, true, false, cond, List, [], ◌∷◌, ◌++◌, Option, Some, None, is_some, refl, sym, ap, ◌∙◌, subst, take, drop, ◌<◌, arith}
use Rattle.std.specs.Prelude.{slice_set, slice_get}
use Rattle.std.specs.List.{filter}
use Rattle.history_model.specs.declared.event.Setting.{Setting}
use Rattle.history_model.specs.Search.{first}
use Rattle.history_model.specs.Labels.{Label, is_same}
use Rattle.history_model.specs.Machine.{sets}
use Rattle.loaded_jobs.specs.StandsFor.{KeepsSettings, with_setting}
use Rattle.loaded_jobs.specs.Loads.{enabled_if}
use Rattle.history_model.specs.Step.{set_if}
use Rattle.loaded_jobs.proofs.FirstLemmas.{IsFirstWhere, NonePasses}
use lib.Pointwise.{bytes_decides}

pub is-label : (a b : Label) → is_same a b ≡ true → a ≡ b
is-label a b e = (bytes_decides a b).0 e

module _ (new : Setting) (label : Label) where
  -- one more setting after a list, seen by whether each is of the label
  behind : (x : Setting) (rest xs : List Setting) (a b : Bool) → sets label new ≡ a → sets label x ≡ b → sets new.label x ≡ false →
      first (filter (sets label) rest) ≡ first (cond a (new ∷ filter (sets label) xs) (filter (sets label) xs)) →
      first (cond b (x ∷ filter (sets label) rest) (filter (sets label) rest))
      ≡ first (cond a (new ∷ cond b (x ∷ filter (sets label) xs) (filter (sets label) xs)) (cond b (x ∷ filter (sets label) xs) (filter (sets label) xs)))
  behind x rest xs true true is_new is_x other later =
      let same : label ≡ new.label = is-label label new.label is_new in
      let clash : true ≡ false = sym is_x ∙ ap (λ l. sets l x) same ∙ other in absurd (cc clash)
  behind x rest xs true false is_new is_x other later = later
  behind x rest xs false true is_new is_x other later = refl
  behind x rest xs false false is_new is_x other later = later

  pub set-at : (xs : List Setting) (k : ℕ) → IsFirstWhere (sets new.label) xs k → first (filter (sets label) (slice_set xs k new)) ≡ first (filter (sets label) (new ∷ xs))
  set-at [] k at = absurd at
  set-at (x ∷ xs) zero at = go (sets label new) refl
    where
      go : (a : Bool) → sets label new ≡ a → first (cond a (new ∷ filter (sets label) xs) (filter (sets label) xs)) ≡ first (cond a (new ∷ filter (sets label) (x ∷ xs)) (filter (sets label) (x ∷ xs)))
      go true is = refl
      go false is =
          let same : new.label ≡ x.label = is-label new.label x.label at in
          let other : sets label x ≡ false = ap (is_same label) (sym same) ∙ is in
          ap (λ b. first (cond b (x ∷ filter (sets label) xs) (filter (sets label) xs))) (sym other)
  set-at (x ∷ xs) (suc k) at = behind x (slice_set xs k new) xs (sets label new) (sets label x) refl refl at.0 (set-at xs k at.1)

  pub set-last : (xs : List Setting) → NonePasses (sets new.label) xs → first (filter (sets label) (xs ++ new ∷ [])) ≡ first (filter (sets label) (new ∷ xs))
  set-last [] none = refl
  set-last (x ∷ xs) none = behind x (xs ++ new ∷ []) xs (sets label new) (sets label x) refl refl none.0 (set-last xs none.1)

  -- a setting that is after none of its label decides as if it was first
  pub set-placed : (xs : List Setting) (k : ℕ) → ((j : ℕ) (x : Setting) → slice_get xs j ≡ Some x → j < k → sets new.label x ≡ false) →
      first (filter (sets label) (take k xs ++ new ∷ drop k xs)) ≡ first (filter (sets label) (new ∷ xs))
  set-placed xs zero apart = refl
  set-placed [] (suc k) apart = refl
  set-placed (x ∷ xs) (suc k) apart = behind x (take k xs ++ new ∷ drop k xs) xs (sets label new) (sets label x) refl refl (apart 0 x refl (omega arith))
      (set-placed xs k (λ j y at less. apart (suc j) y at (omega (arith, less))))

-- ---- one more setting before the others

pub keeps-cons : (x : Setting) (xs ys : List Setting) → KeepsSettings xs ys → KeepsSettings (x ∷ xs) (x ∷ ys)
keeps-cons x xs ys keeps = λ label. go label (sets label x)
  where
    go : (label : Label) (b : Bool) → first (cond b (x ∷ filter (sets label) xs) (filter (sets label) xs)) ≡ first (cond b (x ∷ filter (sets label) ys) (filter (sets label) ys))
    go label true = refl
    go label false = keeps label

pub settings-after : (o : Option Setting) (label : Label) (xs ys : List Setting) → o ≡ enabled_if (is_some o) label → KeepsSettings xs ys →
    KeepsSettings (with_setting o xs) (set_if (is_some o) label false ys)
settings-after None label xs ys is keeps = keeps
settings-after (Some x) label xs ys is keeps =
    let new : Setting = record { label = label; disabled = false } in
    let same : x ≡ new = cc is in
    subst (λ v. KeepsSettings (v ∷ xs) (new ∷ ys)) (sym same) (keeps-cons new xs ys keeps)
