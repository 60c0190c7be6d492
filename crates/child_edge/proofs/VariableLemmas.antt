-- One variable more in a command's environment.
use Rattle.std.proofs.Common.{◌≡◌, ◌≢◌, ℕ, Bool, true, false, cond, List, [], ◌∷◌, ◌++◌, Option, Some, bytes_eq, refl, sym, ap, ◌∙◌, true≢false}
use Rattle.std.proofs.lemmas.List.Sums.{fold_push}
use Rattle.std.proofs.lemmas.Slice.Eq.{bytes_eq-Decides}
use Rattle.history_model.specs.declared.definition.parts.Variable.{Variable}
use Rattle.child_edge.specs.Command.{said_after}

-- a name has its new value, and another name keeps what was said of it
one_more : (k v name : List ℕ) (now was said : Option (Option (List ℕ))) → (name ≡ k → now ≡ Some (Some v)) → (name ≢ k → now ≡ was) → was ≡ said
    → now ≡ cond (bytes_eq k name) (Some (Some v)) said
one_more k v name now was said set others before = by (bytes_eq k name) refl
  where
    by : (r : Bool) → bytes_eq k name ≡ r → now ≡ cond (bytes_eq k name) (Some (Some v)) said
    by true e = set (sym ((bytes_eq-Decides k name).0 e)) ∙ ap (λ y. cond y (Some (Some v)) said) (sym e)
    by false e = others (λ same. true≢false (sym ((bytes_eq-Decides k name).1 (sym same)) ∙ e)) ∙ before ∙ ap (λ y. cond y (Some (Some v)) said) (sym e)

-- what is said once one variable more was set
pub said_after-snoc : (name : List ℕ) (first : Option (Option (List ℕ))) (vs : List Variable) (x : Variable) (now was : Option (Option (List ℕ)))
    → (name ≡ x.name → now ≡ Some (Some x.value)) → (name ≢ x.name → now ≡ was) → was ≡ said_after name first vs
    → now ≡ said_after name first (vs ++ x ∷ [])
said_after-snoc name first vs x now was set others before =
    one_more x.name x.value name now was (said_after name first vs) set others before ∙ sym (fold_push _ _ vs x)
