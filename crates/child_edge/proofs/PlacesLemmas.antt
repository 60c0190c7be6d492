-- Which connections stay where a further one comes.
use Rattle.std.proofs.Common.{◌≡◌, ◌⊎◌, inl, inr, ℕ, false, Option, List, Some, None, refl, ap, subst, ◌∙◌}
use Rattle.std.specs.Prelude.{cond}
use Rattle.std.specs.declared.cmp.Ordering.{Ordering}
use Rattle.std.specs.declared.cmp.Ordering.TheVariants.{Less, Equal, Greater}
use Rattle.std.specs.Ordering.{is_eq}
use Rattle.std.specs.Option.{IsSomeAnd, is_some}
use Rattle.std.specs.Ordering.{nat_cmp}
use Rattle.std.specs.BTreeMap.{BTreeMap, is_at}
use Rattle.std.specs.Map.{lookup}
use Rattle.std.proofs.lemmas.Map.Lookups.{exact_pairs, exact_unsigned}
use Rattle.child_edge.specs.declared.connection.Connection.{Connection}
use Rattle.child_edge.specs.Places.{IsSpent, ReleasesSpent, TakesOne, held_at, key_cmp}

-- keys that compare as equal are one
same_key : (one other : ℕ × ℕ) → key_cmp one other ≡ Equal → one ≡ other
same_key = exact_pairs nat_cmp nat_cmp exact_unsigned exact_unsigned

module _ {C F : Type 0} where
  -- of these the one under the key goes, which is spent
  pub spent_goes : (old new : BTreeMap (ℕ × ℕ) (Connection C F)) (key : ℕ × ℕ) → IsSomeAnd (held_at old key) IsSpent →
      ((q : ℕ × ℕ) → held_at new q ≡ cond (is_eq (key_cmp key q)) None (held_at old q)) → ReleasesSpent old new
  spent_goes old new key spent updates = λ q. go q (key_cmp key q) refl where
    go : (q : ℕ × ℕ) (o : Ordering) → key_cmp key q ≡ o → (held_at new q ≡ held_at old q) ⊎ ((held_at new q ≡ None) × IsSomeAnd (held_at old q) IsSpent)
    go q Less eq = inl (updates q ∙ ap (λ o. cond (is_eq o) None (held_at old q)) eq)
    go q Greater eq = inl (updates q ∙ ap (λ o. cond (is_eq o) None (held_at old q)) eq)
    go q Equal eq = inr (
      updates q ∙ ap (λ o. cond (is_eq o) None (held_at old q)) eq,
      subst (λ k. IsSomeAnd (held_at old k) IsSpent) (same_key key q eq) spent,
    )

  pub nobody_goes : (held : BTreeMap (ℕ × ℕ) (Connection C F)) → ReleasesSpent held held
  nobody_goes held = λ key. inl refl

  -- what is not there does not come
  pub stays_free : (old new : BTreeMap (ℕ × ℕ) (Connection C F)) (key : ℕ × ℕ) → ReleasesSpent old new → held_at old key ≡ None → held_at new key ≡ None
  stays_free old new key goes none = by (goes key) where
    by : (held_at new key ≡ held_at old key) ⊎ ((held_at new key ≡ None) × IsSomeAnd (held_at old key) IsSpent) → held_at new key ≡ None
    by (inl same) = same ∙ none
    by (inr gone) = gone.0

  pub takes_nobody : (held : BTreeMap (ℕ × ℕ) (Connection C F)) → TakesOne held held
  takes_nobody held = λ key connection is. inl is

  -- first the spent go, then one comes
  pub takes_then : (old mid new : BTreeMap (ℕ × ℕ) (Connection C F)) → ReleasesSpent old mid → TakesOne mid new → TakesOne old new
  takes_then old mid new goes takes = λ key connection is. by key connection is (goes key) where
    by : (key : ℕ × ℕ) (connection : Connection C F) → held_at old key ≡ Some connection →
        (held_at mid key ≡ held_at old key) ⊎ ((held_at mid key ≡ None) × IsSomeAnd (held_at old key) IsSpent) →
        (held_at new key ≡ Some connection) ⊎ IsSpent connection
    by key connection is (inl same) = takes key connection (same ∙ is)
    by key connection is (inr gone) = inr (subst (λ slot. IsSomeAnd slot IsSpent) is gone.1)

  -- one comes under a free number
  pub one_comes : (old new : BTreeMap (ℕ × ℕ) (Connection C F)) (key : ℕ × ℕ) (one : Connection C F) → held_at old key ≡ None →
      ((q : ℕ × ℕ) → held_at new q ≡ cond (is_eq (key_cmp key q)) (Some one) (held_at old q)) → TakesOne old new
  one_comes old new key one none updates = λ q connection is. go q connection is (key_cmp key q) refl where
    go : (q : ℕ × ℕ) (connection : Connection C F) → held_at old q ≡ Some connection → (o : Ordering) → key_cmp key q ≡ o →
        (held_at new q ≡ Some connection) ⊎ IsSpent connection
    go q connection is Less eq = inl (updates q ∙ (ap (λ o. cond (is_eq o) (Some one) (held_at old q)) eq ∙ is))
    go q connection is Greater eq = inl (updates q ∙ (ap (λ o. cond (is_eq o) (Some one) (held_at old q)) eq ∙ is))
    go q connection is Equal eq =
        let at : held_at old q ≡ None = subst (λ k. held_at old k ≡ None) (same_key key q eq) none in
        absurd (cc (at, is))

  -- where the entries are the same nobody goes or comes
  pub takes_same : (old new : BTreeMap (ℕ × ℕ) (Connection C F)) → new.entries ≡ old.entries → TakesOne old new
  takes_same old new same = λ q connection is. inl (ap (λ (entries : List ((ℕ × ℕ) × Connection C F)). lookup (is_at (key_cmp q)) entries) same ∙ is)

-- what is not there is none
pub none_of : {X : Type 0} (slot : Option X) → is_some slot ≡ false → slot ≡ None
none_of None is = refl
none_of (Some x) is = absurd (cc)
