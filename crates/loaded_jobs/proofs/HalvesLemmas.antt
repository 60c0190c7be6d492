-- Halves find an item by its label in a list that is in byte order of labels.
use Rattle.std.proofs.Common.{◌≡◌, ◌≢◌, ℕ, ◌==◌, ◌<◌, ◌≤◌, nat_lt, Bool, true, false, List, length, get_or, Some, None, refl, sym, ap, subst, ◌∙◌, arith}
use Rattle.std.specs.Prelude.{slice_get}
use Rattle.std.specs.List.{position}
use Rattle.std.specs.List.Sorted.{IsPartitionPoint, IsPartitionedBy}
use Rattle.std.proofs.lemmas.Bool.Decides.{nat_tests}
use Rattle.std.proofs.lemmas.Option.{slice_get_within, slice_get-get_or, get_or_from_slice_get}
use Rattle.history_model.specs.Labels.{Label, is_before, is_same}
use Rattle.loaded_jobs.proofs.FirstLemmas.{where-none, where-first}
use Rattle.loaded_jobs.proofs.NearestLemmas.{not-before-self}
use Rattle.loaded_jobs.proofs.SettingLemmas.{is-label}
use Rattle.history_model.proofs.BooleanLemmas.{unless-true}
use Rattle.history_model.proofs.LabelOrderLemmas.{before-trans, after, same_self}

-- a label is not one before it, or after it
pub apart-before : (label other : Label) → is_before other label ≡ true → is_same label other ≡ false
apart-before label other before = unless-true (is_same label other) (λ is. (
    let same = is-label label other is in
    let clash : true ≡ false = sym before ∙ ap (λ l. is_before l label) (sym same) ∙ not-before-self label in cc clash))

pub apart-behind : (label other : Label) → is_before label other ≡ true → is_same label other ≡ false
apart-behind label other behind = unless-true (is_same label other) (λ is. (
    let same = is-label label other is in
    let clash : true ≡ false = sym behind ∙ ap (λ l. is_before label l) (sym same) ∙ not-before-self label in cc clash))

module _ {X : Type 0} (label_of : X → Label) where
  -- each item's label is before that of a later one
  abbrev pub AreRising : List X → Type 0
  AreRising xs = (i j : ℕ) (x y : X) → i < j → slice_get xs i ≡ Some x → slice_get xs j ≡ Some y → is_before (label_of x) (label_of y) ≡ true

  module _ (xs : List X) (rising : AreRising xs) (label : Label) where
    abbrev pub is_below : X → Bool
    is_below x = is_before (label_of x) label

    abbrev pub is_of : X → Bool
    is_of x = is_same label (label_of x)

    at-place : (k : ℕ) (d : X) → k < length xs → slice_get xs k ≡ Some (get_or xs k d)
    at-place k d within = slice_get-get_or xs k d within

    pub halves : IsPartitionedBy is_below xs
    halves i j d up within is = go (i == j) refl
      where
        go : (b : Bool) → (i == j) ≡ b → is_below (get_or xs i d) ≡ true
        go true equal = let same : j ≡ i = grind (arith, nat_tests, equal) in subst (λ n. is_below (get_or xs n d) ≡ true) same is
        go false other =
            let differ : i ≢ j = (λ same. (let clash : ⊥ = grind (arith, nat_tests, other, same) in clash)) in
            let less : i < j = omega (arith, up, differ) in
            let low : i < length xs = omega (arith, less, within) in
            before-trans _ _ label (rising i j (get_or xs i d) (get_or xs j d) less (at-place i d low) (at-place j d within)) is

    module _ (k : ℕ) (point : IsPartitionPoint (λ x. is_below x ≡ true) (λ x. is_below x ≡ false) xs k) where
      pub low : (j : ℕ) (y : X) → slice_get xs j ≡ Some y → j < k → is_below y ≡ true
      low j y at less = subst (λ x. is_below x ≡ true) (get_or_from_slice_get xs j y y at) (point.0 j y (omega arith) less)

      others-before : (j : ℕ) (y : X) → j < k → slice_get xs j ≡ Some y → is_of y ≡ false
      others-before j y less at = apart-before label (label_of y) (low j y at less)

      pub none-past : length xs ≤ k → None ≡ position is_of xs
      none-past past = where-none is_of xs (λ j y at. others-before j y (let within = slice_get_within xs j y at in omega (arith, past, within)) at)

      pub one-at : (x : X) → slice_get xs k ≡ Some x → is_of x ≡ true → Some k ≡ position is_of xs
      one-at x at is = where-first is_of xs k x at is (λ j y less got. others-before j y less got)

      -- the item there is of another label: it is after, and so are those that follow
      module _ (x : X) (here : slice_get xs k ≡ Some x) (differ : is_of x ≡ false) where
        behind : is_before label (label_of x) ≡ true
        behind =
            let within = slice_get_within xs k x here in
            let not_low = subst (λ y. is_below y ≡ false) (get_or_from_slice_get xs k x x here) (point.1 k x (omega arith) within) in
            after (label_of x) label not_low (unless-true (is_same (label_of x) label) (λ is. (
            let same = is-label (label_of x) label is in
            let clash : true ≡ false = sym (same_self label) ∙ ap (is_same label) (sym same) ∙ differ in cc clash)))

        pub high : (j : ℕ) (y : X) → slice_get xs j ≡ Some y → k ≤ j → is_before label (label_of y) ≡ true
        high j y at up = go (k == j) refl
          where
            go : (b : Bool) → (k == j) ≡ b → is_before label (label_of y) ≡ true
            go true equal =
                let same : k ≡ j = grind (arith, nat_tests, equal) in
                let found : Some x ≡ Some y = sym here ∙ ap (slice_get xs) same ∙ at in
                let one : x ≡ y = cc in
                subst (λ z. is_before label (label_of z) ≡ true) one behind
            go false other =
                let apart : k ≢ j = (λ same. (let clash : ⊥ = grind (arith, nat_tests, other, same) in clash)) in
                let less : k < j = omega (arith, up, apart) in
                before-trans label (label_of x) (label_of y) behind (rising k j x y less here at)

        pub none-other : None ≡ position is_of xs
        none-other = where-none is_of xs (λ j y at. go j y at (nat_lt j k) refl)
          where
            go : (j : ℕ) (y : X) → slice_get xs j ≡ Some y → (b : Bool) → nat_lt j k ≡ b → is_of y ≡ false
            go j y at true is = let less : j < k = grind (arith, is) in others-before j y less at
            go j y at false is = let up : k ≤ j = grind (arith, is) in apart-behind label (label_of y) (high j y at up)
