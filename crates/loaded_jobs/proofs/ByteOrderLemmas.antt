-- The jobs are in byte order of labels, so that halves find one.
use Rattle.std.proofs.Common.{◌≡◌, ◌≢◌, ◌⊎◌, inl, inr, ℕ, zero, suc, ◌==◌, ◌<◌, ◌≤◌, nat_lt, Bool, true, false, not, ◌&&◌, cond, List, [], ◌∷◌, ◌++◌, map, take, drop, length, get_or, Option, Some, None, refl, sym, ap, subst, ◌∙◌, arith}
use Rattle.std.specs.Prelude.{slice_get, unwrap_or}
use Rattle.std.specs.List.{filter, position, AllByRecursion}
use Rattle.std.specs.List.Sorted.{IsPartitionPoint, IsPartitionedBy}
use Rattle.std.proofs.lemmas.Bool.Decides.{nat_tests}
use Rattle.std.proofs.lemmas.Option.{slice_get_within, slice_get-get_or, get_or_from_slice_get, slice_get_cases}
use Rattle.history_model.specs.Labels.{Label, is_before}
use Rattle.history_model.specs.MachineLaws.{AreInOrder}
use Rattle.history_model.proofs.StepLemmas.{all-implied}
use Rattle.loaded_jobs.specs.Tables.{labels_in}
use Rattle.loaded_jobs.specs.JobSlots.{name, job_slot_stays, has_label, is_above, is_loaded_under}
use Rattle.loaded_jobs.specs.Loads.{IsAbsent}
use Rattle.loaded_jobs.specs.declared.job_slot.JobSlot.{JobSlot}
use Rattle.loaded_jobs.proofs.FirstLemmas.{IsFirstWhere, NonePasses, first-where, none-where, where-none, where-first, none-at, passes-at, within-where}
use Rattle.loaded_jobs.proofs.HalvesLemmas.{halves, none-past, one-at, none-other}
use Rattle.loaded_jobs.proofs.NearestLemmas.{not-before-self}
use Rattle.loaded_jobs.proofs.SettingLemmas.{is-label}
use Rattle.history_model.proofs.BooleanLemmas.{unless-true, not-true, not-false}
use Rattle.history_model.proofs.LabelOrderLemmas.{before-trans, after}

-- ---- two jobs

ahead : (label : Label) (es : List JobSlot) → AllByRecursion (λ other. is_before label other ≡ true) (labels_in (map name es)) → (j : ℕ) (y : JobSlot) → slice_get es j ≡ Some y →
    is_before label y.def.label ≡ true
ahead label [] all j y at = cc
ahead label (e ∷ es) all zero y at = let same : e ≡ y = cc in subst (λ x. is_before label x.def.label ≡ true) same all.0
ahead label (e ∷ es) all (suc j) y at = ahead label es all.1 j y at

pub in-order : (es : List JobSlot) → AreInOrder (labels_in (map name es)) → (i j : ℕ) (x y : JobSlot) → i < j → slice_get es i ≡ Some x → slice_get es j ≡ Some y →
    is_before x.def.label y.def.label ≡ true
in-order [] order i j x y less first second = cc
in-order (e ∷ es) order zero zero x y less first second = absurd (omega (arith, less))
in-order (e ∷ es) order zero (suc j) x y less first second = let same : e ≡ x = cc in subst (λ z. is_before z.def.label y.def.label ≡ true) same (ahead e.def.label es order.0 j y second)
in-order (e ∷ es) order (suc i) zero x y less first second = absurd (omega (arith, less))
in-order (e ∷ es) order (suc i) (suc j) x y less first second = in-order es order.1 i j x y (omega (arith, less)) first second

module _ (es : List JobSlot) (order : AreInOrder (labels_in (map name es))) (label : Label) where
  -- ---- what halves need

  abbrev pub is_below : JobSlot → Bool
  is_below e = is_before e.def.label label

  abbrev pub is_no_later : JobSlot → Bool
  is_no_later e = not (is_above label e)

  at-place : (k : ℕ) (d : JobSlot) → k < length es → slice_get es k ≡ Some (get_or es k d)
  at-place k d within = slice_get-get_or es k d within

  pub halves-below : IsPartitionedBy is_below es
  halves-below = halves (λ e. e.def.label) es (in-order es order) label

  pub halves-no-later : IsPartitionedBy is_no_later es
  halves-no-later i j d up within is = go (i == j) refl
    where
      go : (b : Bool) → (i == j) ≡ b → is_no_later (get_or es i d) ≡ true
      go true equal = let same : j ≡ i = grind (arith, nat_tests, equal) in subst (λ n. is_no_later (get_or es n d) ≡ true) same is
      go false other =
          let differ : i ≢ j = (λ same. (let clash : ⊥ = grind (arith, nat_tests, other, same) in clash)) in
          let less : i < j = omega (arith, up, differ) in
          let low : i < length es = omega (arith, less, within) in
          ap not (unless-true (is_above label (get_or es i d)) (λ above. (
          let far = before-trans label _ _ above (in-order es order i j (get_or es i d) (get_or es j d) less (at-place i d low) (at-place j d within)) in
          let clash : true ≡ false = sym far ∙ not-true (is_above label (get_or es j d)) is in cc clash)))

  -- ---- the job with the label

  module _ (k : ℕ) (point : IsPartitionPoint (λ e. is_below e ≡ true) (λ e. is_below e ≡ false) es k) where
    pub label-past : length es ≤ k → None ≡ position (has_label label) es
    label-past = none-past (λ e. e.def.label) es (in-order es order) label k point

    pub label-at : (e : JobSlot) → slice_get es k ≡ Some e → has_label label e ≡ true → Some k ≡ position (has_label label) es
    label-at = one-at (λ e. e.def.label) es (in-order es order) label k point

    pub label-other : (e : JobSlot) → slice_get es k ≡ Some e → has_label label e ≡ false → None ≡ position (has_label label) es
    label-other = none-other (λ e. e.def.label) es (in-order es order) label k point

  -- ---- the place of a new job

  module _ (k : ℕ) (bound : k ≤ length es) (point : IsPartitionPoint (λ e. is_no_later e ≡ true) (λ e. is_no_later e ≡ false) es k) where
    none-above : (j : ℕ) (y : JobSlot) → j < k → slice_get es j ≡ Some y → is_above label y ≡ false
    none-above j y less at =
        not-true (is_above label y) (subst (λ e. is_no_later e ≡ true) (get_or_from_slice_get es j y y at) (point.0 j y (omega arith) less))

    pub above-at : k ≡ unwrap_or (position (is_above label) es) (length es)
    above-at = go (slice_get_cases es k).1
      where
        go : ((x : JobSlot) × (k < length es) × (slice_get es k ≡ Some x) × (get_or es k x ≡ x)) ⊎ ((length es ≤ k) × (slice_get es k ≡ None)) →
            k ≡ unwrap_or (position (is_above label) es) (length es)
        go (inl found) =
            let x = found.0 in
            let within = found.1 in
            let above = not-false (is_above label x) (subst (λ e. is_no_later e ≡ false) found.3 (point.1 k x (omega arith) within)) in
            ap (λ o. unwrap_or o (length es)) (where-first (is_above label) es k x found.2 above none-above)
        go (inr past) =
            let up = past.0 in
            let same : k ≡ length es = omega (arith, up, bound) in
            same ∙ ap (λ o. unwrap_or o (length es)) (where-none (is_above label) es (λ j y at. none-above j y (let within = slice_get_within es j y at in omega (arith, up, within)) at))

-- ---- the job with the label that is not gone

-- no two jobs have one label
one-label : (es : List JobSlot) → AreInOrder (labels_in (map name es)) → (label : Label) (i j : ℕ) (x y : JobSlot) → slice_get es i ≡ Some x → slice_get es j ≡ Some y →
    has_label label x ≡ true → has_label label y ≡ true → i < j → ⊥
one-label es order label i j x y first second is_x is_y less =
    let same_x = is-label label x.def.label is_x in
    let same_y = is-label label y.def.label is_y in
    let clash : true ≡ false = sym (in-order es order i j x y less first second) ∙ (λ k. is_before (sym same_x k) (sym same_y k)) ∙ not-before-self label in cc clash

labelled : (label : Label) (e : JobSlot) → is_loaded_under label e ≡ true → has_label label e ≡ true
labelled label e is = go (not e.has_gone) (has_label label e) is
  where
    go : (a b : Bool) → (a && b) ≡ true → b ≡ true
    go true b e = e
    go false b e = cc

pub none-here : (es : List JobSlot) (label : Label) → None ≡ position (has_label label) es → None ≡ position (is_loaded_under label) es
none-here es label none = where-none (is_loaded_under label) es (λ j y at. unless-true (is_loaded_under label y) (λ is. (
    let clash : true ≡ false = sym (labelled label y is) ∙ none-at (has_label label) es (none-where (has_label label) es none) j y at in cc clash)))

module _ (es : List JobSlot) (order : AreInOrder (labels_in (map name es))) (label : Label) (k : ℕ) (e : JobSlot) (found : Some k ≡ position (has_label label) es) (is : e ≡ get_or es k e) where
  at-first : IsFirstWhere (has_label label) es k
  at-first = first-where (has_label label) es k found

  at-k : slice_get es k ≡ Some e
  at-k = slice_get-get_or es k e (within-where (has_label label) es k at-first) ∙ ap Some (sym is)

  has-label : has_label label e ≡ true
  has-label = ap (has_label label) is ∙ passes-at (has_label label) es k e at-first

  pub going-here : e.has_gone ≡ true → None ≡ position (is_loaded_under label) es
  going-here going = where-none (is_loaded_under label) es (λ j y at. unless-true (is_loaded_under label y) (λ here. go j y at here (nat_lt j k) refl (nat_lt k j) refl))
    where
      go : (j : ℕ) (y : JobSlot) → slice_get es j ≡ Some y → is_loaded_under label y ≡ true → (b : Bool) → nat_lt j k ≡ b → (c : Bool) → nat_lt k j ≡ c → ⊥
      go j y at here true below c above = let less : j < k = grind (arith, below) in one-label es order label j k y e at at-k (labelled label y here) has-label less
      go j y at here false below true above = let less : k < j = grind (arith, above) in one-label es order label k j e y at-k at has-label (labelled label y here) less
      go j y at here false below false above =
          let up : k ≤ j = grind (arith, below) in
          let down : j ≤ k = grind (arith, above) in
          let same : k ≡ j = omega (arith, up, down) in
          let both : Some e ≡ Some y = sym at-k ∙ ap (slice_get es) same ∙ at in
          let equal : e ≡ y = cc in
          let clash : true ≡ false = sym here ∙ ap (is_loaded_under label) (sym equal) ∙ ap (λ b. not b && has_label label e) going in cc clash

  pub stays-here : e.has_gone ≡ false → Some k ≡ position (is_loaded_under label) es
  stays-here job_slot_stays = where-first (is_loaded_under label) es k e at-k ((λ i. not (job_slot_stays i) && has-label i)) (λ j y less at. unless-true (is_loaded_under label y) (λ here. one-label es order label j k y e at at-k (labelled label y here) has-label less))

-- ---- a new job, and those that left

all-placed : (P : Label → Type 0) (new : JobSlot) → P new.def.label → (es : List JobSlot) (k : ℕ) → AllByRecursion P (labels_in (map name es)) → AllByRecursion P (labels_in (map name (take k es ++ new ∷ drop k es)))
all-placed P new holds es zero all = (holds, all)
all-placed P new holds [] (suc k) all = (holds, tt)
all-placed P new holds (e ∷ es) (suc k) all = (all.0, all-placed P new holds es k all.1)

module _ (new : JobSlot) where
  order-first : (es : List JobSlot) (k : ℕ) → IsFirstWhere (is_above new.def.label) es k → IsAbsent new.def.label (map name es) → AreInOrder (labels_in (map name es)) →
      AreInOrder (labels_in (map name (take k es ++ new ∷ drop k es)))
  order-first [] k first absent order = absurd first
  order-first (e ∷ es) zero first absent order =
      ((first, all-implied (λ other. is_before e.def.label other ≡ true) (λ other. is_before new.def.label other ≡ true) (λ other later. before-trans new.def.label e.def.label other first later) (labels_in (map name es)) order.0), order)
  order-first (e ∷ es) (suc k) first absent order =
      (all-placed (λ other. is_before e.def.label other ≡ true) new (after new.def.label e.def.label first.0 absent.0) es k order.0, order-first es k first.1 absent.1 order.1)

  order-last : (es : List JobSlot) → NonePasses (is_above new.def.label) es → IsAbsent new.def.label (map name es) → AreInOrder (labels_in (map name es)) →
      AreInOrder (labels_in (map name (take (length es) es ++ new ∷ drop (length es) es)))
  order-last [] none absent order = (tt, tt)
  order-last (e ∷ es) none absent order =
      (all-placed (λ other. is_before e.def.label other ≡ true) new (after new.def.label e.def.label none.0 absent.0) es (length es) order.0, order-last es none.1 absent.1 order.1)

  pub order-placed : (es : List JobSlot) → IsAbsent new.def.label (map name es) → AreInOrder (labels_in (map name es)) →
      let k = unwrap_or (position (is_above new.def.label) es) (length es) in AreInOrder (labels_in (map name (take k es ++ new ∷ drop k es)))
  order-placed es absent order = go (position (is_above new.def.label) es) refl
    where
      go : (o : Option ℕ) → o ≡ position (is_above new.def.label) es → AreInOrder (labels_in (map name (take (unwrap_or o (length es)) es ++ new ∷ drop (unwrap_or o (length es)) es)))
      go None is = order-last es (none-where (is_above new.def.label) es is) absent order
      go (Some k) is = order-first es k (first-where (is_above new.def.label) es k is) absent order

all-tidy : (P : Label → Type 0) (es : List JobSlot) → AllByRecursion P (labels_in (map name es)) → AllByRecursion P (labels_in (map name (filter job_slot_stays es)))
all-tidy P [] all = tt
all-tidy P (e ∷ es) all = go e.has_gone (all-tidy P es all.1)
  where
    go : (b : Bool) → AllByRecursion P (labels_in (map name (filter job_slot_stays es))) → AllByRecursion P (labels_in (map name (cond (not b) (e ∷ filter job_slot_stays es) (filter job_slot_stays es))))
    go true later = later
    go false later = (all.0, later)

pub order-tidy : (es : List JobSlot) → AreInOrder (labels_in (map name es)) → AreInOrder (labels_in (map name (filter job_slot_stays es)))
order-tidy [] order = tt
order-tidy (e ∷ es) order = go e.has_gone (order-tidy es order.1)
  where
    go : (b : Bool) → AreInOrder (labels_in (map name (filter job_slot_stays es))) → AreInOrder (labels_in (map name (cond (not b) (e ∷ filter job_slot_stays es) (filter job_slot_stays es))))
    go true later = later
    go false later = (all-tidy (λ other. is_before e.def.label other ≡ true) es order.0, later)
