-- The settings are in byte order of labels, each label once.
use Rattle.std.proofs.Common.{◌≡◌, ℕ, zero, suc, ◌+◌, ◌<◌, ◌≤◌, nat_lt, Bool, true, false, cond, List, [], ◌∷◌, ◌++◌, map, take, drop, length, get_or, Option, Some, None, refl, sym, ap, subst, ◌∙◌, arith}
use Rattle.std.specs.Prelude.{slice_get, slice_set, reverse}
use Rattle.std.specs.List.{filter, position, AllByRecursion, remove, insert}
use Rattle.std.specs.List.Sorted.{IsPartitionPoint}
use Rattle.std.proofs.lemmas.Option.{slice_get_within}
use Rattle.std.proofs.lemmas.List.{take_at, drop_at, drop-drop, take-append-drop, length-take-le, append_assoc}
use Rattle.std.proofs.lemmas.Grind.{reverse_onto}
use Rattle.history_model.specs.declared.event.Setting.{Setting}
use Rattle.history_model.specs.Search.{first, or_else}
use Rattle.history_model.specs.Labels.{Label, is_before}
use Rattle.history_model.specs.Machine.{sets}
use Rattle.history_model.specs.MachineLaws.{AreInOrder}
use Rattle.loaded_jobs.specs.StandsFor.{KeepsSettings}
use Rattle.loaded_jobs.specs.TableSettings.{AreSet, IsPlaceFor}
use Rattle.loaded_jobs.proofs.FirstLemmas.{IsFirstWhere, where-none, none-where, first-filter}
use Rattle.loaded_jobs.proofs.HalvesLemmas.{AreRising, apart-before, apart-behind, low, high}
use Rattle.loaded_jobs.proofs.SettingLemmas.{is-label, set-placed, set-last}

abbrev label_of : Setting → Label
label_of setting = setting.label

-- ---- two settings

ahead : (P : Label → Type 0) (xs : List Setting) → AllByRecursion P (map (λ setting. setting.label) xs) → (j : ℕ) (y : Setting) → slice_get xs j ≡ Some y → P y.label
ahead P [] all j y at = cc
ahead P (x ∷ xs) all zero y at = let same : x ≡ y = cc in subst (λ z. P z.label) same all.0
ahead P (x ∷ xs) all (suc j) y at = ahead P xs all.1 j y at

pub rising : (xs : List Setting) → AreSet xs → AreRising (λ setting. setting.label) xs
rising [] order i j x y less one other = cc
rising (z ∷ zs) order zero zero x y less one other = absurd (omega (arith, less))
rising (z ∷ zs) order zero (suc j) x y less one other =
    let same : z ≡ x = cc in subst (λ s. is_before s.label y.label ≡ true) same (ahead (λ l. is_before z.label l ≡ true) zs order.0 j y other)
rising (z ∷ zs) order (suc i) zero x y less one other = absurd (omega (arith, less))
rising (z ∷ zs) order (suc i) (suc j) x y less one other = rising zs order.1 i j x y (omega (arith, less)) one other

-- ---- the place of a new one

module _ (xs : List Setting) (order : AreSet xs) (label : Label) (k : ℕ) (bound : k ≤ length xs)
    (point : IsPartitionPoint (λ x. is_before x.label label ≡ true) (λ x. is_before x.label label ≡ false) xs k) where
  pub place-past : length xs ≤ k → IsPlaceFor label xs k
  place-past past = record {
    bound = bound;
    before = λ j y at less. low label_of xs (rising xs order) label k point j y at less;
    behind = λ j y at up. (let within = slice_get_within xs j y at in absurd (omega (arith, past, up, within)));
  }

  pub place-other : (x : Setting) → slice_get xs k ≡ Some x → sets label x ≡ false → IsPlaceFor label xs k
  place-other x here differ = record {
    bound = bound;
    before = λ j y at less. low label_of xs (rising xs order) label k point j y at less;
    behind = λ j y at up. high label_of xs (rising xs order) label k point x here differ j y at up;
  }

pub none-set : (label : Label) (xs : List Setting) (k : ℕ) → IsPlaceFor label xs k → None ≡ position (sets label) xs
none-set label xs k place = where-none (sets label) xs (λ j y at. go j y at (nat_lt j k) refl)
  where
    go : (j : ℕ) (y : Setting) → slice_get xs j ≡ Some y → (b : Bool) → nat_lt j k ≡ b → sets label y ≡ false
    go j y at true is = let less : j < k = grind (arith, is) in apart-before label y.label (place.before j y at less)
    go j y at false is = let up : k ≤ j = grind (arith, is) in apart-behind label y.label (place.behind j y at up)

-- ---- the order of a new one among the others

all-from : (P : Label → Type 0) (xs : List Setting) → ((j : ℕ) (y : Setting) → slice_get xs j ≡ Some y → P y.label) → AllByRecursion P (map (λ setting. setting.label) xs)
all-from P [] each = tt
all-from P (x ∷ xs) each = (each 0 x refl, all-from P xs (λ j y at. each (suc j) y at))

all-put : (P : Label → Type 0) (new : Setting) (xs : List Setting) (k : ℕ) → P new.label → AllByRecursion P (map (λ setting. setting.label) xs) →
    AllByRecursion P (map (λ setting. setting.label) (take k xs ++ new ∷ drop k xs))
all-put P new xs zero own all = (own, all)
all-put P new [] (suc k) own all = (own, tt)
all-put P new (x ∷ xs) (suc k) own all = (all.0, all-put P new xs k own all.1)

pub order-put : (new : Setting) (xs : List Setting) (k : ℕ) → IsPlaceFor new.label xs k → AreSet xs → AreSet (take k xs ++ new ∷ drop k xs)
order-put new xs zero place order = (all-from (λ l. is_before new.label l ≡ true) xs (λ j y at. place.behind j y at (omega arith)), order)
order-put new [] (suc k) place order = (tt, tt)
order-put new (x ∷ xs) (suc k) place order = (
  all-put (λ l. is_before x.label l ≡ true) new xs k (place.before 0 x refl (omega arith)) order.0,
  order-put new xs k (record {
    bound = let b : suc k ≤ suc (length xs) = place.bound in omega (arith, b);
    before = λ j y at less. place.before (suc j) y at (omega (arith, less));
    behind = λ j y at up. place.behind (suc j) y at (omega (arith, up));
  }) order.1,
)

pub keeps-put : (new : Setting) (xs : List Setting) (k : ℕ) → IsPlaceFor new.label xs k → KeepsSettings (take k xs ++ new ∷ drop k xs) (new ∷ xs)
keeps-put new xs k place = λ label. set-placed new label xs k (λ j y at less. apart-before new.label y.label (place.before j y at less))

-- in the place of one of its label
labels-set : (new : Setting) (xs : List Setting) (k : ℕ) → IsFirstWhere (sets new.label) xs k → map (λ setting. setting.label) (slice_set xs k new) ≡ map (λ setting. setting.label) xs
labels-set new [] k at = absurd at
labels-set new (x ∷ xs) zero at = ap (λ l. l ∷ map (λ setting. setting.label) xs) (is-label new.label x.label at)
labels-set new (x ∷ xs) (suc k) at = ap (λ ls. x.label ∷ ls) (labels-set new xs k at.1)

pub order-set : (new : Setting) (xs : List Setting) (k : ℕ) → IsFirstWhere (sets new.label) xs k → AreSet xs → AreSet (slice_set xs k new)
order-set new xs k at order = subst AreInOrder (sym (labels-set new xs k at)) order

-- ---- an older one

first-append : (p : Setting → Bool) (xs ys : List Setting) → first (filter p (xs ++ ys)) ≡ or_else (first (filter p xs)) (first (filter p ys))
first-append p [] ys = refl
first-append p (x ∷ xs) ys = go (p x) (first-append p xs ys)
  where
    go : (b : Bool) → first (filter p (xs ++ ys)) ≡ or_else (first (filter p xs)) (first (filter p ys)) →
        first (cond b (x ∷ filter p (xs ++ ys)) (filter p (xs ++ ys))) ≡ or_else (first (cond b (x ∷ filter p xs) (filter p xs))) (first (filter p ys))
    go true later = refl
    go false later = later

pub keeps-more : (xs ys zs : List Setting) → KeepsSettings xs ys → KeepsSettings (xs ++ zs) (ys ++ zs)
keeps-more xs ys zs keeps = λ label. first-append (sets label) xs zs ∙ ap (λ o. or_else o (first (filter (sets label) zs))) (keeps label) ∙ sym (first-append (sets label) ys zs)

else-none : (o : Option Setting) → o ≡ or_else o None
else-none None = refl
else-none (Some x) = refl

pub keeps-found : (old : Setting) (xs : List Setting) (k : ℕ) → IsFirstWhere (sets old.label) xs k → KeepsSettings xs (xs ++ old ∷ [])
keeps-found old xs k at = λ label. go label (sets label old) refl ∙ sym (first-append (sets label) xs (old ∷ []))
  where
    go : (label : Label) (b : Bool) → sets label old ≡ b → first (filter (sets label) xs) ≡ or_else (first (filter (sets label) xs)) (first (cond b (old ∷ []) []))
    go label true is =
        let found : first (filter (sets label) xs) ≡ Some (get_or xs k old) = ap (λ l. first (filter (sets l) xs)) (is-label label old.label is) ∙ first-filter (sets old.label) xs k old at in
        found ∙ ap (λ o. or_else o (Some old)) (sym found)
    go label false is = else-none (first (filter (sets label) xs))

pub keeps-behind : (old : Setting) (xs : List Setting) (k : ℕ) → IsPlaceFor old.label xs k → KeepsSettings (take k xs ++ old ∷ drop k xs) (xs ++ old ∷ [])
keeps-behind old xs k place = λ label. keeps-put old xs k place label ∙ sym (set-last old label xs (none-where (sets old.label) xs (none-set old.label xs k place)))

-- ---- the lists of one step

module _ {X : Type 0} where
  pub one-there : (xs : List X) (k : ℕ) (x : X) → k < length xs → x ≡ get_or xs k x → take 1 (drop k xs) ≡ x ∷ []
  one-there [] k x less is = let none : k < 0 = less in absurd (omega (arith, none))
  one-there (y ∷ xs) zero x less is = ap (λ z. z ∷ []) (sym is)
  one-there (y ∷ xs) (suc k) x less is = let shorter : suc k < suc (length xs) = less in one-there xs k x (omega (arith, shorter)) is

  inside : (front back : List X) (k p : ℕ) → p ≡ length front + k → (take p (front ++ back) ≡ front ++ take k back) × (drop p (front ++ back) ≡ drop k back)
  inside [] back k p is = let same : p ≡ k = omega (arith, is) in (ap (λ n. take n back) same, ap (λ n. drop n back) same)
  inside (x ∷ front) back k zero is = let n : 0 ≡ suc (length front) + k = is in absurd (omega (arith, n))
  inside (x ∷ front) back k (suc p) is =
      let n : suc p ≡ suc (length front) + k = is in
      let rest = inside front back k p (omega (arith, n)) in
      (ap (λ t. x ∷ t) rest.0, rest.1)

  pub removed : (xs : List X) (k : ℕ) → k < length xs → (take k (remove xs k) ≡ take k xs) × (drop k (remove xs k) ≡ drop (k + 1) xs)
  removed xs k less =
      let n = length-take-le k xs (omega (arith, less)) in
      let more : suc k ≡ k + 1 = omega arith in
      (take_at (take k xs) (drop (suc k) xs) k n, drop_at (take k xs) (drop (suc k) xs) k n ∙ ap (λ m. drop m xs) more)

  pub moved : (xs : List X) (k count : ℕ) (x : X) → k < length xs → x ≡ get_or xs k x → let after = insert (remove xs k) (k + count) x in
      (take k after ≡ take k xs) × (drop k after ≡ take count (drop (k + 1) xs) ++ (take 1 (drop k xs) ++ drop count (drop (k + 1) xs)))
  moved xs k count x less is =
      let n = length-take-le k xs (omega (arith, less)) in
      let back = drop (suc k) xs in
      let more : suc k ≡ k + 1 = omega arith in
      let parts = inside (take k xs) back count (k + count) (ap (λ m. m + count) (sym n)) in
      let after : insert (remove xs k) (k + count) x ≡ take k xs ++ (take count back ++ x ∷ drop count back) = (λ i. parts.0 i ++ x ∷ parts.1 i) ∙ append_assoc (take k xs) (take count back) (x ∷ drop count back) in (
        ap (take k) after ∙ take_at (take k xs) (take count back ++ x ∷ drop count back) k n,
        ap (drop k) after ∙ drop_at (take k xs) (take count back ++ x ∷ drop count back) k n
            ∙ (λ i. take count (drop (more i) xs) ++ (sym (one-there xs k x less is) i ++ drop count (drop (more i) xs))),
      )

  pub unmoved : (xs : List X) (k : ℕ) → drop k xs ≡ take 0 (drop (k + 1) xs) ++ (take 1 (drop k xs) ++ drop 0 (drop (k + 1) xs))
  unmoved xs k = sym (take-append-drop 1 (drop k xs)) ∙ ap (λ ys. take 1 (drop k xs) ++ ys) (drop-drop 1 k xs)

  pub reverse-rest : (xs : List X) → reverse xs ≡ reverse (drop 1 xs) ++ take 1 xs
  reverse-rest [] = refl
  reverse-rest (x ∷ xs) = reverse_onto xs x []

  pub parts : (k : ℕ) (xs ys : List X) → take (suc k) xs ≡ take (suc k) ys → (take k xs ≡ take k ys) × (take 1 (drop k xs) ≡ take 1 (drop k ys))
  parts zero xs ys same = (refl, same)
  parts (suc k) [] [] same = (refl, refl)
  parts (suc k) [] (y ∷ ys) same = cc
  parts (suc k) (x ∷ xs) [] same = cc
  parts (suc k) (x ∷ xs) (y ∷ ys) same =
      let head : x ≡ y = cc in
      let rest = parts k xs ys (ap (drop 1) same) in
      ((λ i. head i ∷ rest.0 i), rest.1)

  pub as-long : (k : ℕ) (xs ys : List X) → k ≤ length xs → take k ys ≡ take k xs → k ≤ length ys
  as-long zero xs ys long same = omega arith
  as-long (suc k) [] ys long same = let none : suc k ≤ 0 = long in absurd (omega (arith, none))
  as-long (suc k) (x ∷ xs) [] long same = cc
  as-long (suc k) (x ∷ xs) (y ∷ ys) long same =
      let longer : suc k ≤ suc (length xs) = long in
      let rest = as-long k xs ys (omega (arith, longer)) (ap (drop 1) same) in
      let all : suc k ≤ suc (length ys) = omega (arith, rest) in all

-- one more of the settings is among those that are in order
pub keeps-step : (xs new overrides : List Setting) (k : ℕ) → take (suc k) xs ≡ take (suc k) overrides → KeepsSettings (drop (suc k) xs) (reverse (drop (suc k) overrides)) →
    KeepsSettings (drop k new) (drop (k + 1) xs ++ take 1 (drop k xs)) → KeepsSettings (drop k new) (reverse (drop k overrides))
keeps-step xs new overrides k same before now = λ label.
    let more : k + 1 ≡ suc k = omega arith in
    let one = (parts k xs overrides same).1 in
    let all : reverse (drop k overrides) ≡ reverse (drop (suc k) overrides) ++ take 1 (drop k overrides) =
    reverse-rest (drop k overrides) ∙ ap (λ ys. reverse ys ++ take 1 (drop k overrides)) (drop-drop 1 k overrides ∙ ap (λ n. drop n overrides) more) in
    now label ∙ ap (λ n. first (filter (sets label) (drop n xs ++ take 1 (drop k xs)))) more
    ∙ keeps-more (drop (suc k) xs) (reverse (drop (suc k) overrides)) (take 1 (drop k xs)) before label
    ∙ ap (λ ys. first (filter (sets label) (reverse (drop (suc k) overrides) ++ ys))) one
    ∙ ap (λ ys. first (filter (sets label) ys)) (sym all)
