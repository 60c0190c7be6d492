-- Counts of the items that pass, in the list of triggers and in the jobs' definitions.
use Rattle.std.proofs.Common.{◌≡◌, ℕ, suc, ◌+◌, nat_lt, Bool, true, false, ◌&&◌, ◌||◌, cond, List, [], ◌∷◌, ◌++◌, map, take, drop, length, count_by, Some, refl, sym, ap, ◌∙◌, arith}
use Rattle.std.specs.Prelude.{slice_get}
use Rattle.std.specs.List.{filter, list_any, sum_by}
use Rattle.std.proofs.lemmas.List.Sums.{sum_by-cons, sum_by-append, sum_by-insert}
use Rattle.loaded_jobs.specs.JobSlots.{name}
use Rattle.loaded_jobs.specs.Sound.{IsSound, seen_table}
use Rattle.loaded_jobs.specs.Triggers.{triggers_of, under, listed_in}
use Rattle.loaded_jobs.specs.declared.job_slot.JobSlot.{JobSlot}
use Rattle.loaded_jobs.specs.declared.jobs.Jobs.{Jobs}
use Rattle.loaded_jobs.specs.declared.trigger.Listed.{Listed}

module _ {X : Type 0} where
  -- some item passes exactly if the count is above 0
  any-count : (p : X → Bool) (xs : List X) → list_any p xs ≡ nat_lt 0 (count_by p xs)
  any-count p [] = refl
  any-count p (x ∷ xs) = go (p x) (any-count p xs) ∙ ap (nat_lt 0) (sym (sum_by-cons (λ y. cond (p y) 1 0) x xs))
    where
      go : (b : Bool) → list_any p xs ≡ nat_lt 0 (count_by p xs) → (b || list_any p xs) ≡ nat_lt 0 (cond b 1 0 + count_by p xs)
      go true later = let is : nat_lt 0 (1 + count_by p xs) ≡ true = grind arith in sym is
      go false later = let same : count_by p xs ≡ 0 + count_by p xs = omega arith in later ∙ ap (nat_lt 0) same

  count-all : (xs : List X) → count_by (λ x. true) xs ≡ length xs
  count-all [] = refl
  count-all (x ∷ xs) =
      let head = sum_by-cons (λ (y : X). 1) x xs in
      let later = count-all xs in
      omega (arith, head, later)

  pub sum-agree : (f g : X → ℕ) (xs : List X) → ((j : ℕ) (x : X) → slice_get xs j ≡ Some x → f x ≡ g x) → sum_by f xs ≡ sum_by g xs
  sum-agree f g [] each = refl
  sum-agree f g (x ∷ xs) each =
      sum_by-cons f x xs ∙ (λ i. each 0 x refl i + sum-agree f g xs (λ j y at. each (suc j) y at) i) ∙ sym (sum_by-cons g x xs)

  sum-none : (xs : List X) → sum_by (λ x. 0) xs ≡ 0
  sum-none [] = refl
  sum-none (x ∷ xs) =
      let head = sum_by-cons (λ (y : X). 0) x xs in
      let later = sum-none xs in
      omega (arith, head, later)

  pub count-and : (b : Bool) (p : X → Bool) (xs : List X) → count_by (λ x. b && p x) xs ≡ cond b (count_by p xs) 0
  count-and true p xs = refl
  count-and false p xs = sum-none xs

  pub sum-filter : (f : X → ℕ) (q : X → Bool) (xs : List X) → sum_by f (filter q xs) ≡ sum_by (λ x. cond (q x) (f x) 0) xs
  sum-filter f q [] = refl
  sum-filter f q (x ∷ xs) = go (q x) (sum-filter f q xs) ∙ sym (sum_by-cons (λ y. cond (q y) (f y) 0) x xs)
    where
      go : (b : Bool) → sum_by f (filter q xs) ≡ sum_by (λ y. cond (q y) (f y) 0) xs →
          sum_by f (cond b (x ∷ filter q xs) (filter q xs)) ≡ cond b (f x) 0 + sum_by (λ y. cond (q y) (f y) 0) xs
      go true later = sum_by-cons f x (filter q xs) ∙ ap (λ n. f x + n) later
      go false later = let same : sum_by (λ y. cond (q y) (f y) 0) xs ≡ 0 + sum_by (λ y. cond (q y) (f y) 0) xs = omega arith in later ∙ same

pub count-map : {X Y : Type 0} (p : Y → Bool) (f : X → Y) (xs : List X) → count_by p (map f xs) ≡ count_by (λ x. p (f x)) xs
count-map p f [] = refl
count-map p f (x ∷ xs) =
    sum_by-cons (λ y. cond (p y) 1 0) (f x) (map f xs) ∙ ap (λ n. cond (p (f x)) 1 0 + n) (count-map p f xs) ∙ sym (sum_by-cons (λ y. cond (p (f y)) 1 0) x xs)

-- how many of the job's triggers pass
abbrev pub own-count : (Listed → Bool) → JobSlot → ℕ
own-count test e = count_by (λ trigger. test (under e.number trigger)) (triggers_of e.def)

pub by-counts : (test : Listed → Bool) (es : List JobSlot) → count_by test (listed_in (map name es)) ≡ sum_by (own-count test) es
by-counts test [] = refl
by-counts test (e ∷ es) =
    sum_by-append (λ one. cond (test one) 1 0) (map (under e.number) (triggers_of e.def)) (listed_in (map name es))
    ∙ (λ i. count-map test (under e.number) (triggers_of e.def) i + by-counts test es i)
    ∙ sym (sum_by-cons (own-count test) e es)

-- lists that have each item equally often agree on whether some item passes
pub any-listed : (listed owned : List Listed) → ((test : Listed → Bool) → count_by test listed ≡ count_by test owned) → (test : Listed → Bool) → list_any test listed ≡ list_any test owned
any-listed listed owned exact test = any-count test listed ∙ ap (nat_lt 0) (exact test) ∙ sym (any-count test owned)

pub as-many : (listed owned : List Listed) → ((test : Listed → Bool) → count_by test listed ≡ count_by test owned) → length listed ≡ length owned
as-many listed owned exact = sym (count-all listed) ∙ exact (λ one. true) ∙ count-all owned

-- the table holds as many triggers as its definitions have
pub triggers_held : (t : Jobs) → IsSound t → (seen_table t).reserved.held_triggers ≡ length (listed_in (seen_table t).names)
triggers_held t sound = let same = as-many t.triggers.items (listed_in (map name t.job_slots.items)) sound.listed.exact in omega (arith, same)

-- one more job
pub exact-placed : (listed later : List Listed) (new : JobSlot) (es : List JobSlot) (k : ℕ) → ((test : Listed → Bool) → count_by test listed ≡ count_by test (listed_in (map name es))) →
    ((test : Listed → Bool) → count_by test later ≡ count_by test listed + own-count test new) →
    (test : Listed → Bool) → count_by test later ≡ count_by test (listed_in (map name (take k es ++ new ∷ drop k es)))
exact-placed listed later new es k before more test =
    more test ∙ ap (λ n. n + own-count test new) (before test ∙ by-counts test es) ∙ sym (sum_by-insert (own-count test) es k new) ∙ sym (by-counts test (take k es ++ new ∷ drop k es))
