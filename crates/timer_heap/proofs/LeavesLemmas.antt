-- The leaves are the moments that a contract sees.
use Rattle.std.proofs.Common.{◌≡◌, ℕ, suc, ◌-◌, ◌<◌, ◌≤◌, nat_lt, Bool, true, false, List, [], ◌∷◌, map, drop, length, Option, Some, None, refl, sym, ap, ◌∙◌, subst, arith, length-drop}
use Rattle.std.proofs.Math.ListN.{get_or-eq_default, get_or-map}
use Rattle.std.proofs.lemmas.List.{get_or-drop}
use Rattle.std.proofs.lemmas.Bool.Decides.{nat_tests}
use Rattle.timer_heap.specs.Timers.{moment_in, room, Updates, IsNoLater, IsLeast}
use Rattle.timer_heap.specs.Nodes.{node, leaf, moment_of, timers_of, IsTree, IsPut}
use Rattle.timer_heap.specs.declared.tree.Timer.{Timer}
use Rattle.timer_heap.specs.declared.tree.Tree.{Tree}
use Rattle.timer_heap.proofs.RootsLemmas.{IsNotAfter, root-first, root-own}

map-length : {X Y : Type 0} (f : X → Y) (xs : List X) → length (map f xs) ≡ length xs
map-length f [] = refl
map-length f (x ∷ xs) = ap suc (map-length f xs)

pub moment_in-timers_of : (t : Tree) (job : ℕ) → moment_in (timers_of t) job ≡ moment_of (leaf t job)
moment_in-timers_of t job = get_or-map moment_of (drop t.leaves t.nodes.items) job None ∙ ap moment_of (get_or-drop t.leaves t.nodes.items job None)

pub room-timers_of : (t : Tree) → IsTree t → room (timers_of t) ≡ t.leaves
room-timers_of t tree =
    let size = tree.size in
    let long : length (drop t.leaves t.nodes.items) ≡ length t.nodes.items - t.leaves = length-drop t.leaves t.nodes.items in
    map-length moment_of (drop t.leaves t.nodes.items) ∙ omega (arith, long, size)

pub put-updates : (old new : Tree) (job : ℕ) (timer : Option Timer) → IsTree old → IsTree new → IsPut old new job timer → Updates (timers_of old) (timers_of new) job (moment_of timer)
put-updates old new job timer before after put = record {
  changed = moment_in-timers_of new job ∙ ap moment_of put.changed;
  others = λ other differ. moment_in-timers_of new other ∙ ap moment_of (put.others other differ) ∙ sym (moment_in-timers_of old other);
  room = room-timers_of new after ∙ put.leaves ∙ sym (room-timers_of old before);
}

-- a number without room has no moment
pub beyond : (t : Tree) → IsTree t → (job : ℕ) → t.leaves ≤ job → leaf t job ≡ None
beyond t tree job above = let size = tree.size in get_or-eq_default t.nodes.items None (omega (arith, above, size))

pub unchanged : (t : Tree) → IsTree t → (job : ℕ) → t.leaves ≤ job → Updates (timers_of t) (timers_of t) job None
unchanged t tree job above = record {
  changed = moment_in-timers_of t job ∙ ap moment_of (beyond t tree job above);
  others = λ other differ. refl;
  room = refl;
}

-- ---- the least

none-first : (x : Option Timer) → IsNotAfter None x → x ≡ None
none-first None after = refl
none-first (Some y) after = absurd after

pub least-none : (t : Tree) → IsTree t → node t.nodes.items 1 ≡ None → IsLeast (timers_of t) None
least-none t tree is = λ job. moment_in-timers_of t job ∙ ap moment_of (go job (nat_lt job t.leaves) refl) where
  go : (job : ℕ) (b : Bool) → nat_lt job t.leaves ≡ b → leaf t job ≡ None
  go job true inner =
      let below : job < t.leaves = grind (arith, nat_tests, inner) in
      none-first (leaf t job) (subst (λ x. IsNotAfter x (leaf t job)) is (root-first t.nodes.items t.leaves tree job below))
  go job false outer = beyond t tree job (grind (arith, nat_tests, outer))

pub least-empty : (t : Tree) → IsTree t → t.leaves ≡ 0 → IsLeast (timers_of t) None
least-empty t tree empty = λ job. moment_in-timers_of t job ∙ ap moment_of (beyond t tree job (omega (arith, empty)))

pub least-some : (t : Tree) → IsTree t → 1 ≤ t.leaves → (x : Timer) → node t.nodes.items 1 ≡ Some x → IsLeast (timers_of t) (Some (x.job, x.moment))
least-some t tree some x is = (
  moment_in-timers_of t x.job ∙ ap moment_of (root-own t.nodes.items t.leaves tree x some is).1,
  λ job moment there. go job moment (nat_lt job t.leaves) refl (sym (moment_in-timers_of t job) ∙ there),
) where
  own-job : (job moment : ℕ) → job < t.leaves → (y : Option Timer) → leaf t job ≡ y → moment_of y ≡ Some moment → IsNoLater x.moment x.job moment job
  own-job job moment below None here e = cc
  own-job job moment below (Some y) here e =
      let same : y.moment ≡ moment = cc in
      let own : y.job ≡ job = tree.own job below y here in
      let first : IsNotAfter (Some x) (Some y) = subst (λ a. IsNotAfter a (Some y)) is (subst (λ b. IsNotAfter (node t.nodes.items 1) b) here (root-first t.nodes.items t.leaves tree job below)) in
      subst (λ n. IsNoLater x.moment x.job n job) same (subst (λ k. IsNoLater x.moment x.job y.moment k) own first)

  go : (job moment : ℕ) (b : Bool) → nat_lt job t.leaves ≡ b → moment_of (leaf t job) ≡ Some moment → IsNoLater x.moment x.job moment job
  go job moment true inner there = own-job job moment (grind (arith, nat_tests, inner)) (leaf t job) refl there
  go job moment false outer there =
      let none : None ≡ Some moment = sym (ap moment_of (beyond t tree job (grind (arith, nat_tests, outer)))) ∙ there in absurd (cc none)
