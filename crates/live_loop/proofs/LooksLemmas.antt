-- Walks whose ends are given by equations.
use Rattle.std.proofs.Common.{◌≡◌, ◌≤◌, ℕ, ◌+◌, Bool, List, [], Option, Some, true, false, subst, sym, refl}
use Rattle.live_loop.specs.Looks.{PathCall, Awaits, Known, Walks, Looks, Questions, no_look, one_more, asked, no_question, ahead, awaits}
use Rattle.live_loop.specs.Observing.{walk_at, IsNextLook}

-- when the path checks go on, by what the code says of it
pub next_look : (w : Bool) (path : List ℕ) (up later next : ℕ) → (w ≡ false → next ≡ later) → (w ≡ true → (up ≤ next) × (next ≤ up + 2)) → IsNextLook (walk_at w path) up later next
next_look true path up later next over on = on refl
next_look false path up later next over on = over refl

module _ {H : Type 0} {IsNext : H → List ℕ → Option (List ℕ) → Type 0} {Did : PathCall → H → H → Type 0} where
  pub questions_append : {a b c : H} → Questions IsNext Did a b → Questions IsNext Did b c → Questions IsNext Did a c
  questions_append first no_question = first
  questions_append first (ahead more q) = ahead (questions_append first more) q
  questions_append first (awaits more q) = awaits (questions_append first more) q

module _ {H : Type 0} {IsNext : H → List ℕ → Option (List ℕ) → Type 0} {Did : PathCall → H → H → Type 0} {first : H} {known : Known} {from : List ℕ} where
  pub walk_begun : {path : List ℕ} → path ≡ from → Walks IsNext Did first known from 0 path first known
  walk_begun {path} is = subst (λ p. Walks IsNext Did first known from 0 p first known) (sym is) no_look

  pub walk_known : {n : ℕ} {path path' : List ℕ} {new : H} {after after' : Known} → Walks IsNext Did first known from n path new after → path' ≡ path → after' ≡ after → Walks IsNext Did first known from n path' new after'
  walk_known {n} {path} {path'} {new} {after} {after'} walk is same = subst (λ p. Walks IsNext Did first known from n p new after') (sym is) (subst (λ k. Walks IsNext Did first known from n path new k) (sym same) walk)

  pub walk_on : {n : ℕ} {path next next' : List ℕ} {mid seen new : H} {before before' after : Known} → Walks IsNext Did first known from n path mid before → IsNext mid path (Some next) →
      Did (Awaits next true) mid seen → before' ≡ before → next' ≡ next → Looks Did next' seen before' new after → Walks IsNext Did first known from (n + 1) next' new after
  walk_on {n} {path} {next} {next'} {mid} {seen} {new} {before} {before'} {after} walk is aw same is' looks =
      subst (λ p. Walks IsNext Did first known from (n + 1) p new after) (sym is')
      (one_more walk is aw (subst (λ p. Looks Did p seen before new after) is' (subst (λ b. Looks Did next' seen b new after) same looks)))
