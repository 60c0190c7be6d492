-- Each connection is closed in turn.
use Rattle.std.proofs.Common.{◌≡◌, ℕ, ◌+◌, ◌≤◌, List, [], ◌∷◌, ◌++◌, map, drop, Some, None, sym, ap, ◌∙◌, append_assoc, add-one, arith, ◌<◌, ◌⊎◌, inl, inr}
use Rattle.std.specs.List.{slice_get}
use Rattle.std.proofs.Math.Nat.{eq-or-lt_of_le}
use Rattle.history_model.specs.declared.Act.TheVariants.{Close, Gone}
use Rattle.history_model.specs.declared.Order.{Order}
use Rattle.history_model.specs.Demands.{waiting}
use Rattle.loaded_jobs.specs.StandsFor.{numbered_orders}
use Rattle.loaded_jobs.proofs.ListLemmas.{drop-Some, drop-None}
use Rattle.loaded_jobs.proofs.KnownNumbersLemmas.{known-more}
use Rattle.loaded_jobs.proofs.job_slot.JobSlot.leave.Goals as goal
use Rattle.history_model.specs.declared.TheConstants.{MAX_CONNECTIONS}

below : (place conn : ℕ) → (MAX_CONNECTIONS ≤ place → Some conn ≡ None) → (place ≡ MAX_CONNECTIONS) ⊎ (place < MAX_CONNECTIONS) → place + 1 ≤ MAX_CONNECTIONS
below place conn few (inl h) = let clash : Some conn ≡ None = few (omega (arith, h)) in cc
below place conn few (inr h) = omega (arith, h)

closes : (xs : List ℕ) (place conn number : ℕ) (earlier later all : List Order) → Some conn ≡ slice_get xs place →
    later ≡ earlier ++ record { job = number; act = Close conn } ∷ [] →
    earlier ++ numbered_orders number (map Close (drop place xs) ++ Gone ∷ []) ≡ all →
    later ++ numbered_orders number (map Close (drop (place + 1) xs) ++ Gone ∷ []) ≡ all
closes xs place conn number earlier later all at pushed closed =
    rw (pushed, append_assoc, add-one) (ap (λ l. earlier ++ numbered_orders number (map Close l ++ Gone ∷ [])) (sym (drop-Some xs place conn at)) ∙ closed)

over : (xs : List ℕ) (place number : ℕ) (earlier later all : List Order) → None ≡ slice_get xs place →
    later ≡ earlier ++ record { job = number; act = Gone } ∷ [] →
    earlier ++ numbered_orders number (map Close (drop place xs) ++ Gone ∷ []) ≡ all → later ≡ all
over xs place number earlier later all at pushed closed = pushed ∙ ap (λ l. earlier ++ numbered_orders number (map Close l ++ Gone ∷ [])) (sym (drop-None xs place at)) ∙ closed

pub loop-conn-preserved : goal.loop-conn-preserved
loop-conn-preserved c = record {
  few = below c.loop-conn.place c.in-Some.conn c.in-Some.ensures.few (eq-or-lt_of_le c.loop-conn.invariant.few);
  closed = λ past keeps. closes (waiting past) c.loop-conn.place c.in-Some.conn c.args.self.now.number c.loop-conn.orders.items _ _ (c.in-Some.ensures.value past keeps) c.push_reserved.ensures.items (c.loop-conn.invariant.closed past keeps);
  known = λ names is before. known-more names c.loop-conn.orders.items _ _ c.push_reserved.ensures.items is (c.loop-conn.invariant.known names is before);
  count = omega arith;
  capacity = c.push_reserved.ensures.capacity ∙ c.loop-conn.invariant.capacity;
}

pub returns-clause-orders : goal.returns-clause-orders
returns-clause-orders c = λ past keeps. over (waiting past) c.loop-conn.place c.args.self.now.number c.loop-conn.orders.items _ _ (c.in_default.ensures.value past keeps) c.push_reserved-2.ensures.items (c.loop-conn.invariant.closed past keeps)

pub returns-clause-known : goal.returns-clause-known
returns-clause-known c = λ names is before. known-more names c.loop-conn.orders.items _ _ c.push_reserved-2.ensures.items is (c.loop-conn.invariant.known names is before)
