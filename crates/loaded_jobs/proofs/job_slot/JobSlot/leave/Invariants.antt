-- The connections before this place are closed, and the rest is still to be closed.
use Rattle.std.specs.List.{list_all}
use Rattle.loaded_jobs.specs.Tables.{Name, definition_of_number, is_known}
use Rattle.std.proofs.Common.{◌≡◌, List, is_some, true, ◌+◌, ◌-◌, ◌≤◌, [], ◌∷◌, ◌++◌, map, drop}
use Rattle.std.specs.Vec.{vec_capacity, vec_len}
use Rattle.history_model.specs.declared.Act.TheVariants.{Close, Gone}
use Rattle.history_model.specs.Items.{History}
use Rattle.history_model.specs.Demands.{waiting}
use Rattle.history_model.specs.FactsOfPast.{Keeps}
use Rattle.loaded_jobs.specs.StandsFor.{numbered_orders}
use Rattle.loaded_jobs.proofs.job_slot.JobSlot.leave.Given as goal
use Rattle.history_model.specs.declared.TheConstants.{MAX_CONNECTIONS}

abbrev pub invariant-loop-conn : goal.invariant-loop-conn
invariant-loop-conn l = record {
  few : l.place ≤ MAX_CONNECTIONS;
  closed : (past : History) → Keeps l.self.core.facts past →
      l.orders.items ++ numbered_orders l.self.number (map Close (drop l.place (waiting past)) ++ Gone ∷ [])
      ≡ l.fn.orders.items ++ numbered_orders l.self.number (map Close (waiting past) ++ Gone ∷ []);
  known : (names : List Name) → is_some (definition_of_number names l.self.number) ≡ true → list_all (is_known names) l.fn.orders.items ≡ true → list_all (is_known names) l.orders.items ≡ true;
  count : vec_len l.orders ≡ vec_len l.fn.orders + l.place;
  capacity : vec_capacity l.orders ≡ vec_capacity l.fn.orders;
}

abbrev pub decreases-loop-conn : goal.decreases-loop-conn
decreases-loop-conn l = MAX_CONNECTIONS - l.place
