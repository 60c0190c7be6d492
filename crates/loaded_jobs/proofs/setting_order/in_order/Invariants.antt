-- Those after the place are in order, and decide as the settings from there on.
use Rattle.std.proofs.Common.{◌≡◌, ◌≤◌, length, take, drop, reverse}
use Rattle.loaded_jobs.specs.StandsFor.{KeepsSettings}
use Rattle.loaded_jobs.specs.TableSettings.{AreSet}
use Rattle.loaded_jobs.proofs.setting_order.in_order.Given as goal

abbrev pub invariant-loop-left : goal.invariant-loop-left
invariant-loop-left l = record {
  bound : l.left ≤ length l.settings.items;
  rest : take l.left l.settings.items ≡ take l.left l.fn.overrides.items;
  kept : KeepsSettings (drop l.left l.settings.items) (reverse (drop l.left l.fn.overrides.items));
  order : AreSet (drop l.left l.settings.items);
}

abbrev pub decreases-loop-left : goal.decreases-loop-left
decreases-loop-left l = l.left
