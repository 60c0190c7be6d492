-- The answers to the goals of `again::all_again`.
use Rattle.std.proofs.Common.{arith, reverse}
use Rattle.sqlite.specs.Held.{state}
use Rattle.sqlite.specs.State.{HasCleanDisk}
use Rattle.override_store.proofs.TieLemmas.{holds_back}
use Rattle.override_store.proofs.AgainLemmas.{same_settings}
use Rattle.override_store.proofs.again.all_again.Goals as goal

pub returns-in-Ok-all : goal.returns-in-Ok-all
returns-in-Ok-all g c = record {
  gives = λ settings holds clean label.
      let early : HasCleanDisk (state g.S.Store c.in-Ok.again) = omega (arith, clean, c.all.ensures.crash.clean) in
      let it = c.in-Ok.ensures.holds settings holds early in
      same_settings _ (reverse c.in-Ok-all.all.items) settings (c.in-Ok-all.ensures.each clean it.0) it.1 label;
  each = λ clean ours.
      let early : HasCleanDisk (state g.S.Store c.in-Ok.again) = omega (arith, clean, c.all.ensures.crash.clean) in
      let it = c.in-Ok.ensures.same early ours in
      holds_back _ _ (reverse c.in-Ok-all.all.items) it.1 (c.in-Ok-all.ensures.each clean it.0);
}
