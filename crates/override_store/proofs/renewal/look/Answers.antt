-- The answers to the goals of `renewal::look`.
use Rattle.std.proofs.Common.{sym, subst, ◌∙◌}
use Rattle.sqlite.specs.Held.{state}
use Rattle.override_store.specs.KnownSettings.{HoldsKnown}
use Rattle.override_store.proofs.renewal.look.Goals as goal

pub returns-then-are_same-clause-holds : goal.returns-then-are_same-clause-holds
returns-then-are_same-clause-holds g c is none =
    subst (λ known. HoldsKnown (state g.S.Store c.in-Ok.both.0) known) (sym c.as_slice.ensures.value ∙ c.are_same.ensures c.if-are_same.true) (c.in-Ok.ensures.holds is)

pub returns-then-are_same-clause-ours : goal.returns-then-are_same-clause-ours
returns-then-are_same-clause-ours g c is clean up = ((c.in-Ok.ensures.holds is).0 clean up).0

pub returns-else-are_same-clause-ours : goal.returns-else-are_same-clause-ours
returns-else-are_same-clause-ours g c is clean up = ((c.in-Ok.ensures.holds is).0 clean up).0
