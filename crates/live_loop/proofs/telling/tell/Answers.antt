-- A further notice.
use Rattle.std.proofs.Common.{refl, ◌∙◌}
use Rattle.live_loop.specs.Rounds.{nothing}
use Rattle.live_loop.proofs.RoundsLemmas.{asks_append}
use Rattle.live_loop.proofs.telling.tell.Goals as goal

pub loop-init : goal.loop-init
loop-init g c = record {
  asks = nothing;
  kept = record { child = refl; observations = refl; desk = refl };
  ended = refl;
}

pub returns-in_default-clause-asks : goal.returns-in_default-clause-asks
returns-in_default-clause-asks g c = asks_append c.loop.invariant.asks c.next_notice.ensures.asks

pub returns-then-not-tell-clause-asks : goal.returns-then-not-tell-clause-asks
returns-then-not-tell-clause-asks g c = asks_append c.loop.invariant.asks c.next_notice.ensures.asks

pub loop-preserved : goal.loop-preserved
loop-preserved g c = record {
  asks = asks_append c.loop.invariant.asks c.next_notice.ensures.asks;
  kept = record {
    child = c.next_notice.ensures.kept.child ∙ c.loop.invariant.kept.child;
    observations = c.next_notice.ensures.kept.observations ∙ c.loop.invariant.kept.observations;
    desk = c.next_notice.ensures.kept.desk ∙ c.loop.invariant.kept.desk;
  };
  ended = c.next_notice.ensures.ended ∙ c.loop.invariant.ended;
}

pub returns-then-not-go_on-clause-asks : goal.returns-then-not-go_on-clause-asks
returns-then-not-go_on-clause-asks g c = nothing
