-- What a further question adds to those before.
use Rattle.std.proofs.Common.{refl, ◌∙◌}
use Rattle.live_loop.specs.Looks.{no_question}
use Rattle.live_loop.proofs.LooksLemmas.{questions_append}
use Rattle.live_loop.proofs.paths.Observations.ask_ahead.Goals as goal

pub loop-init : goal.loop-init
loop-init g c = record {
  asks = no_question;
  still = record {
    seen = refl;
    path = refl;
    walking = refl;
    later = refl;
  };
}

pub returns-then-not-ask_next-clause-asks : goal.returns-then-not-ask_next-clause-asks
returns-then-not-ask_next-clause-asks g c = questions_append c.loop.invariant.asks c.ask_next.ensures.asks

pub loop-preserved : goal.loop-preserved
loop-preserved g c = record {
  asks = questions_append c.loop.invariant.asks c.ask_next.ensures.asks;
  still = record {
    seen = c.ask_next.ensures.still.seen ∙ c.loop.invariant.still.seen;
    path = c.ask_next.ensures.still.path ∙ c.loop.invariant.still.path;
    walking = c.ask_next.ensures.still.walking ∙ c.loop.invariant.still.walking;
    later = c.ask_next.ensures.still.later ∙ c.loop.invariant.still.later;
  };
}
