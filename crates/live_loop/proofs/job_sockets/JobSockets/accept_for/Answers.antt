-- A further client.
use Rattle.std.proofs.Common.{refl, ◌∙◌}
use Rattle.live_loop.specs.Rounds.{nobody, asked, taken}
use Rattle.live_loop.proofs.RoundsLemmas.{desk_same, gathers_same}
use Rattle.live_loop.proofs.job_sockets.JobSockets.accept_for.Goals as goal

pub loop-count-init : goal.loop-count-init
loop-count-init g c = record { gathers = nobody; conn = refl }

pub returns-in_default-clause-gathers : goal.returns-in_default-clause-gathers
returns-in_default-clause-gathers g c =
    gathers_same (asked c.loop-count.invariant.gathers c.in_default.ensures.nobody) (desk_same refl c.place-place.ensures.coming)

pub loop-count-preserved : goal.loop-count-preserved
loop-count-preserved g c = record {
  gathers = gathers_same
      (taken (gathers_same c.loop-count.invariant.gathers (desk_same refl c.place-place.ensures.coming)) c.in-Some.ensures.taken c.welcome.ensures.welcomes c.welcome.ensures.asks)
      (desk_same c.welcome.ensures.conn refl);
  conn = c.welcome.ensures.conn ∙ c.loop-count.invariant.conn;
}
