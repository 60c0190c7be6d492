-- A further job.
use Rattle.std.proofs.Common.{rules, refl}
use Rattle.live_loop.specs.Rounds.{nobody, asked}
use Rattle.live_loop.proofs.RoundsLemmas.{desk_same, gathers_append, gathers_same}
use Rattle.live_loop.proofs.job_sockets.JobSockets.accept.Goals as goal

pub returns-then-not-self-clause-gathers : goal.returns-then-not-self-clause-gathers
returns-then-not-self-clause-gathers g c =
    gathers_same (asked (asked nobody c.room-room.ensures) c.register-is_registered.ensures) (desk_same refl c.set_room.ensures.coming)

pub loop-init : goal.loop-init
loop-init g c = record {
  gathers = gathers_same
      (gathers_same (asked (asked nobody c.room-room.ensures) c.register-is_registered.ensures) (desk_same refl c.set_room.ensures.coming))
      c.begin_pass.ensures.desk;
  conn = search rules;
}

pub returns-in_default-clause-gathers : goal.returns-in_default-clause-gathers
returns-in_default-clause-gathers g c = asked c.loop.invariant.gathers c.listener_from.ensures

pub returns-then-not-has_time-clause-gathers : goal.returns-then-not-has_time-clause-gathers
returns-then-not-has_time-clause-gathers g c = gathers_append (asked c.loop.invariant.gathers c.listener_from.ensures) c.accept_for.ensures.gathers

pub loop-preserved : goal.loop-preserved
loop-preserved g c = record {
  gathers = gathers_append (asked c.loop.invariant.gathers c.listener_from.ensures) c.accept_for.ensures.gathers;
  conn = search rules;
}
