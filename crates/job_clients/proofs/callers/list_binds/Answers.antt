-- One more is listed.
use Rattle.std.specs.Prelude.{is_ok, vec_capacity, vec_len}
use Rattle.job_clients.specs.Crowds.{bind_of, binds_in}
use Rattle.job_clients.proofs.CrowdsLemmas.{has_room, one_more, room_left}
use Rattle.job_clients.proofs.callers.list_binds.Goals as goal

pub loop-caller-preserved : goal.loop-caller-preserved
loop-caller-preserved g c =
    let left = c.loop-caller.caller-iterator in
    let rest = c.next.new.self in
    let waited = vec_len c.args.waited.now in
    let before = c.loop-caller.binds in
    let after = c.push-listed.new.self in (
      tt,
      tt,
      (λ fits. room_left (vec_len before) (vec_len after) (vec_capacity before) (vec_capacity after) waited left rest _ c.in-Some.ensures.steps c.push-listed.ensures.upper_bound c.push-listed.ensures.capacity (c.loop-caller.invariant.2 fits)),
      (λ fits.
          one_more bind_of (is_ok c.push-listed.result) before.items after.items (binds_in c.args.held.now) left rest _ c.in-Some.ensures.steps
          (c.push-listed.ensures.succeeds (has_room (vec_len before) (vec_capacity before) waited left rest _ c.in-Some.ensures.steps (c.loop-caller.invariant.2 fits)))
          c.push-listed.ensures.items (c.loop-caller.invariant.3 fits)),
    )
