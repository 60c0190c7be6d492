-- One more is listed.
use Rattle.std.proofs.Common.{◌≤◌, ◌+◌, length, ap, ◌∙◌, ◌++◌, [], ◌∷◌, arith}
use Rattle.std.specs.Prelude.{is_ok, vec_capacity, vec_len, if◌then◌else◌}
use Rattle.slab.specs.Slab.{slab_len}
use Rattle.job_clients.specs.Crowds.{received_in, received_of}
use Rattle.job_clients.proofs.CrowdsLemmas.{has_room, one_more, room_left}
use Rattle.job_clients.proofs.callers.list_received.Goals as goal

pub loop-key-preserved : goal.loop-key-preserved
loop-key-preserved g c =
    let left = c.loop-key.key-iterator in
    let rest = c.next.new.self in
    let before = c.loop-key.received in
    let after = c.push-listed.new.self in
    let bind = c.args.bind in
    let up = c.args.up in
    let wide : slab_len c.args.held.now ≤ vec_capacity c.args.received.now → vec_len before + length left + 0 ≤ vec_capacity before = λ fits. (let short = c.loop-key.invariant.2 fits in grind (arith, short)) in (
      tt,
      tt,
      (λ fits. (let long = room_left (vec_len before) (vec_len after) (vec_capacity before) (vec_capacity after) 0 left rest _ c.in-Some.ensures.steps c.push-listed.ensures.upper_bound c.push-listed.ensures.capacity (wide fits) in grind (arith, long))),
      (λ fits.
          one_more (received_of bind up) (is_ok c.push-listed.result) before.items after.items (received_in bind up c.args.held.now) left rest _ c.in-Some.ensures.steps
          (c.push-listed.ensures.succeeds (has_room (vec_len before) (vec_capacity before) 0 left rest _ c.in-Some.ensures.steps (wide fits)))
          (c.push-listed.ensures.items ∙ ap (λ came. if is_ok c.push-listed.result then before.items ++ (record { key = c.in-Some.key; bind = c.in-Some.caller.now.origin.bind; came = came } ∷ []) else before.items) c.came_before.ensures) (c.loop-key.invariant.3 fits)),
    )
