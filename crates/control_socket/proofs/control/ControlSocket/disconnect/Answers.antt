-- It waits, and may go.
use Rattle.std.proofs.Common.{refl}
use Rattle.control_socket.proofs.WaitingLemmas.{all_at, all_then, gone, wait_at}
use Rattle.control_socket.proofs.control.ControlSocket.disconnect.Goals as goal

pub returns-then-makes_way : goal.returns-then-makes_way
returns-then-makes_way c = record {
  wait = all_then refl (all_at c.makes_way.ensures.waits) (gone (c.if-makes_way.ensures.may refl) c.try_remove.ensures.updates);
  same = c.makes_way.ensures.up;
}

pub returns-else-makes_way : goal.returns-else-makes_way
returns-else-makes_way c = wait_at c.makes_way.ensures.waits c.makes_way.ensures.up
