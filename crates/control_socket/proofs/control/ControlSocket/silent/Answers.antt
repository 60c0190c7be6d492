-- One more waits.
use Rattle.control_socket.proofs.WaitingLemmas.{wait_at, wait_still, wait_then}
use Rattle.control_socket.proofs.control.ControlSocket.silent.Goals as goal

pub loop-init : goal.loop-init
loop-init c = wait_still

pub loop-preserved : goal.loop-preserved
loop-preserved c = wait_then c.loop.invariant (wait_at c.receive.ensures.waits c.receive.ensures.up)

pub returns-then-not-receive : goal.returns-then-not-receive
returns-then-not-receive c = wait_then c.loop.invariant (wait_at c.receive.ensures.waits c.receive.ensures.up)
