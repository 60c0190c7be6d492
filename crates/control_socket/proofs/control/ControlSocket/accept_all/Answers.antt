-- All wait on.
use Rattle.control_socket.proofs.WaitingLemmas.{leaves, wait_still, wait_then}
use Rattle.control_socket.proofs.control.ControlSocket.accept_all.Goals as goal

pub returns-then-not-self : goal.returns-then-not-self
returns-then-not-self g c = wait_still

pub loop-init : goal.loop-init
loop-init g c = leaves c.keep_spare.ensures

pub loop-preserved : goal.loop-preserved
loop-preserved g c = wait_then c.loop.invariant c.accept_next.ensures
