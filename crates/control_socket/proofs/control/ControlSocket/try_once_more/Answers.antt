-- Nobody goes, or one makes way.
use Rattle.control_socket.proofs.WaitingLemmas.{leaves, wait_then}
use Rattle.control_socket.proofs.control.ControlSocket.try_once_more.Goals as goal

pub returns-then-taking : goal.returns-then-taking
returns-then-taking c = leaves c.end_refused.ensures

pub returns-else-free_descriptor : goal.returns-else-free_descriptor
returns-else-free_descriptor c = wait_then c.free_descriptor.ensures (leaves c.end_refused-else-free_descriptor.ensures)
