-- The spare one is nobody's.
use Rattle.control_socket.proofs.WaitingLemmas.{wait_still}
use Rattle.control_socket.proofs.control.ControlSocket.free_descriptor.Goals as goal

pub returns-then-is_some : goal.returns-then-is_some
returns-then-is_some c = wait_still
