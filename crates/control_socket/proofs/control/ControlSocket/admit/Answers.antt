-- It has no place.
use Rattle.control_socket.proofs.WaitingLemmas.{wait_still}
use Rattle.control_socket.proofs.control.ControlSocket.admit.Goals as goal

pub returns-in-Err : goal.returns-in-Err
returns-in-Err c = wait_still
