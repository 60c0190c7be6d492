-- Nobody comes.
use Rattle.control_socket.proofs.WaitingLemmas.{leaves, wait_still}
use Rattle.control_socket.proofs.control.ControlSocket.go_on.Goals as goal

pub returns-in-Interrupted : goal.returns-in-Interrupted
returns-in-Interrupted c = wait_still

pub returns-in-WouldBlock : goal.returns-in-WouldBlock
returns-in-WouldBlock c = leaves c.end_well.ensures
