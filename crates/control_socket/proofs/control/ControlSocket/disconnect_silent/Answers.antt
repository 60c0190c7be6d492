-- It waits, and then makes way.
use Rattle.control_socket.proofs.WaitingLemmas.{wait_then}
use Rattle.control_socket.proofs.control.ControlSocket.disconnect_silent.Goals as goal

pub returns-in-Some : goal.returns-in-Some
returns-in-Some c = wait_then c.silent.ensures c.disconnect.ensures
