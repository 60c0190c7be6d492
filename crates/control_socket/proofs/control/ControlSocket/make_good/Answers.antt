-- No descriptor was given up.
use Rattle.control_socket.proofs.WaitingLemmas.{wait_still}
use Rattle.control_socket.proofs.control.ControlSocket.make_good.Goals as goal

pub returns-in_default : goal.returns-in_default
returns-in_default g c = wait_still
