-- One may make way for a descriptor, and one for a place.
use Rattle.control_socket.proofs.WaitingLemmas.{wait_then}
use Rattle.control_socket.proofs.control.ControlSocket.take.Goals as goal

pub returns : goal.returns
returns g c = wait_then c.make_good.ensures c.welcome-is_welcome.ensures
