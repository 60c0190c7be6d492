-- There is a place.
use Rattle.control_socket.proofs.WaitingLemmas.{wait_still}
use Rattle.control_socket.proofs.control.ControlSocket.place_now.Goals as goal

pub returns-then-len-self : goal.returns-then-len-self
returns-then-len-self c = wait_still
