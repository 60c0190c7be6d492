-- One may make way for a place.
use Rattle.control_socket.proofs.WaitingLemmas.{wait_still, wait_then}
use Rattle.control_socket.proofs.control.ControlSocket.accept_next.Goals as goal

pub returns-then-taking : goal.returns-then-taking
returns-then-taking g c = wait_still

pub returns-in-Ok : goal.returns-in-Ok
returns-in-Ok g c = wait_then c.place-place.ensures c.take.ensures

pub returns-in-Err : goal.returns-in-Err
returns-in-Err g c = wait_then c.place-place.ensures c.go_on.ensures
