-- All waited so far.
use Rattle.control_socket.specs.Clients.{LetsWait}
use Rattle.control_socket.proofs.control.ControlSocket.accept_all.Given as goal

abbrev pub invariant-loop : goal.invariant-loop
invariant-loop g l = LetsWait l.fn.self l.self
