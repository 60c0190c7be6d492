-- A descriptor is kept again, or one makes way.
use Rattle.control_socket.proofs.WaitingLemmas.{leaves, wait_then}
use Rattle.control_socket.proofs.control.ControlSocket.give_way.Goals as goal

pub returns-then-not-keep_spare : goal.returns-then-not-keep_spare
returns-then-not-keep_spare g c = wait_then (leaves c.keep_spare.ensures) c.disconnect_silent.ensures

pub returns-else-not-keep_spare : goal.returns-else-not-keep_spare
returns-else-not-keep_spare g c = leaves c.keep_spare.ensures
