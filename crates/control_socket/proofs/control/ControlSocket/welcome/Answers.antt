-- One makes way, or the new one is turned away.
use Rattle.control_socket.proofs.WaitingLemmas.{leaves, wait_then}
use Rattle.control_socket.proofs.control.ControlSocket.welcome.Goals as goal

pub returns-in-Of : goal.returns-in-Of
returns-in-Of c = wait_then c.disconnect.ensures c.admit-in-Of.ensures

pub returns-in-Unknown : goal.returns-in-Unknown
returns-in-Unknown c = leaves c.turn_away.ensures
