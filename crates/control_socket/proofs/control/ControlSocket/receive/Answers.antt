-- The client of the key waits.
use Rattle.std.proofs.Common.{rules, ◌≡◌, Some}
use Rattle.slab.specs.Slab.{get}
use Rattle.control_socket.proofs.WaitingLemmas.{at_with}
use Rattle.control_socket.proofs.control.ControlSocket.receive.Goals as goal

pub returns-in-Some-clause-waits : goal.returns-in-Some-clause-waits
returns-in-Some-clause-waits c =
    let there : get c.args.self.now.clients c.args.key ≡ Some c.in-Some.client.now = search rules in
    at_with there c.receive.ensures
