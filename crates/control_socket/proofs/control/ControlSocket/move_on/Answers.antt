-- Nobody is there, or the client goes on.
use Rattle.std.proofs.Common.{rules, refl, ◌≡◌, Some}
use Rattle.slab.specs.Slab.{get}
use Rattle.control_socket.specs.Serving.{nobody}
use Rattle.control_socket.proofs.GoingOnLemmas.{moved}
use Rattle.control_socket.proofs.control.ControlSocket.move_on.Goals as goal

pub returns-clause-moved : goal.returns-clause-moved
returns-clause-moved g c =
    let there : get c.args.self.now.clients c.args.key ≡ Some c.in-Some.client.now = search rules in
    moved _ c.advance-progress.result there refl c.advance-progress.ensures.converses c.advance-progress.ensures.ends c.settle.ensures

pub returns-in_default-clause-serves : goal.returns-in_default-clause-serves
returns-in_default-clause-serves g c = nobody
