-- A further client.
use Rattle.std.proofs.Common.{refl, ◌∙◌}
use Rattle.control_socket.specs.Clients.{all_stand, goes_on}
use Rattle.control_socket.specs.Serving.{nobody}
use Rattle.control_socket.proofs.ServingLemmas.{serves_append}
use Rattle.control_socket.proofs.control.ControlSocket.pass.Goals as goal

pub loop-step-init : goal.loop-step-init
loop-step-init g c = record { clients = all_stand; serves = nobody; name = refl }

pub loop-step-preserved : goal.loop-step-preserved
loop-step-preserved g c = record {
  clients = goes_on c.loop-step.invariant.clients c.move_on-may_go_on.ensures.moved;
  serves = serves_append c.loop-step.invariant.serves c.move_on-may_go_on.ensures.serves;
  name = c.move_on-may_go_on.ensures.name ∙ c.loop-step.invariant.name;
}
