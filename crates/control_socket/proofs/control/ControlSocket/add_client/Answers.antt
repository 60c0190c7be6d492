-- It comes to a key that nobody has, or to none.
use Rattle.std.proofs.Common.{refl, ap}
use Rattle.slab.specs.Slab.{get}
use Rattle.control_socket.proofs.WaitingLemmas.{all_kept, came}
use Rattle.control_socket.proofs.control.ControlSocket.add_client.Goals as goal

pub returns-in-Ok : goal.returns-in-Ok
returns-in-Ok c = record { wait = came c.new-client.ensures c.in-Ok.ensures.was_vacant c.in-Ok.ensures.updates; same = refl }

pub returns-in-Err : goal.returns-in-Err
returns-in-Err c = record { wait = all_kept (λ key. ap (λ slab. get slab key) c.in-Err.ensures.err); same = refl }
