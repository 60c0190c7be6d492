-- What a further write sends.
use Rattle.control_socket.specs.Dialogues.{unsent}
use Rattle.control_socket.proofs.DialoguesLemmas.{sends_append}
use Rattle.control_socket.proofs.client.Client.send.Goals as goal

pub loop-init : goal.loop-init
loop-init c = unsent

pub loop-preserved : goal.loop-preserved
loop-preserved c = sends_append c.loop.invariant c.in_ok-send_some.ensures

pub returns-then-not-branch : goal.returns-then-not-branch
returns-then-not-branch c = sends_append c.loop.invariant c.in_ok-send_some.ensures
