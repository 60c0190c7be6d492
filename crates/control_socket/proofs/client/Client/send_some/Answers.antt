-- What one write sends.
use Rattle.control_socket.specs.Dialogues.{unsent, sent_on}
use Rattle.control_socket.proofs.client.Client.send_some.Goals as goal

pub returns-in-Ok : goal.returns-in-Ok
returns-in-Ok c = sent_on unsent c.sent.ensures

pub returns-in-Err : goal.returns-in-Err
returns-in-Err c = unsent

pub returns-in-Err-2 : goal.returns-in-Err-2
returns-in-Err-2 c = unsent
