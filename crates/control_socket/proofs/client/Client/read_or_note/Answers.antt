-- A piece came, or the read failed.
use Rattle.control_socket.proofs.WaitingLemmas.{waits_read}
use Rattle.control_socket.proofs.client.Client.read_or_note.Goals as goal

pub returns-in-Ok : goal.returns-in-Ok
returns-in-Ok c = waits_read c.in-Ok.ensures.taken c.in-Ok.ensures.failed c.in-Ok.ensures.reads
