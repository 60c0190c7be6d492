-- What was sent so far.
use Rattle.control_socket.specs.Dialogues.{SendsOn}
use Rattle.control_socket.proofs.client.Client.send.Given as goal

abbrev pub invariant-loop : goal.invariant-loop
invariant-loop l = SendsOn l.fn.self.dialogue l.self.dialogue
