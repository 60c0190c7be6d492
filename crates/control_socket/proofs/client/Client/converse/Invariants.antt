-- What was said so far, and the lines that were answered.
use Rattle.std.proofs.Common.{◌≡◌}
use Rattle.control_socket.specs.Dialogues.{Converses}
use Rattle.control_socket.specs.Serving.{Serves}
use Rattle.control_socket.proofs.client.Client.converse.Given as goal

abbrev pub invariant-loop : goal.invariant-loop
invariant-loop g l = record {
  converses : Converses g.A.Answers.Answered l.fn.self.dialogue l.fn.turn.answers.now l.self.dialogue l.turn.answers.now;
  serves : Serves g.A.Answers.Answered l.fn.turn.answers.now l.turn.answers.now;
  name : l.turn.answers.ghost_name ≡ l.fn.turn.answers.ghost_name;
}
