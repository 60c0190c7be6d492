-- The steps so far.
use Rattle.std.proofs.Common.{◌≡◌}
use Rattle.control_socket.specs.Serving.{Serves}
use Rattle.control_socket.specs.Dialogues.{Talks}
use Rattle.control_socket.proofs.dialogue.Dialogue.answer.Given as goal

abbrev pub invariant-loop : goal.invariant-loop
invariant-loop g l = record {
  talks : Talks g.A.Answers.Answered l.initial.self l.initial.turn.answers.now l.self l.turn.answers.now;
  serves : Serves g.A.Answers.Answered l.initial.turn.answers.now l.turn.answers.now;
  name : l.turn.answers.ghost_name ≡ l.initial.turn.answers.ghost_name;
}
