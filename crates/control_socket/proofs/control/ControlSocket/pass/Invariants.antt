-- The clients that went on so far, and the lines that were answered.
use Rattle.std.proofs.Common.{◌≡◌}
use Rattle.control_socket.specs.Clients.{AllGoOn}
use Rattle.control_socket.specs.Serving.{Serves}
use Rattle.control_socket.proofs.control.ControlSocket.pass.Given as goal

abbrev pub invariant-loop-step : goal.invariant-loop-step
invariant-loop-step g l = record {
  clients : AllGoOn g.A.Answers.Answered l.initial.self.clients l.initial.turn.answers.now l.self.clients l.turn.answers.now;
  serves : Serves g.A.Answers.Answered l.initial.turn.answers.now l.turn.answers.now;
  name : l.turn.answers.ghost_name ≡ l.initial.turn.answers.ghost_name;
}
