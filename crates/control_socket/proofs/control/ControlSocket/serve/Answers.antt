-- Two passes.
use Rattle.std.proofs.Common.{rules}
use Rattle.control_socket.specs.Clients.{AllGoOn}
use Rattle.control_socket.specs.Serving.{Serves}
use Rattle.control_socket.proofs.GoingOnLemmas.{all_go_on_append}
use Rattle.control_socket.proofs.ServingLemmas.{serves_append}
use Rattle.control_socket.proofs.control.ControlSocket.serve.Goals as goal

pub returns-in-Some-true : goal.returns-in-Some-true
returns-in-Some-true g c =
    let both : Serves g.A.Answers.Answered c.new-turn.result.answers.now c.pass.new.turn.answers.now = serves_append c.pass-is_busy.ensures.serves c.pass.ensures.serves in
    let all : AllGoOn g.A.Answers.Answered c.args.self.now.clients c.new-turn.result.answers.now c.pass.new.self.clients c.pass.new.turn.answers.now =
    all_go_on_append c.pass-is_busy.ensures.clients c.pass.ensures.clients in
    search rules
