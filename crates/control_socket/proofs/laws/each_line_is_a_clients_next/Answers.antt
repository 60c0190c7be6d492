-- By the calls of `serve`, and by the life of each client.
use Rattle.control_socket.proofs.LivesLemmas.{all-alive, all-answered, answered-of, sent-to}
use Rattle.control_socket.proofs.laws.each_line_is_a_clients_next.Goals as goal

pub returns-clause-lines : goal.returns-clause-lines
returns-clause-lines g c = λ first mid new before after vacant rounds all. all-answered g.A.Answers.Answered vacant rounds all

pub returns-clause-clients : goal.returns-clause-clients
returns-clause-clients g c = λ first new vacant rounds. all-alive g.A.Answers.Answered vacant rounds

pub returns-clause-sent : goal.returns-clause-sent
returns-clause-sent g c = λ dialogue life. sent-to g.A.Answers.Answered life

pub returns-clause-brought : goal.returns-clause-brought
returns-clause-brought g c = λ dialogue life. answered-of g.A.Answers.Answered life
