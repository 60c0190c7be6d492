-- By the steps of the dialogue.
use Rattle.control_socket.proofs.ExchangesLemmas.{sent-all, lines-all}
use Rattle.control_socket.proofs.laws.a_client_is_sent_the_replies_to_its_lines.Goals as goal

pub returns-clause-sent : goal.returns-clause-sent
returns-clause-sent g c = λ first new from after all. sent-all all

pub returns-clause-lines : goal.returns-clause-lines
returns-clause-lines g c = λ first new from after all. lines-all all
