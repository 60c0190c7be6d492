-- Nobody is served.
use Rattle.control_socket.specs.Serving.{nobody}
use Rattle.live_loop.proofs.rounds.serve_again.Goals as goal

pub returns-then-had_time-clause-serves : goal.returns-then-had_time-clause-serves
returns-then-had_time-clause-serves g c = nobody
