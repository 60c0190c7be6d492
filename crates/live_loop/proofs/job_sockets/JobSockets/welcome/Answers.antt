-- One goes, and one comes.
use Rattle.std.proofs.Common.{rules, inl, inr, refl}
use Rattle.job_clients.specs.Callers.{coming_in}
use Rattle.live_loop.proofs.RoundsLemmas.{asks_append, coming_same}
use Rattle.live_loop.proofs.job_sockets.JobSockets.welcome.Goals as goal

pub returns-in-Free-clause-welcomes : goal.returns-in-Free-clause-welcomes
returns-in-Free-clause-welcomes g c = record { mid = _; gone = inl refl; came = c.admit.ensures.comes }

pub returns-in-Of-clause-asks : goal.returns-in-Of-clause-asks
returns-in-Of-clause-asks g c = asks_append c.disconnect.ensures.asks (search rules)

pub returns-in-Of-clause-welcomes : goal.returns-in-Of-clause-welcomes
returns-in-Of-clause-welcomes g c = record { mid = _; gone = c.disconnect.ensures.gone; came = c.admit-in-Of.ensures.comes }

pub returns-in-Nowhere : goal.returns-in-Nowhere
returns-in-Nowhere g c = record {
  asks = c.tell.ensures.asks;
  conn = c.tell.ensures.conn;
  welcomes = record { mid = coming_in c.args.self.now.callers; gone = inl refl; came = inr (coming_same c.tell.ensures.callers) };
}
