-- The goals of `Queues::new` that the prover leaves open.
use Rattle.job_core.proofs.paths.Queues.new.Goals as goal

pub returns : goal.returns
returns c = λ i. record { paths = c.in_ok-queues_of.ensures.paths i; seen = c.in_ok-queues_of.ensures.unseen i }
