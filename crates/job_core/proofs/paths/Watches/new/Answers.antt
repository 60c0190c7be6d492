-- The goals of `Watches::new` that the prover leaves open.
use Rattle.job_core.proofs.paths.Watches.new.Goals as goal

pub returns : goal.returns
returns c = λ i. record { paths = c.in_ok-watches_of.ensures.paths i; seen = c.in_ok-watches_of.ensures.unseen i }
