-- No slot is before the first.
use Rattle.std.proofs.Common.{arith}
use Rattle.loaded_jobs.proofs.index.place_all.Goals as goal

pub place_from-requires-clause-before : goal.place_from-requires-clause-before
place_from-requires-clause-before c = λ k e at low. (let clash : ⊥ = omega (arith, low) in absurd clash)
