-- Which moments a lawful order leaves.
use Rattle.std.proofs.Common.{◌≡◌, ℕ, ◌+◌, ◌≤◌, true, false, Option, Some, None, List, [], ◌∷◌, arith}
use Rattle.std.specs.List.{list_any, AllByRecursion}
use Rattle.std.specs.Prelude.{IsSomeAnd}
use Rattle.std.proofs.lemmas.Bool.Decides.{nat_tests}
use Rattle.history_model.specs.Due.{is_within, is_over}
use Rattle.history_model.proofs.BooleanLemmas.{or-false}

-- if none is too near, each is far enough
pub none-within : (wait up : ℕ) (us : List ℕ) → list_any (is_within wait up) us ≡ false → AllByRecursion (λ u. u + wait ≤ up) us
none-within wait up [] none = tt
none-within wait up (u ∷ us) none =
    let both = or-false (is_within wait up u) (list_any (is_within wait up) us) none in
    let far : u + wait ≤ up = grind (arith, nat_tests, both.0) in
    (far, none-within wait up us both.1)

pub over-some : (wait up : ℕ) (o : Option ℕ) → is_over wait up o ≡ true → IsSomeAnd o (λ u. u + wait ≤ up)
over-some wait up None e = cc
over-some wait up (Some u) e = grind (arith, nat_tests, e)
