-- The jobs of a list of binds, from one place on.
use Rattle.std.proofs.Common.{◌≡◌, ◌≤◌, ◌<◌, ◌+◌, ℕ, suc, List, length, get_or, drop, cond, nat_eq, ap, subst, arith, drop-cons}
use Rattle.std.specs.List.{list_any}
use Rattle.std.proofs.lemmas.List.{drop_all}
use Rattle.job_clients.specs.Places.{how_many_jobs}

pub next_job : (xs : List ℕ) (i : ℕ) → i < length xs →
    how_many_jobs (drop i xs) ≡ cond (list_any (λ one. nat_eq one (get_or xs i 0)) (drop (i + 1) xs))
    (how_many_jobs (drop (i + 1) xs)) (how_many_jobs (drop (i + 1) xs) + 1)
unfolding how_many_jobs
next_job xs i inside =
    let e : suc i ≡ i + 1 = omega arith in
    let f : (n : ℕ) → suc n ≡ n + 1 = λ n. omega arith in
    subst (λ j. how_many_jobs (drop i xs) ≡ cond (list_any (λ one. nat_eq one (get_or xs i 0)) (drop j xs)) (how_many_jobs (drop j xs)) (how_many_jobs (drop j xs) + 1)) e
    (subst (λ m. how_many_jobs (drop i xs) ≡ cond (list_any (λ one. nat_eq one (get_or xs i 0)) (drop (suc i) xs)) (how_many_jobs (drop (suc i) xs)) m) (f (how_many_jobs (drop (suc i) xs)))
    (ap how_many_jobs (drop-cons xs i 0 inside)))

pub no_job : (xs : List ℕ) (i : ℕ) → length xs ≤ i → how_many_jobs (drop i xs) ≡ 0
unfolding how_many_jobs
no_job xs i end = ap how_many_jobs (drop_all i xs end)
