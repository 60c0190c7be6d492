-- The least of all times is reached if some time is.
use Rattle.std.proofs.Common.{◌≡◌, ℕ, ◌==◌, ◌≤◌, Bool, true, false, ◌||◌, Option, Some, None, List, [], ◌∷◌, refl, sym, ap, ◌∙◌, arith}
use Rattle.std.specs.Prelude.{nat_le}
use Rattle.std.proofs.lemmas.Bool.{eqb-true}
use Rattle.std.proofs.lemmas.Bool.Decides.{nat_tests}
use Rattle.std.specs.Option.{ForSome}
use Rattle.std.specs.List.{list_any, AllByRecursion}
use Rattle.history_model.specs.Moments.{next_moment}
use Rattle.history_model.specs.Machine.{Job}
use Rattle.history_model.proofs.BooleanLemmas.{or-second}
use Rattle.loaded_jobs.specs.NextMoments.{is_moment, IsNextUp}
use Rattle.history_model.specs.News.{is_moment_reached}

module _ (up : ℕ) where
  abbrev are_reached : List Job → Bool
  are_reached jobs = list_any (λ job. is_moment_reached up (next_moment job.past)) jobs

  none : (jobs : List Job) → AllByRecursion (λ job. next_moment job.past ≡ None) jobs → are_reached jobs ≡ false
  none [] all = refl
  none (job ∷ jobs) (is, all) = ap (λ o. is_moment_reached up o || are_reached jobs) is ∙ none jobs all

  some : (m : ℕ) (jobs : List Job) → nat_le m up ≡ true → list_any (λ job. is_moment m (next_moment job.past)) jobs ≡ true → are_reached jobs ≡ true
  some m [] less e = cc
  some m (job ∷ jobs) less e = go (next_moment job.past) (some m jobs less) e where
    at : (n : ℕ) (b : Bool) → (n == m) ≡ b → (list_any (λ j. is_moment m (next_moment j.past)) jobs ≡ true → are_reached jobs ≡ true) →
        (b || list_any (λ j. is_moment m (next_moment j.past)) jobs) ≡ true → (nat_le n up || are_reached jobs) ≡ true
    at n true is later e = ap (λ k. nat_le k up || are_reached jobs) (eqb-true n m is) ∙ ap (λ b. b || are_reached jobs) less
    at n false is later e = or-second (nat_le n up) (are_reached jobs) (later e)

    go : (o : Option ℕ) → (list_any (λ j. is_moment m (next_moment j.past)) jobs ≡ true → are_reached jobs ≡ true) →
        (is_moment m o || list_any (λ j. is_moment m (next_moment j.past)) jobs) ≡ true → (is_moment_reached up o || are_reached jobs) ≡ true
    go None later e = later e
    go (Some n) later e = at n (n == m) refl later e

  late : (m : ℕ) (jobs : List Job) → nat_le m up ≡ false → AllByRecursion (λ job. ForSome (next_moment job.past) (λ n. m ≤ n)) jobs → are_reached jobs ≡ false
  late m [] less all = refl
  late m (job ∷ jobs) less (far, all) = go (late m jobs less all) (next_moment job.past) far where
    go : are_reached jobs ≡ false → (o : Option ℕ) → ForSome o (λ n. m ≤ n) → (is_moment_reached up o || are_reached jobs) ≡ false
    go rest None far = rest
    go rest (Some n) far =
        let above : m ≤ n = far n refl in
        let apart : nat_le n up ≡ false = grind (arith, nat_tests, less, above) in
        ap (λ b. b || are_reached jobs) apart ∙ rest

  pub reached : (moment : Option ℕ) (jobs : List Job) → IsNextUp jobs moment → is_moment_reached up moment ≡ list_any (λ job. is_moment_reached up (next_moment job.past)) jobs
  reached None jobs all = sym (none jobs all)
  reached (Some m) jobs (there, all) = go (nat_le m up) refl where
    go : (b : Bool) → nat_le m up ≡ b → nat_le m up ≡ are_reached jobs
    go true is = is ∙ sym (some m jobs is there)
    go false is = is ∙ sym (late m jobs is all)
