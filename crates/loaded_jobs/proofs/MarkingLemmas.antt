-- One job after the other whose moment is reached gets its mark.
use Rattle.std.proofs.Common.{◌≡◌, ◌⊎◌, inl, inr, ℕ, ◌≤◌, ◌<◌, ◌==◌, Bool, true, false, List, Option, Some, None, refl, sym, ◌∙◌, subst, arith}
use Rattle.std.proofs.lemmas.Bool.Decides.{nat_tests}
use Rattle.place_set.specs.Places.{Places, Inserts, has_place}
use Rattle.timer_heap.specs.Timers.{Timers, moment_in, Updates}
use Rattle.history_model.specs.LaterMoments.{IsLater}
use Rattle.loaded_jobs.specs.Index.{place_in}
use Rattle.loaded_jobs.specs.Marking.{IsMarked, IsReachedAt}

abbrev pub IsSoFar : Timers → Timers → List ℕ → Places → ℕ → Type 0
IsSoFar old now places ready number =
    (moment_in now number ≡ moment_in old number)
    ⊎ ((has_place ready (place_in places number) ≡ true) × (moment_in now number ≡ None))

-- a mark stays if another is set
mark-stays : (ready later : Places) (place p : ℕ) → Inserts ready later p → has_place ready place ≡ true → has_place later place ≡ true
mark-stays ready later place p sets there = go (place == p) refl where
  go : (b : Bool) → (place == p) ≡ b → has_place later place ≡ true
  go true is = let same : place ≡ p = grind (arith, nat_tests, is) in subst (λ q. has_place later q ≡ true) (sym same) sets.own
  go false is = sets.others place (λ same. (let clash : ⊥ = grind (arith, nat_tests, is, same) in clash)) ∙ there

pub one-more : (old now later : Timers) (places : List ℕ) (ready marked : Places) (number : ℕ) → Updates now later number None → Inserts ready marked (place_in places number) →
    (k : ℕ) → IsSoFar old now places ready k → IsSoFar old later places marked k
one-more old now later places ready marked number clears sets k far = go (k == number) refl far where
  go : (b : Bool) → (k == number) ≡ b → IsSoFar old now places ready k → IsSoFar old later places marked k
  go true is far =
      let same : k ≡ number = grind (arith, nat_tests, is) in
      inr (subst (λ j. has_place marked (place_in places j) ≡ true) (sym same) sets.own, subst (λ j. moment_in later j ≡ None) (sym same) clears.changed)
  go false is (inl kept) = inl (clears.others k (λ same. (let clash : ⊥ = grind (arith, nat_tests, is, same) in clash)) ∙ kept)
  go false is (inr done) =
      inr (mark-stays ready marked (place_in places k) (place_in places number) sets done.0, clears.others k (λ same. (let clash : ⊥ = grind (arith, nat_tests, is, same) in clash)) ∙ done.1)

pub mark-more : (up : ℕ) (old now : Timers) (places : List ℕ) (ready marked : Places) (number moment : ℕ) → moment ≤ up → moment_in now number ≡ Some moment → IsSoFar old now places ready number →
    Inserts ready marked (place_in places number) → ((place : ℕ) → has_place ready place ≡ true → IsReachedAt up old places place) →
    (place : ℕ) → has_place marked place ≡ true → IsReachedAt up old places place
mark-more up old now places ready marked number moment due there far sets before place is = go (place == place_in places number) refl far where
  go : (b : Bool) → (place == place_in places number) ≡ b → IsSoFar old now places ready number → IsReachedAt up old places place
  go true at (inl kept) = let same : place ≡ place_in places number = grind (arith, nat_tests, at) in (number, moment, sym same, sym kept ∙ there, due)
  go true at (inr done) = let clash : None ≡ Some moment = sym done.1 ∙ there in absurd (cc clash)
  go false at far = before place (sym (sets.others place (λ same. (let clash : ⊥ = grind (arith, nat_tests, at, same) in clash))) ∙ is)

-- at the end no moment that is reached is left
pub all-marked : (up : ℕ) (old now : Timers) (places : List ℕ) (ready : Places) → ((job m : ℕ) → moment_in now job ≡ Some m → up < m) → (number : ℕ) → IsSoFar old now places ready number →
    IsMarked up old now places ready number
all-marked up old now places ready late number (inl kept) = inl (subst (IsLater up) kept (later (moment_in now number) refl), kept) where
  later : (o : Option ℕ) → moment_in now number ≡ o → IsLater up o
  later None is = tt
  later (Some m) is = late number m is
all-marked up old now places ready late number (inr done) = inr done

pub has-moment : (old now : Timers) (places : List ℕ) (ready : Places) (number moment : ℕ) → IsSoFar old now places ready number → moment_in now number ≡ Some moment → moment_in old number ≡ Some moment
has-moment old now places ready number moment (inl kept) there = sym kept ∙ there
has-moment old now places ready number moment (inr done) there = let clash : None ≡ Some moment = sym done.1 ∙ there in absurd (cc clash)
