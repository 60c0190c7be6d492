-- The job at one place is visited, and each other one is passed by.
use Rattle.std.proofs.Common.{◌≡◌, ◌≢◌, ◌⊎◌, inl, inr, ℕ, ◌+◌, ◌==◌, ◌<◌, Bool, true, false, not, cond, List, map, length, get_or, None, is_some, refl, ap, ◌∙◌, arith}
use Rattle.std.specs.Prelude.{slice_set}
use Rattle.std.specs.List.{list_all}
use Rattle.std.proofs.lemmas.Bool.Decides.{nat_tests}
use Rattle.timer_heap.specs.Timers.{Timers, Updates}
use Rattle.history_model.specs.declared.Order.{Order}
use Rattle.history_model.specs.declared.Reading.{Reading}
use Rattle.history_model.proofs.LawfulLemmas.{eqb-self}
use Rattle.loaded_jobs.specs.Tables.{Name, definition_of_number, is_known}
use Rattle.loaded_jobs.specs.Counts.{next_count}
use Rattle.loaded_jobs.specs.JobSlots.{name}
use Rattle.loaded_jobs.specs.Index.{moment_for}
use Rattle.loaded_jobs.specs.Leaving.{StayBut}
use Rattle.loaded_jobs.specs.Visiting.{is_other, IsVisit}
use Rattle.loaded_jobs.specs.Visits.{CanVisit, VisitsTouched}
use Rattle.loaded_jobs.specs.declared.gone_jobs.Gone.{Gone}
use Rattle.loaded_jobs.specs.declared.job_slot.JobSlot.{JobSlot}
use Rattle.loaded_jobs.specs.AffectedJobs.{nothing_for}
use Rattle.loaded_jobs.proofs.ListLemmas.{set-map}
use Rattle.loaded_jobs.proofs.KnownNumbersLemmas.{named-at, all-named}
use Rattle.loaded_jobs.proofs.MomentsLemmas.{retimed, alone-after}
use Rattle.loaded_jobs.proofs.VisitingLemmas.{visit-alone}

pub other-than : (place k : ℕ) → place ≢ k → is_other place k ≡ true
other-than place k differ = go (place == k) refl where
  go : (b : Bool) → (place == k) ≡ b → not (place == k) ≡ true
  go true is = absurd (differ (grind (arith, nat_tests, is)))
  go false is = ap not is

-- nothing is before the first place
spared-first : {P : Type 0} (k : ℕ) (b : Bool) → (k < 0) ⊎ (b ≡ true) → (b ≡ true → P) → P
spared-first k b (inl low) then_so = let clash : ⊥ = omega (arith, low) in absurd clash
spared-first k b (inr spares) then_so = then_so spares

-- a place is the one, or another
reached : (place k : ℕ) (b : Bool) → (place == k) ≡ b → (k < place + 1) ⊎ (is_other place k ≡ true)
reached place k true is = let same : place ≡ k = grind (arith, nat_tests, is) in inl (omega (arith, same))
reached place k false is = inr (ap not is)

module _ (place : ℕ) (now : Reading) (es : List JobSlot) (e new : JobSlot) (timers : Timers) (can : CanVisit nothing_for now now (is_other place) es timers) (within : place < length es) (is : e ≡ get_or es place e) (named : name new ≡ name e) where
  -- the slot's number is that of a job
  pub known-number : is_some (definition_of_number (map name es) new.number) ≡ true
  known-number = ap (λ n. is_some (definition_of_number (map name es) n.number)) named ∙ named-at (map name es) es es place e within refl is (all-named es)

  pub visited-at : (earlier later : List Order) (after : Timers) (count : ℕ) (gone : Gone) → IsVisit now now None e new earlier later → new.core.decided ≡ cond new.has_gone e.core.decided (next_count e.core.decided) →
      ((names : List Name) → is_some (definition_of_number names e.number) ≡ true → list_all (is_known names) earlier ≡ true → list_all (is_known names) later ≡ true) →
      Updates timers after new.number (moment_for new now.up) → count ≡ cond new.has_gone 0 1 → StayBut gone (slice_set es place new) →
      VisitsTouched nothing_for now now (is_other place) es (slice_set es place new) earlier later after count gone
  visited-at earlier later after count gone visit decided known updates counts stay =
      let own : is_other place place ≡ false = ap not (eqb-self place) in
      let through = visit-alone now now nothing_for (is_other place) can.brings es earlier place e new later count can.stay can.spared within is own (other-than place) visit decided counts in
      record {
        kept = through.kept;
        orders = through.orders;
        visited = through.counted;
        stay = stay;
        visits = through.visits;
        known = λ names all before. known names (named-at names es es place e within refl is all) before;
        names = set-map name es place e new within is named;
        timed = λ k x at. retimed es place e new timers after now.up 0 (is_other place) can.once within is named updates
            (λ j low below. other-than place j (λ same. (let clash : ⊥ = omega (arith, below, same) in clash)))
            (λ j y there met. spared-first j (is_other place j) met (λ spares. can.timed j y there spares)) k x at (reached place k (place == k) refl);
        alone = alone-after timers after (map name es) new.number (moment_for new now.up) updates known-number can.alone;
      }
