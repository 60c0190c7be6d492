-- The new slot has its place, and those after it have the next ones.
use Rattle.std.proofs.Common.{◌≡◌, ◌≢◌, ◌<◌, ◌==◌, ℕ, Bool, true, false, List, Some, length, map, refl, sym, ap, ◌∙◌, subst, arith}
use Rattle.std.specs.Prelude.{slice_get, slice_set}
use Rattle.std.proofs.lemmas.Bool.Decides.{nat_tests}
use Rattle.std.proofs.lemmas.List.{length-set}
use Rattle.std.proofs.lemmas.Option.{slice_get_within}
use Rattle.loaded_jobs.specs.Tables.{IsOnce}
use Rattle.loaded_jobs.specs.JobSlots.{name}
use Rattle.loaded_jobs.specs.Index.{place_in}
use Rattle.loaded_jobs.specs.declared.job_slot.JobSlot.{JobSlot}
use Rattle.loaded_jobs.proofs.KnownNumbersLemmas.{named-at, all-named}
use Rattle.loaded_jobs.proofs.IndexLemmas.{place-same, place-other, is-named-at, raised-around}
use Rattle.loaded_jobs.proofs.MomentsLemmas.{get-at, apart}
use Rattle.loaded_jobs.proofs.index.make_way.Goals as goal

-- the new slot has its place, and another the one that it was given
stands : (es : List JobSlot) (moved : List ℕ) (once : IsOnce (map name es)) (p k : ℕ) (e new : JobSlot) → slice_get es k ≡ Some e → slice_get es p ≡ Some new →
    place_in (slice_set moved new.number p) new.number ≡ p → (k ≢ p → place_in moved e.number ≡ k) → place_in (slice_set moved new.number p) e.number ≡ k
stands es moved once p k e new at here own given = go (k == p) refl where
  go : (b : Bool) → (k == p) ≡ b → place_in (slice_set moved new.number p) e.number ≡ k
  go true is =
      let same : k ≡ p = grind (arith, nat_tests, is) in
      let found : Some new ≡ Some e = sym here ∙ ap (slice_get es) (sym same) ∙ at in
      let job_slot : new ≡ e = cc in
      ap (λ x. place_in (slice_set moved new.number p) x.number) (sym job_slot) ∙ own ∙ sym same
  go false other =
      let differ : k ≢ p = (λ same. (let clash : ⊥ = grind (arith, nat_tests, other, same) in clash)) in
      place-other moved new.number p e.number (apart es k p e new once at here differ) ∙ given differ

-- the number of the new slot has a place
pub bounds-places-number : goal.bounds-places-number
bounds-places-number c =
    let es = c.args.job_slots.now in
    let e : JobSlot = c.index-job_slots-place.result in
    let named = named-at (map name es) es es c.args.place e c.requires.inside refl c.index-job_slots-place.is (all-named es) in
    rw c.number.ensures (subst (λ n. e.number < n) (sym c.raise_from.ensures.length) (c.requires.fits e.number named))

pub returns-clause-placed : goal.returns-clause-placed
returns-clause-placed c = rw c.number.ensures (λ k e at.
    let es = c.args.job_slots.now in
    let p = c.args.place in
    let old = c.args.places.now in
    let moved = c.raise_from.new.places in
    let new : JobSlot = c.index-job_slots-place.result in
    let here : slice_get es p ≡ Some new = get-at es p new c.requires.inside c.index-job_slots-place.is in
    let long = c.raise_from.ensures.length in
    let fits : e.number < length old = c.requires.fits e.number (is-named-at es k e at) in
    let few = c.requires.few in
    let inside = slice_get_within es k e at in
    let own = place-same moved new.number p (subst (λ n. new.number < n) (sym long) (c.requires.fits new.number (is-named-at es p new here))) in (
      subst (λ n. e.number < n) (sym (length-set moved new.number p ∙ long)) fits,
      stands es moved c.requires.once p k e new at here own (λ differ. c.raise_from.ensures.raised e.number fits
          ∙ raised-around p k (place_in old e.number) differ (omega (arith, inside, few)) (c.requires.before k e at) (c.requires.behind k e at)),
    ))
