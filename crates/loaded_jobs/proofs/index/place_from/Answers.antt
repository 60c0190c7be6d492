-- One more slot has its place.
use Rattle.std.proofs.Common.{◌≡◌, ◌<◌, map, length, refl, sym, ◌∙◌, subst, arith}
use Rattle.std.specs.Prelude.{slice_set}
use Rattle.std.proofs.lemmas.List.{length-set}
use Rattle.std.proofs.lemmas.Option.{slice_get_within}
use Rattle.loaded_jobs.specs.JobSlots.{name}
use Rattle.loaded_jobs.specs.Index.{place_in}
use Rattle.loaded_jobs.specs.declared.job_slot.JobSlot.{JobSlot}
use Rattle.loaded_jobs.proofs.KnownNumbersLemmas.{named-at, all-named}
use Rattle.loaded_jobs.proofs.IndexLemmas.{one-more, place-same, place-other, is-named-at}
use Rattle.loaded_jobs.proofs.index.place_from.Goals as goal

pub loop-place-preserved : goal.loop-place-preserved
loop-place-preserved c =
    let inv = c.loop-place.invariant in
    let es = c.args.job_slots.now in
    let i = c.loop-place.place in
    let e : JobSlot = c.index-job_slots-place.result in
    let within : i < length es = omega arith in
    let is = c.index-job_slots-place.is in
    let named = named-at (map name es) es es i e within refl is (all-named es) in
    let fits : e.number < length c.loop-place.places = subst (λ n. e.number < n) (sym inv.long) (c.requires.fits e.number named) in
    record {
      below = omega (arith, within);
      long = length-set c.loop-place.places c.number.result i ∙ inv.long;
      placed = rw c.number.ensures (one-more es c.requires.once i e within is {P = λ k x. place_in (slice_set c.loop-place.places e.number i) x.number ≡ k}
          (λ k x at low apart. place-other c.loop-place.places e.number i x.number apart ∙ inv.placed k x at low)
          (place-same c.loop-place.places e.number i fits));
    }

-- the number of the slot at hand has a place
pub bounds-places-number : goal.bounds-places-number
bounds-places-number c =
    let es = c.args.job_slots.now in
    let i = c.loop-place.place in
    let e : JobSlot = c.index-job_slots-place.result in
    let named = named-at (map name es) es es i e (omega arith) refl c.index-job_slots-place.is (all-named es) in
    rw c.number.ensures (subst (λ n. e.number < n) (sym c.loop-place.invariant.long) (c.requires.fits e.number named))

pub returns-clause-placed : goal.returns-clause-placed
returns-clause-placed c = λ k e at. (
  subst (λ n. e.number < n) (sym c.loop-place.invariant.long) (c.requires.fits e.number (is-named-at c.args.job_slots.now k e at)),
  c.loop-place.invariant.placed k e at (let inside = slice_get_within c.args.job_slots.now k e at in let over = c.loop-place-test.false in omega (arith, inside, over)),
)
