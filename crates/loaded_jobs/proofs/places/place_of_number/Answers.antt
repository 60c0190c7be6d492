-- The number's place has the job with the number, or no job has it.
use Rattle.std.proofs.Common.{◌<◌, length, arith}
use Rattle.std.proofs.lemmas.Bool.Decides.{nat_tests}
use Rattle.loaded_jobs.specs.Index.{place_in}
use Rattle.loaded_jobs.proofs.MomentsLemmas.{get-at}
use Rattle.loaded_jobs.proofs.FindLemmas.{no-place, no-job_slot, other-job_slot, this-job_slot}
use Rattle.loaded_jobs.proofs.places.place_of_number.Goals as goal

pub returns-then-number-places : goal.returns-then-number-places
returns-then-number-places c = let past = c.if-number-places.true in no-place c.args.job_slots.now c.args.places.now c.requires c.args.number (grind (arith, past))

pub returns-then-place-job_slots : goal.returns-then-place-job_slots
returns-then-place-job_slots c = let past = c.if-place-job_slots.true in no-job_slot c.args.job_slots.now c.args.places.now c.requires c.args.number (grind (arith, past))

pub returns-then-number : goal.returns-then-number
returns-then-number c =
    let es = c.args.job_slots.now in
    let e = c.index-job_slots-place.result in
    let inside = c.if-place-job_slots.false in
    let within : place_in c.args.places.now c.args.number < length es = grind (arith, inside) in
    let differ = c.if-number.true in
    other-job_slot es c.args.places.now c.requires c.args.number e (get-at es (place_in c.args.places.now c.args.number) e within c.index-job_slots-place.is) (let own = c.number.ensures in grind (arith, nat_tests, differ, own))

pub returns : goal.returns
returns c =
    let es = c.args.job_slots.now in
    let e = c.index-job_slots-place.result in
    let inside = c.if-place-job_slots.false in
    let within : place_in c.args.places.now c.args.number < length es = grind (arith, inside) in
    let same = c.if-number.false in
    this-job_slot es c.args.places.now c.requires c.args.number e (get-at es (place_in c.args.places.now c.args.number) e within c.index-job_slots-place.is) (let own = c.number.ensures in grind (arith, nat_tests, same, own))
