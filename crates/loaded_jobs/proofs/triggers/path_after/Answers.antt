-- The first that stays of those after the text is the next path.
use Rattle.std.proofs.Common.{◌<◌, length, sym, subst, ◌∙◌, arith}
use Rattle.std.proofs.lemmas.Option.{slice_get_within}
use Rattle.loaded_jobs.specs.JobSlots.{rows}
use Rattle.loaded_jobs.specs.Nearest.{IsNearestOf, paths_in}
use Rattle.loaded_jobs.proofs.MomentsLemmas.{get-at}
use Rattle.loaded_jobs.proofs.TriggerCountLemmas.{any-listed}
use Rattle.loaded_jobs.proofs.TriggersLemmas.{none-after, next-found, pass-more}
use Rattle.loaded_jobs.proofs.triggers.path_after.Goals as goal

pub loop-place-preserved : goal.loop-place-preserved
loop-place-preserved c =
    let inv = c.loop-place.invariant in
    let xs = c.args.listed.now in
    let k = c.loop-place.place in
    let within : k < length xs = omega arith in
    let one = c.index-listed-place.result in
    record {
      passed = pass-more c.args.places.now c.args.job_slots.now xs c.args.text.now k one (get-at xs k one within c.index-listed-place.is) (sym c.stays.ensures ∙ c.if-stays.false) inv.passed;
      ahead = λ j y at up. inv.ahead j y at (omega (arith, up));
    }

pub returns-then-stays : goal.returns-then-stays
returns-then-stays c =
    let inv = c.loop-place.invariant in
    let xs = c.args.listed.now in
    let k = c.loop-place.place in
    let within : k < length xs = omega arith in
    let one = c.index-listed-place.result in
    let at = get-at xs k one within c.index-listed-place.is in
    subst (IsNearestOf c.args.text.now (paths_in (rows c.args.job_slots.now))) (sym c.path.ensures)
    (next-found c.args.places.now c.args.job_slots.now c.requires.placed xs (any-listed xs _ c.requires.listed.exact) c.requires.listed.order c.args.text.now k one at (inv.ahead k one at (omega arith))
    (sym c.stays.ensures ∙ c.if-stays.true) inv.passed)

pub returns : goal.returns
returns c =
    let inv = c.loop-place.invariant in
    let xs = c.args.listed.now in
    let over = c.loop-place-test.false in
    none-after c.args.places.now c.args.job_slots.now c.requires.placed xs (any-listed xs _ c.requires.listed.exact) c.args.text.now
    (λ j one at. inv.passed j one at (let within = slice_get_within xs j one at in omega (arith, within, over)))
