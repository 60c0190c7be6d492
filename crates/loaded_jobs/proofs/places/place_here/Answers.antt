-- The one job with the label has left or not.
use Rattle.std.proofs.Common.{◌≡◌, None, sym, ◌∙◌, rules}
use Rattle.loaded_jobs.proofs.ByteOrderLemmas.{none-here, going-here, stays-here}
use Rattle.loaded_jobs.proofs.places.place_here.Goals as goal

pub returns-in_err-place : goal.returns-in_err-place
returns-in_err-place c = let none : c.from_residual.result ≡ None = search rules in none ∙ none-here c.args.job_slots.now c.args.label.now c.in_err-place.ensures

pub returns-then-has_gone : goal.returns-then-has_gone
returns-then-has_gone c =
    let e = c.index-job_slots-place in
    going-here c.args.job_slots.now c.requires c.args.label.now c.in_ok-place.place e.result c.in_ok-place.ensures e.is (sym c.has_gone.ensures ∙ c.if-has_gone.true)

pub returns : goal.returns
returns c =
    let e = c.index-job_slots-place in
    stays-here c.args.job_slots.now c.requires c.args.label.now c.in_ok-place.place e.result c.in_ok-place.ensures e.is (sym c.has_gone.ensures ∙ c.if-has_gone.false)
