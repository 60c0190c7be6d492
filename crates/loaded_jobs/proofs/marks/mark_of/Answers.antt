-- One more mark.
use Rattle.std.proofs.Common.{◌<◌, ◌+◌, ◌==◌, ◌||◌, length, take, sym, ap, subst, ◌∙◌, arith}
use Rattle.std.specs.Prelude.{slice_get}
use Rattle.std.specs.List.{list_any}
use Rattle.std.proofs.lemmas.List.{take_all}
use Rattle.std.proofs.lemmas.List.Folds.{list_any_more}
use Rattle.place_set.specs.Places.{Inserts}
use Rattle.loaded_jobs.specs.Index.{place_in}
use Rattle.loaded_jobs.specs.Marking.{stands_at}
use Rattle.loaded_jobs.specs.Triggers.{rank_of, has_rank, is_placed_at}
use Rattle.loaded_jobs.proofs.MomentsLemmas.{get-at}
use Rattle.loaded_jobs.proofs.TriggersLemmas.{filter-at}
use Rattle.loaded_jobs.proofs.MinutesLemmas.{more-marks, same-marks, one-mark}
use Rattle.loaded_jobs.proofs.marks.mark_of.Goals as goal

pub bounds-places-one : goal.bounds-places-one
bounds-places-one c =
    let run = c.run_of-run.result.now in
    let i = c.loop-one.one-index in
    let within : i < length run = omega arith in
    let one = c.one-item.result in
    let found = filter-at (has_rank (rank_of c.args.query)) c.args.listed.now i one (ap (λ xs. slice_get xs i) (sym c.run_of-run.ensures) ∙ get-at run i one within c.one-item.is) in
    (c.requires.places found.0 one found.1).0

pub insert-requires : goal.insert-requires
insert-requires c =
    let run = c.run_of-run.result.now in
    let i = c.loop-one.one-index in
    let within : i < length run = omega arith in
    let one = c.one-item.result in
    let found = filter-at (has_rank (rank_of c.args.query)) c.args.listed.now i one (ap (λ xs. slice_get xs i) (sym c.run_of-run.ensures) ∙ get-at run i one within c.one-item.is) in
    subst (λ r. place_in c.args.places.now one.number < r) (sym c.loop-one.invariant.room) (c.requires.places found.0 one found.1).1

pub loop-one-preserved : goal.loop-one-preserved
loop-one-preserved c =
    let run = c.run_of-run.result.now in
    let places = c.args.places.now in
    let i = c.loop-one.one-index in
    let within : i < length run = omega arith in
    let one = c.one-item.result in
    let sets : Inserts c.loop-one.ready c.insert.new.self (place_in places one.number) = c.insert.ensures in
    more-marks c.args.ready.now c.loop-one.ready c.insert.new.self (λ place. list_any (is_placed_at places place) (take i run)) (λ place. place_in places one.number == place)
    (λ place. list_any (is_placed_at places place) (take (i + 1) run))
    (λ place. list_any_more (is_placed_at places place) run i one within ∙ ap (λ x. list_any (is_placed_at places place) (take i run) || is_placed_at places place x) (sym c.one-item.is))
    c.loop-one.invariant (one-mark c.loop-one.ready c.insert.new.self (place_in places one.number) sets)

pub returns : goal.returns
returns c =
    let run = c.run_of-run.result.now in
    let places = c.args.places.now in
    let i = c.loop-one.one-index in
    let over = c.loop-one-test.false in
    same-marks c.args.ready.now c.loop-one.ready (λ place. list_any (is_placed_at places place) (take i run)) (stands_at c.args.listed.now places (rank_of c.args.query))
    (λ place. ap (list_any (is_placed_at places place)) (sym c.run_of-run.ensures ∙ sym (take_all i run (omega (arith, over)))))
    c.loop-one.invariant
