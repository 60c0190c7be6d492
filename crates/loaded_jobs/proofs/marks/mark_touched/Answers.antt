-- Those that list the path, or all.
use Rattle.std.proofs.Common.{◌≡◌, ◌⊎◌, inl, inr, ◌∷◌, List, Bor, nat_lt, length, true, false, not, sym, ap, ◌∙◌, arith}
use Rattle.std.proofs.lemmas.Option.{slice_get_within}
use Rattle.std.proofs.lemmas.Bool.Decides.{nat_tests}
use Rattle.history_model.specs.declared.CivilMinute.{CivilMinute}
use Rattle.history_model.specs.declared.Reading.{Reading as Moment}
use Rattle.history_model.specs.Described.{Described}
use Rattle.loaded_jobs.specs.Marking.{stands_at}
use Rattle.loaded_jobs.specs.AffectedJobs.{is_touched}
use Rattle.loaded_jobs.specs.declared.job_slot.AffectedJobs.{AffectedJobs}
use Rattle.loaded_jobs.specs.declared.job_slot.AffectedJobs.TheVariants.{Shutdown, Reading}
use Rattle.loaded_jobs.proofs.MinutesLemmas.{exact-marks, have-marks, stands, stood, listed-path}
use Rattle.loaded_jobs.proofs.marks.mark_touched.Goals as goal

pub mark_of-requires-clause-places : goal.mark_of-requires-clause-places
mark_of-requires-clause-places c = have-marks c.args.places.now c.args.job_slots.now c.args.listed.now c.args.ready.now c.requires.placed c.requires.listed c.requires.room

pub returns-in-Observation-clause-touched : goal.returns-in-Observation-clause-touched
returns-in-Observation-clause-touched c = λ place job_slot at.
    let path = c.in-Observation.path.now in
    ap not (exact-marks c.args.ready.now c.mark_of.new.ready (stands_at c.args.listed.now c.args.places.now (1 ∷ path)) c.mark_of.ensures c.requires.empty place)
    ∙ ap not (stands c.args.places.now c.args.job_slots.now c.requires.placed c.args.listed.now c.requires.listed (1 ∷ path) place job_slot at ∙ listed-path path job_slot.def)
    ∙ ap (λ n. not (is_touched n job_slot.def)) (sym c.in-Observation.is)

pub returns-in-Observation-clause-marks : goal.returns-in-Observation-clause-marks
returns-in-Observation-clause-marks c = λ place at.
    let path = c.in-Observation.path.now in
    let new = sym (exact-marks c.args.ready.now c.mark_of.new.ready (stands_at c.args.listed.now c.args.places.now (1 ∷ path)) c.mark_of.ensures c.requires.empty place) ∙ at in
    let found = stood c.args.places.now c.args.job_slots.now c.requires.placed c.args.listed.now c.requires.listed (1 ∷ path) place new in
    slice_get_within c.args.job_slots.now place found.0 found.1

all-received : (n : AffectedJobs) (d : Described) → (n ≡ Shutdown) ⊎ ((at : Moment) × (minutes : Bor (List CivilMinute)) × (n ≡ Reading at minutes)) → false ≡ not (is_touched n d)
all-received n d (inl is) = ap (λ m. not (is_touched m d)) (sym is)
all-received n d (inr read) = ap (λ m. not (is_touched m d)) (sym read.2)

pub returns-in-Shutdown-clause-touched : goal.returns-in-Shutdown-clause-touched
returns-in-Shutdown-clause-touched c = λ place job_slot at.
    let inside = slice_get_within c.args.job_slots.now place job_slot at in
    let low : nat_lt place (length c.args.job_slots.now) ≡ true = grind (arith, inside) in
    ap not (exact-marks c.args.ready.now c.mark_each.new.ready (λ p. nat_lt p (length c.args.job_slots.now)) c.mark_each.ensures c.requires.empty place)
    ∙ ap not low ∙ all-received c.args.affected job_slot.def c.in-Shutdown.is

pub returns-in-Shutdown-clause-marks : goal.returns-in-Shutdown-clause-marks
returns-in-Shutdown-clause-marks c = λ place at.
    let low = sym (exact-marks c.args.ready.now c.mark_each.new.ready (λ p. nat_lt p (length c.args.job_slots.now)) c.mark_each.ensures c.requires.empty place) ∙ at in
    grind (arith, nat_tests, low)
