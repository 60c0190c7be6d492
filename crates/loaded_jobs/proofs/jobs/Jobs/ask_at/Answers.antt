-- The one job is the one that is reached.
use Rattle.std.proofs.Common.{◌≡◌, ◌<◌, ◌==◌, ℕ, true, false, length, refl, sym, ap, subst, arith}
use Rattle.std.proofs.lemmas.Bool.Decides.{nat_tests}
use Rattle.history_model.proofs.BooleanLemmas.{not-false}
use Rattle.loaded_jobs.specs.AffectedJobs.{nothing_for, is_at}
use Rattle.loaded_jobs.specs.Visiting.{is_other}
use Rattle.loaded_jobs.specs.Visits.{CanVisit, VisitsTouched}
use Rattle.loaded_jobs.proofs.AskedLemmas.{can-visit, asked}
use Rattle.loaded_jobs.proofs.ReceivingLemmas.{nothing-brings}
use Rattle.loaded_jobs.proofs.jobs.Jobs.ask_at.Goals as goal

-- no other place is visited
inside : (place count : ℕ) → place < count → (k : ℕ) → is_other place k ≡ false → k < count
inside place count within k visited =
    let is : (place == k) ≡ true = not-false (place == k) visited in
    let same : place ≡ k = grind (arith, nat_tests, is) in
    subst (λ p. p < count) same within

pub visit_at-asked-requires-clause-inside : goal.visit_at-asked-requires-clause-inside
visit_at-asked-requires-clause-inside c = subst (λ es. c.args.place < length es) (sym c.deref_mut.ensures.value) c.requires.inside

pub visit_at-asked-requires-clause-can : goal.visit_at-asked-requires-clause-can
visit_at-asked-requires-clause-can c =
    let old = c.args.self.now in
    let place = c.args.place in
    subst (λ es. CanVisit nothing_for old.reading old.reading (is_other place) es old.index.timers) (sym c.deref_mut.ensures.value)
    (can-visit nothing_for (is_at place) (λ k d apart. refl) (is_other place) old c.requires.can (λ k e there. refl) (nothing-brings old.reading) (inside place (length old.job_slots.items) c.requires.inside))

pub visit_at-asked-requires-clause-room : goal.visit_at-asked-requires-clause-room
visit_at-asked-requires-clause-room c =
    let enough = c.requires.can.sound.room in
    let inside = c.requires.inside in
    let job_slots = c.args.self.now.job_slots.ok.0 in
    let none = ap length c.requires.can.empty in
    let orders = c.args.self.now.orders.ok.0 in
    omega (arith, enough, inside, job_slots, none, orders)

pub returns : goal.returns
returns c =
    let old = c.args.self.now in
    let place = c.args.place in
    let after = c.visit_at-asked.new.job_slots in
    asked nothing_for (is_at place) (λ k d apart. refl) (is_other place) old c.requires.can (λ k e there. refl) _ after
    (subst (λ es. VisitsTouched nothing_for old.reading old.reading (is_other place) es after old.orders.items c.visit_at-asked.new.orders.items c.visit_at-asked.new.timers c.visit_at-asked.result.0 c.visit_at-asked.result.1)
    c.deref_mut.ensures.value c.visit_at-asked.ensures.visits)
    refl refl refl refl refl (record { reading = refl; zone = refl; settings = refl; shutdown = refl })
    c.requires.can.sound.named.empty refl c.visit_at-asked.ensures.space c.visit_at-asked.ensures.capacity
