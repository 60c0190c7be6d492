-- Wanted at once, or from the end of the interval's period; and not before the throttle's end.
use Rattle.std.proofs.Common.{◌≡◌, ℕ, Bool, true, false, Option, Some, None, cond, max, sym, ap, ◌∙◌, arith}
use Rattle.history_model.specs.DueByFacts.{is_wanted_by}
use Rattle.history_model.specs.NextMomentByFacts.{coming_period}
use Rattle.history_model.specs.Reasons.{not_before}
use Rattle.history_model.specs.ReasonsByFacts.{free_by, needs_by, spawns_from_by}
use Rattle.history_model.specs.Facts.{Facts}
use Rattle.history_model.proofs.ReasonsLemmas.{free-unique}
use Rattle.job_core.specs.JobFields.{facts}
use Rattle.job_core.proofs.job.Job.spawns_from.Goals as goal

-- the facts give the moment, once no event is needed
moment-is : (f : Facts) (up : ℕ) (wanted : Bool) → needs_by f ≡ false → is_wanted_by f ≡ wanted →
    not_before (free_by f) (cond wanted (Some 0) (coming_period f.definition.start_interval f.load_up up)) ≡ spawns_from_by f up
moment-is f up wanted needs wants = λ i. cond (sym needs i) None (not_before (free_by f) (cond (sym wants i) (Some 0) (coming_period f.definition.start_interval f.load_up up)))

at-once : (free m : ℕ) → m ≡ free → Some m ≡ not_before free (Some 0)
at-once free m is = let least : m ≡ max free 0 = omega (arith, is) in ap Some least

later : (free known moment result : ℕ) (o : Option ℕ) → known ≡ free → result ≡ max known moment → Some moment ≡ o → Some result ≡ not_before free o
later free known moment result o is most next = ap Some (most ∙ ap (λ n. max n moment) is) ∙ ap (not_before free) next

pub returns-then-is_wanted : goal.returns-then-is_wanted
returns-then-is_wanted c =
    let f = facts c.args.self.now in
    at-once (free_by f) c.free_at-free.result (free-unique f c.free_at-free.result c.free_at-free.ensures.step)
    ∙ moment-is f c.args.up true (sym c.needs_event.ensures ∙ c.if-needs_event.false) (sym c.is_wanted.ensures ∙ c.if-is_wanted.true)

pub returns-in-Some : goal.returns-in-Some
returns-in-Some c =
    let f = facts c.args.self.now in
    later (free_by f) c.free_at-free.result c.in-Some.moment c.max.result (coming_period f.definition.start_interval f.load_up c.args.up)
    (free-unique f c.free_at-free.result c.free_at-free.ensures.step) c.max.ensures c.in-Some.ensures.value
    ∙ moment-is f c.args.up false (sym c.needs_event.ensures ∙ c.if-needs_event.false) (sym c.is_wanted.ensures ∙ c.if-is_wanted.false)
