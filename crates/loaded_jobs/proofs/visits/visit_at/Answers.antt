-- The job is asked, and has its next moment then.
use Rattle.std.proofs.Common.{None, cond, get_or, sym, ap, ◌∙◌}
use Rattle.loaded_jobs.specs.Visiting.{IsVisit}
use Rattle.loaded_jobs.specs.declared.job_slot.JobSlot.{JobSlot}
use Rattle.loaded_jobs.specs.declared.gone_jobs.Gone.TheVariants.{Nobody, One}
use Rattle.loaded_jobs.proofs.GoneLemmas.{stayed-more, went-more}
use Rattle.loaded_jobs.proofs.VisitAtLemmas.{known-number, visited-at}
use Rattle.loaded_jobs.proofs.visits.visit_at.Goals as goal

pub retime-requires-clause-room : goal.retime-requires-clause-room
retime-requires-clause-room c =
    let es = c.args.job_slots.now in
    let e : JobSlot = get_or es c.args.place c.index-job_slots-place.result in
    c.requires.can.numbers c.ask.new.self.number
    (known-number c.args.place c.args.now es e c.ask.new.self c.args.timers.now c.requires.can c.requires.inside (ap (get_or es c.args.place) c.index-job_slots-place.is) c.ask.ensures.name)

pub returns-then-not-has_gone-clause-visits : goal.returns-then-not-has_gone-clause-visits
returns-then-not-has_gone-clause-visits c =
    let es = c.args.job_slots.now in
    let place = c.args.place in
    let new = c.ask.new.self in
    let e : JobSlot = get_or es place c.index-job_slots-place.result in
    let visit : IsVisit c.args.now c.args.now None e new c.args.orders.now.items c.ask.new.orders.items = record {
      orders = λ past keeps present fine at. c.ask.ensures.orders past keeps at;
      going = λ past keeps present fine at. c.ask.ensures.going past keeps at;
      kept = λ past keeps present fine at stays. c.ask.ensures.kept past keeps at stays;
      name = c.ask.ensures.name;
    } in
    visited-at place c.args.now es e new c.args.timers.now c.requires.can c.requires.inside (ap (get_or es place) c.index-job_slots-place.is) c.ask.ensures.name c.args.orders.now.items c.ask.new.orders.items c.retime.new.timers 1 Nobody
    visit c.ask.ensures.decided c.ask.ensures.known c.retime.ensures (ap (λ b. cond b 0 1) (sym (sym c.has_gone.ensures ∙ c.if-not-has_gone.true))) (stayed-more Nobody place es new c.requires.can.stay (sym c.has_gone.ensures ∙ c.if-not-has_gone.true))

pub returns-clause-visits : goal.returns-clause-visits
returns-clause-visits c =
    let es = c.args.job_slots.now in
    let place = c.args.place in
    let new = c.ask.new.self in
    let e : JobSlot = get_or es place c.index-job_slots-place.result in
    let visit : IsVisit c.args.now c.args.now None e new c.args.orders.now.items c.ask.new.orders.items = record {
      orders = λ past keeps present fine at. c.ask.ensures.orders past keeps at;
      going = λ past keeps present fine at. c.ask.ensures.going past keeps at;
      kept = λ past keeps present fine at stays. c.ask.ensures.kept past keeps at stays;
      name = c.ask.ensures.name;
    } in
    visited-at place c.args.now es e new c.args.timers.now c.requires.can c.requires.inside (ap (get_or es place) c.index-job_slots-place.is) c.ask.ensures.name c.args.orders.now.items c.ask.new.orders.items c.retime.new.timers 0 (One place)
    visit c.ask.ensures.decided c.ask.ensures.known c.retime.ensures (ap (λ b. cond b 0 1) (sym (sym c.has_gone.ensures ∙ c.if-not-has_gone.false))) (went-more Nobody place es new c.requires.can.stay)
