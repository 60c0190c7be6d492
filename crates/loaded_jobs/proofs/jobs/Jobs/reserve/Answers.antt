-- Growth changes nothing else.
use Rattle.std.proofs.Common.{refl, sym, subst, ◌∙◌, map}
use Rattle.loaded_jobs.specs.JobSlots.{name}
use Rattle.loaded_jobs.specs.Index.{IsIndexOf, IsNamed}
use Rattle.loaded_jobs.proofs.LoadsLemmas.{grown-whole}
use Rattle.loaded_jobs.proofs.jobs.Jobs.reserve.Goals as goal

pub returns-in_default-clause-sound : goal.returns-in_default-clause-sound
returns-in_default-clause-sound c =
    let lists = c.reserve_beside.ensures in
    grown-whole c.args.self.now _ c.requires.sound refl lists.job_slots lists.count lists.slots lists.orders lists.more_orders refl refl lists.listed c.requires.sound.indexed

pub returns-in_default-try_from-clause-sound : goal.returns-in_default-try_from-clause-sound
returns-in_default-try_from-clause-sound c =
    let lists = c.reserve_beside.ensures in
    grown-whole c.args.self.now _ c.requires.sound refl lists.job_slots lists.count lists.slots lists.orders lists.more_orders refl refl lists.listed c.requires.sound.indexed

-- the slots' block grew, and the slots stayed
pub grow-requires-clause-named : goal.grow-requires-clause-named
grow-requires-clause-named c =
    subst (λ es. IsNamed c.args.self.now.index (map name es)) (sym (c.deref.ensures.value ∙ c.reserve_beside.ensures.job_slots)) c.requires.sound.sound.named

pub returns-in-Ok-grow-clause-sound : goal.returns-in-Ok-grow-clause-sound
returns-in-Ok-grow-clause-sound c =
    let lists = c.reserve_beside.ensures in
    grown-whole c.args.self.now _ c.requires.sound refl lists.job_slots lists.count lists.slots lists.orders lists.more_orders refl refl lists.listed
    (subst (IsIndexOf c.grow.new.index c.args.self.now.reading.up) (c.deref.ensures.value ∙ lists.job_slots) (c.grow.ensures.indexed c.args.self.now.reading.up
    (subst (IsIndexOf c.args.self.now.index c.args.self.now.reading.up) (sym (c.deref.ensures.value ∙ lists.job_slots)) c.requires.sound.indexed)))

pub returns-in-Err-clause-sound : goal.returns-in-Err-clause-sound
returns-in-Err-clause-sound c =
    let lists = c.reserve_beside.ensures in
    grown-whole c.args.self.now _ c.requires.sound refl lists.job_slots lists.count lists.slots lists.orders lists.more_orders refl refl lists.listed
    (subst (IsIndexOf c.grow.new.index c.args.self.now.reading.up) (c.deref.ensures.value ∙ lists.job_slots) (c.grow.ensures.indexed c.args.self.now.reading.up
    (subst (IsIndexOf c.args.self.now.index c.args.self.now.reading.up) (sym (c.deref.ensures.value ∙ lists.job_slots)) c.requires.sound.indexed)))
