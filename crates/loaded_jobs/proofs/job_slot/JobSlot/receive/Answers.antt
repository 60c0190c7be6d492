-- The touch is one item, or none, for this job.
use Rattle.std.proofs.Common.{ap, ◌∙◌, sym}
use Rattle.std.specs.Prelude.{Some, None, if◌then◌else◌}
use Rattle.std.specs.List.{list_any}
use Rattle.history_model.specs.Calendar.{matches}
use Rattle.history_model.specs.Items.{Read, Saw}
use Rattle.loaded_jobs.specs.AffectedJobs.{item_for}
use Rattle.loaded_jobs.proofs.ReceivingLemmas.{received-as, received-nothing}
use Rattle.loaded_jobs.proofs.job_slot.JobSlot.receive.Goals as goal

pub returns-in-Reading : goal.returns-in-Reading
returns-in-Reading c =
    let fires = c.fires-fires.ensures.any ∙ ap (λ entries. list_any (λ minute. list_any (λ entry. matches entry minute) entries) c.in-Reading.minutes.now) c.calendar.ensures in
    received-as (ap (λ b. Some (Read c.in-Reading.at b)) fires ∙ ap (λ n. item_for n c.args.self.now.def) (sym c.in-Reading.is)) c.apply-in-Reading.ensures

pub returns-then-lists : goal.returns-then-lists
returns-then-lists c =
    received-as (ap (λ b. if b then Some (Saw c.in-Observation.path.now c.in-Observation.obs) else None) (sym c.if-lists.true ∙ c.lists.ensures) ∙ ap (λ n. item_for n c.args.self.now.def) (sym c.in-Observation.is)) c.apply-then-lists.ensures

pub returns-else-lists : goal.returns-else-lists
returns-else-lists c =
    received-as (ap (λ b. if b then Some (Saw c.in-Observation.path.now c.in-Observation.obs) else None) (sym c.if-lists.false ∙ c.lists.ensures) ∙ ap (λ n. item_for n c.args.self.now.def) (sym c.in-Observation.is)) received-nothing
