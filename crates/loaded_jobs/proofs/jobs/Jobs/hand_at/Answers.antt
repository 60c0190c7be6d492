-- The event goes to the one job at the place.
use Rattle.std.proofs.Common.{◌≡◌, true, ap, subst, sym, ◌∙◌}
use Rattle.std.specs.List.{list_all}
use Rattle.history_model.specs.JobItems.{item_of}
use Rattle.history_model.specs.MachineLaws.{AreInOrder}
use Rattle.loaded_jobs.specs.Periods.{HavePeriods}
use Rattle.loaded_jobs.specs.Tables.{IsOnce, is_known, labels_in}
use Rattle.loaded_jobs.specs.Triggers.{AreListed}
use Rattle.loaded_jobs.specs.Loads.{refused_with}
use Rattle.loaded_jobs.specs.Sound.{AreFree}
use Rattle.loaded_jobs.specs.Index.{IsNamed}
use Rattle.loaded_jobs.specs.Minutes.{some_calendar}
use Rattle.loaded_jobs.specs.declared.job_slot.JobSlot.{JobSlot}
use Rattle.loaded_jobs.proofs.EventsLemmas.{silent}
use Rattle.loaded_jobs.proofs.PlacesLemmas.{IsHanded, answers, received-kept, handed}
use Rattle.loaded_jobs.proofs.CountsLemmas.{counts-set}
use Rattle.loaded_jobs.proofs.HeldNumbersLemmas.{held-names}
use Rattle.loaded_jobs.proofs.TellingLemmas.{refusal-reply}
use Rattle.loaded_jobs.proofs.TouchedLemmas.{changed-at, handed-at}
use Rattle.loaded_jobs.proofs.jobs.Jobs.hand_at.Goals as goal

abbrev after : goal.After-self-1 → JobSlot
after c = c.receive_item.new.self

job_slot-handed : (c : goal.After-self-1) → IsHanded c.args.self.now.job_slots.items c.args.place c.index_mut-job_slot.result.now (after c)
job_slot-handed c = handed c.args.self.now.job_slots.items c.args.place c.index_mut-job_slot.result.now (after c) c.requires.stay c.requires.inside c.index_mut-job_slot.ensures.value c.receive_item.ensures.name c.receive_item.ensures.stays

pub returns-clause-answer : goal.returns-clause-answer
returns-clause-answer c = λ label jobs at keeps.
    ap refused_with (answers c.args.self.now.reading label (item_of c.args.item) c.args.self.now.job_slots.items c.args.place c.index_mut-job_slot.result.now jobs c.receive_item.result
    c.requires.stay at c.index_mut-job_slot.ensures.value c.receive_item.ensures.refused keeps)
    ∙ refusal-reply _

pub returns-clause-place : goal.returns-clause-place
returns-clause-place c = λ label at. handed-at label c.args.self.now.job_slots.items c.args.place c.index_mut-job_slot.result.now (after c) at c.index_mut-job_slot.ensures.value c.receive_item.ensures.name

pub returns-clause-others : goal.returns-clause-others
returns-clause-others c = changed-at c.args.self.now.job_slots.items c.args.place (after c) c.requires.inside

pub returns-clause-kept : goal.returns-clause-kept
returns-clause-kept c = λ label jobs at keeps.
    received-kept c.args.self.now.reading label (item_of c.args.item) c.args.self.now.job_slots.items c.args.place c.index_mut-job_slot.result.now (after c) jobs c.receive_item.result
    c.requires.stay at c.index_mut-job_slot.ensures.value c.receive_item.ensures.name c.receive_item.ensures.stays (silent c.args.item) c.receive_item.ensures.kept keeps

pub returns-clause-stay : goal.returns-clause-stay
returns-clause-stay c = (job_slot-handed c).stay

pub returns-clause-names : goal.returns-clause-names
returns-clause-names c = (job_slot-handed c).names

pub returns-clause-counts : goal.returns-clause-counts
returns-clause-counts c =
    counts-set c.args.self.now.job_slots.items c.args.place c.index_mut-job_slot.result.now (after c) c.requires.stay (job_slot-handed c).stay c.requires.inside
    c.index_mut-job_slot.ensures.value c.receive_item.ensures.name c.receive_item.ensures.decided

pub returns-clause-sound : goal.returns-clause-sound
returns-clause-sound c =
    let is = job_slot-handed c in
    record {
      in_range = c.requires.sound.in_range;
      wall = c.requires.sound.wall;
      once = subst IsOnce (sym is.names) c.requires.sound.once;
      held = held-names _ _ c.args.self.now.numbers (sym is.names) c.requires.sound.held;
      free = subst (AreFree c.args.self.now.numbers) (sym is.names) c.requires.sound.free;
      known = subst (λ ns. list_all (is_known ns) c.args.self.now.orders.items ≡ true) (sym is.names) c.requires.sound.known;
      few = c.requires.sound.few;
      room = c.requires.sound.room;
      named = subst (IsNamed c.args.self.now.index) (sym is.names) c.requires.sound.named;
      periods = subst HavePeriods (sym is.names) c.requires.sound.periods;
      calendars = c.requires.sound.calendars ∙ ap some_calendar (sym is.names);
      listed = subst (AreListed c.args.self.now.triggers.items) (sym is.names) c.requires.sound.listed;
      order = subst (λ ns. AreInOrder (labels_in ns)) (sym is.names) c.requires.sound.order;
    }
