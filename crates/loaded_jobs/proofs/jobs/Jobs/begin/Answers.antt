-- Dropping the jobs that left changes no row.
use Rattle.std.proofs.Common.{ap, subst, sym, ◌∙◌, map}
use Rattle.std.specs.List.{filter}
use Rattle.loaded_jobs.specs.JobSlots.{name, rows, AllStay, job_slot_stays}
use Rattle.loaded_jobs.proofs.NumbersLemmas.{names-begun}
use Rattle.loaded_jobs.proofs.TidyLemmas.{tidy-rows, tidy-stay}
use Rattle.loaded_jobs.proofs.LeavingLemmas.{gone-sound, emptied-sound}
use Rattle.loaded_jobs.specs.declared.gone_jobs.Gone.TheVariants.{Nobody}
use Rattle.loaded_jobs.proofs.jobs.Jobs.begin.Goals as goal

pub drop_left-requires-clause-sound : goal.drop_left-requires-clause-sound
drop_left-requires-clause-sound c = emptied-sound c.args.self.now c.clear.new.self c.requires.sound c.clear.ensures.items c.clear.ensures.capacity

pub returns : goal.returns
returns c = record {
  begun = record {
    whole = record {
      sound = gone-sound c.drop_left.new.self Nobody c.drop_left.ensures.sound;
      indexed = c.drop_left.ensures.indexed;
      stay = subst AllStay (sym c.drop_left.ensures.job_slots) (tidy-stay c.args.self.now.job_slots.items);
    };
    stay = subst AllStay (sym c.drop_left.ensures.job_slots) (tidy-stay c.args.self.now.job_slots.items);
    empty = ap (λ orders. orders.items) c.drop_left.ensures.orders ∙ c.clear.ensures.items;
  };
  rows = ap rows c.drop_left.ensures.job_slots ∙ tidy-rows c.args.self.now.job_slots.items;
  names = ap (map name) c.drop_left.ensures.job_slots
      ∙ names-begun (filter job_slot_stays c.args.self.now.job_slots.items) c.args.self.now.job_slots.items (tidy-stay c.args.self.now.job_slots.items) (tidy-rows c.args.self.now.job_slots.items);
  alike = let alike = c.drop_left.ensures.alike in record { reading = alike.reading; zone = alike.zone; settings = alike.settings; shutdown = alike.shutdown };
  room = let room = c.drop_left.ensures.room in record {
    jobs = room.jobs;
    orders = room.orders ∙ c.clear.ensures.capacity;
    settings = room.settings;
    numbers = room.numbers;
    moments = room.moments;
    marks = room.marks;
    places = room.places;
    triggers = room.triggers;
  };
}
