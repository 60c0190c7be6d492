-- The shutdown is heard by every job.
use Rattle.std.proofs.Common.{Option, true, refl, ap, sym, subst, [], Some, None, ◌∙◌}
use Rattle.std.specs.Prelude.{Ok}
use Rattle.history_model.specs.declared.Ask.TheVariants.{Shutdown}
use Rattle.history_model.specs.declared.Refusal.TheVariants.{ShuttingDown}
use Rattle.history_model.specs.Items.{Item, Asked}
use Rattle.history_model.specs.Acceptance.{refused_if}
use Rattle.history_model.specs.Machine.{State, Job, ShutDown}
use Rattle.history_model.specs.Step.{taken}
use Rattle.loaded_jobs.specs.StandsFor.{KeepsState}
use Rattle.loaded_jobs.specs.Counts.{counts, IsCounted}
use Rattle.loaded_jobs.specs.JobSlots.{rows, gone}
use Rattle.loaded_jobs.specs.TableOutcomes.{plain_outcome}
use Rattle.loaded_jobs.specs.Sound.{seen_table}
use Rattle.loaded_jobs.specs.AffectedJobs.{reaches}
use Rattle.loaded_jobs.specs.declared.job_slot.AffectedJobs.TheVariants as affected
use Rattle.loaded_jobs.proofs.ReceivingLemmas.{shutdown-brings}
use Rattle.loaded_jobs.specs.declared.jobs.Jobs.{Jobs}
use Rattle.loaded_jobs.proofs.OutcomesLemmas.{IsDone, accepted}
use Rattle.loaded_jobs.proofs.EventsLemmas.{alike-state, own-jobs, head, with_orders-so, shutdowns}
use Rattle.loaded_jobs.proofs.TellingLemmas.{same-room}
use Rattle.loaded_jobs.proofs.TouchedLemmas.{rest-each}
use Rattle.loaded_jobs.proofs.jobs.Jobs.shut_down.Goals as goal

pub ask_touched-requires-clause-can : goal.ask_touched-requires-clause-can
ask_touched-requires-clause-can c = record {
  sound = c.begin.ensures.begun.whole.sound;
  stay = c.begin.ensures.begun.stay;
  empty = c.begin.ensures.begun.empty;
  placed = c.begin.ensures.begun.whole.indexed.placed;
  timed = λ k e there apart. c.begin.ensures.begun.whole.indexed.timed k e there;
}

pub ask_touched-requires-clause-brings : goal.ask_touched-requires-clause-brings
ask_touched-requires-clause-brings c = shutdown-brings c.begin.new.self.reading

-- the table that is left
abbrev going-as : goal.After-self-1 → Jobs
going-as c = record c.ask_touched.new.self { is_shutting_down = true }

done : (c : goal.After-self-1) (s : State) → KeepsState (seen_table c.args.self.now) s → IsDone s ShutDown (seen_table (going-as c)) (plain_outcome (Ok tt) (seen_table (going-as c)))
done c s keeps =
    let begun = c.begin.new.self in
    let start = alike-state c.args.self.now begun s c.begin.ensures.alike keeps c.begin.ensures.rows in
    let jobs = own-jobs begun s start in
    let item : Job → Option Item = λ job. Some (Asked Shutdown) in
    let for = shutdowns (rows begun.job_slots.items) s.jobs in
    let rests = rest-each (reaches affected.Shutdown) 0 (rows begun.job_slots.items) s.jobs keeps.rests in
    let same = head c.args.self.now begun s c.begin.ensures.alike keeps in
    let alike = c.ask_touched.ensures.alike in
    accepted (seen_table c.args.self.now) (seen_table (going-as c)) s ShutDown [] c.requires.sound.in_range keeps (ap (λ b. refused_if b ShuttingDown None) (sym keeps.shutdown ∙ c.if-self.false))
    (with_orders-so (record begun { is_shutting_down = true }) (going-as c) (taken s ShutDown)
    (record { reading = alike.reading; zone = alike.zone; settings = alike.settings; shutdown = refl })
    (record { reading = same.reading; zone = same.zone; settings = same.settings; shutdown = refl })
    (c.ask_touched.ensures.kept s.jobs item for (λ job present. refl) rests jobs)
    (c.ask_touched.ensures.orders s.jobs item for (λ job present. refl) rests jobs)) refl

pub returns-clause-goes : goal.returns-clause-goes
returns-clause-goes c = record {
  answer = λ s keeps. (done c s keeps).outcome;
  kept = λ s keeps. (done c s keeps).kept;
  counted = subst (λ rs. IsCounted (counts rs) (rows c.ask_touched.new.self.job_slots.items) (gone c.ask_touched.new.self.job_slots.items) c.ask_touched.new.self.visited) c.begin.ensures.rows c.ask_touched.ensures.counted;
  spared = λ s keeps label past found apart. cc;
  names = c.ask_touched.ensures.names ∙ c.begin.ensures.names;
  room = record {
    jobs = (same-room c.begin.ensures.room c.ask_touched.ensures.room).jobs;
    orders = (same-room c.begin.ensures.room c.ask_touched.ensures.room).orders;
    settings = (same-room c.begin.ensures.room c.ask_touched.ensures.room).settings;
    numbers = (same-room c.begin.ensures.room c.ask_touched.ensures.room).numbers;
    moments = (same-room c.begin.ensures.room c.ask_touched.ensures.room).moments;
    marks = (same-room c.begin.ensures.room c.ask_touched.ensures.room).marks;
    places = (same-room c.begin.ensures.room c.ask_touched.ensures.room).places;
    triggers = (same-room c.begin.ensures.room c.ask_touched.ensures.room).triggers;
  };
}
