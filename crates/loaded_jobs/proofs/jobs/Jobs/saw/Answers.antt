-- The observation is heard by the jobs that list the path.
use Rattle.std.proofs.Common.{refl, [], ap, subst, ◌∙◌}
use Rattle.history_model.specs.Items.{Saw}
use Rattle.history_model.specs.Machine.{State, Observation}
use Rattle.history_model.specs.Step.{observation_of, taken}
use Rattle.loaded_jobs.specs.StandsFor.{KeepsState}
use Rattle.loaded_jobs.specs.Counts.{counts, count_in, IsCounted}
use Rattle.loaded_jobs.specs.JobSlots.{rows, gone}
use Rattle.loaded_jobs.specs.TableOutcomes.{plain_outcome}
use Rattle.loaded_jobs.specs.Sound.{seen_table}
use Rattle.loaded_jobs.specs.AffectedJobs.{reaches}
use Rattle.loaded_jobs.specs.declared.job_slot.AffectedJobs.TheVariants as affected
use Rattle.loaded_jobs.proofs.ReceivingLemmas.{observation-brings}
use Rattle.loaded_jobs.proofs.OutcomesLemmas.{IsDone, accepted}
use Rattle.loaded_jobs.proofs.EventsLemmas.{alike-state, own-jobs, head, with_orders-so, observations, observations-fine}
use Rattle.loaded_jobs.proofs.TellingLemmas.{same-room}
use Rattle.loaded_jobs.proofs.TouchedLemmas.{rest-each, unlisted-spared}
use Rattle.std.specs.Prelude.{Ok}
use Rattle.loaded_jobs.proofs.jobs.Jobs.saw.Goals as goal

pub ask_touched-requires-clause-can : goal.ask_touched-requires-clause-can
ask_touched-requires-clause-can c = record {
  sound = c.begin.ensures.begun.whole.sound;
  stay = c.begin.ensures.begun.stay;
  empty = c.begin.ensures.begun.empty;
  placed = c.begin.ensures.begun.whole.indexed.placed;
  timed = λ k e there apart. c.begin.ensures.begun.whole.indexed.timed k e there;
}

pub ask_touched-requires-clause-brings : goal.ask_touched-requires-clause-brings
ask_touched-requires-clause-brings c = observation-brings c.args.path c.args.obs c.begin.new.self.reading

done : (c : goal.After-ask_touched) (s : State) → KeepsState (seen_table c.args.self.now) s →
    IsDone s (Observation c.args.path.now c.args.obs) (seen_table c.ask_touched.new.self) (plain_outcome (Ok tt) (seen_table c.ask_touched.new.self))
done c s keeps =
    let path = c.args.path in
    let obs = c.args.obs in
    let begun = c.begin.new.self in
    let after = c.ask_touched.new.self in
    let start = alike-state c.args.self.now begun s c.begin.ensures.alike keeps c.begin.ensures.rows in
    let jobs = own-jobs begun s start in
    let item = observation_of path.now (Saw path.now obs) in
    let for = observations begun.reading path obs (rows begun.job_slots.items) s.jobs jobs in
    let same = head c.args.self.now begun s c.begin.ensures.alike keeps in
    let rests = rest-each (reaches (affected.Observation path obs)) 0 (rows begun.job_slots.items) s.jobs keeps.rests in
    accepted (seen_table c.args.self.now) (seen_table after) s (Observation path.now obs) [] c.requires.sound.in_range keeps refl
    (with_orders-so begun after (taken s (Observation path.now obs)) c.ask_touched.ensures.alike
    (record { reading = same.reading; zone = same.zone; settings = same.settings; shutdown = same.shutdown })
    (c.ask_touched.ensures.kept s.jobs item for (observations-fine begun.reading path.now obs) rests jobs)
    (c.ask_touched.ensures.orders s.jobs item for (observations-fine begun.reading path.now obs) rests jobs)) refl

pub returns-clause-goes : goal.returns-clause-goes
returns-clause-goes c = record {
  answer = λ s keeps. (done c s keeps).outcome;
  kept = λ s keeps. (done c s keeps).kept;
  counted = subst (λ rs. IsCounted (counts rs) (rows c.ask_touched.new.self.job_slots.items) (gone c.ask_touched.new.self.job_slots.items) c.ask_touched.new.self.visited) c.begin.ensures.rows c.ask_touched.ensures.counted;
  spared = λ s keeps label past found apart.
      let begun = c.begin.new.self in
      let start = alike-state c.args.self.now begun s c.begin.ensures.alike keeps c.begin.ensures.rows in
      unlisted-spared c.args.path c.args.obs begun c.ask_touched.new.self s label past (own-jobs begun s start) c.begin.ensures.begun.stay c.begin.ensures.begun.whole.sound.once c.ask_touched.ensures.spared found apart
      ∙ ap (λ rs. count_in (counts rs) label) c.begin.ensures.rows;
  names = c.ask_touched.ensures.names ∙ c.begin.ensures.names;
  room = same-room c.begin.ensures.room c.ask_touched.ensures.room;
}
