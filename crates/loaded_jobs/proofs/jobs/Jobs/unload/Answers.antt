-- The unload goes to the job with the label.
use Rattle.std.proofs.Common.{Bool, false, refl, ap, sym, ◌∙◌}
use Rattle.std.specs.List.{position}
use Rattle.history_model.specs.declared.Ask.TheVariants.{Unload}
use Rattle.history_model.specs.declared.Refusal.TheVariants.{BadRequest}
use Rattle.history_model.specs.Items.{Asked}
use Rattle.history_model.specs.Machine.{State, UnloadJob}
use Rattle.history_model.specs.Labels.{is_label}
use Rattle.loaded_jobs.specs.StandsFor.{KeepsState}
use Rattle.loaded_jobs.specs.Counts.{counts, count_in}
use Rattle.loaded_jobs.specs.JobSlots.{has_label}
use Rattle.loaded_jobs.specs.TableOutcomes.{plain_outcome}
use Rattle.loaded_jobs.specs.Sound.{seen_table}
use Rattle.loaded_jobs.specs.Telling.{IsTold}
use Rattle.loaded_jobs.proofs.EventsLemmas.{unstored}
use Rattle.loaded_jobs.proofs.OutcomesLemmas.{IsDone}
use Rattle.loaded_jobs.proofs.TellingLemmas.{told-done, counts-from, names-from, same-room, place-inside}
use Rattle.loaded_jobs.proofs.jobs.Jobs.unload.Goals as goal

told : (c : goal.After-tell) → IsTold c.args.label.now (Asked Unload) (seen_table c.begin.new.self) c.tell.result (seen_table c.tell.new.self)
told c = c.tell.ensures.told c.args.label.now (c.place_of-found.ensures ∙ ap (position (has_label c.args.label.now)) c.deref.ensures.value)

done : (c : goal.After-tell) (store : Bool) (s : State) → KeepsState (seen_table c.args.self.now) s →
    IsDone s (UnloadJob c.args.label.now false store) (seen_table c.tell.new.self) (plain_outcome c.tell.result (seen_table c.tell.new.self))
done c store s keeps =
    let label = c.args.label.now in
    told-done c.args.self.now c.begin.new.self c.tell.new.self s (UnloadJob label false store) label (Asked Unload) c.tell.result c.begin.ensures.alike c.begin.ensures.rows c.tell.ensures.alike
    c.requires.sound.in_range (told c) refl (unstored (is_label label) BadRequest _ (sym c.is_label.ensures ∙ c.if-not-is_label.false)) refl keeps

pub tell-requires-clause-inside : goal.tell-requires-clause-inside
tell-requires-clause-inside c =
    place-inside (has_label c.args.label.now) c.begin.new.self.job_slots.items c.place_of-found.result (c.place_of-found.ensures ∙ ap (position (has_label c.args.label.now)) c.deref.ensures.value)

pub returns-clause-goes : goal.returns-clause-goes
returns-clause-goes c = record {
  answer = λ store s keeps. (done c store s keeps).outcome;
  kept = λ store s keeps. (done c store s keeps).kept;
  counted = counts-from c.tell.result (seen_table c.args.self.now) (seen_table c.begin.new.self) (seen_table c.tell.new.self) c.begin.ensures.rows c.tell.ensures.counted;
  spared = λ s keeps label past found apart. (told c).spared label apart ∙ ap (λ rs. count_in (counts rs) label) c.begin.ensures.rows;
  names = names-from c.tell.result (seen_table c.args.self.now) (seen_table c.begin.new.self) (seen_table c.tell.new.self) c.begin.ensures.rows c.tell.ensures.names;
  room = same-room c.begin.ensures.room c.tell.ensures.room;
}
