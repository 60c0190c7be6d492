-- The answer goes to the job with the number, which is the job with the number's label.
use Rattle.std.proofs.Common.{◌≡◌, true, map, refl, ap, sym, subst, ◌∙◌}
use Rattle.std.specs.List.{position}
use Rattle.history_model.specs.declared.Refusal.TheVariants.{BadRequest}
use Rattle.history_model.specs.Items.{Answered}
use Rattle.history_model.specs.Machine.{State, OfJob}
use Rattle.history_model.specs.Labels.{Label, is_label}
use Rattle.history_model.specs.Acceptance.{is_received}
use Rattle.loaded_jobs.specs.Tables.{label_of}
use Rattle.loaded_jobs.specs.StandsFor.{KeepsState}
use Rattle.loaded_jobs.specs.Counts.{counts, count_in}
use Rattle.loaded_jobs.specs.JobSlots.{name, has_number}
use Rattle.loaded_jobs.specs.Index.{ArePlaced}
use Rattle.loaded_jobs.specs.TableOutcomes.{plain_outcome}
use Rattle.loaded_jobs.specs.Sound.{seen_table}
use Rattle.loaded_jobs.specs.Telling.{IsTold}
use Rattle.loaded_jobs.proofs.EventsLemmas.{past-refused}
use Rattle.loaded_jobs.proofs.OutcomesLemmas.{IsDone}
use Rattle.loaded_jobs.proofs.TellingLemmas.{told-done, counts-from, names-from, same-room, number-label, place-inside}
use Rattle.loaded_jobs.proofs.jobs.Jobs.receive_answer.Goals as goal

abbrev label-in : goal.After-tell → Label
label-in c = label_of (map name c.args.self.now.job_slots.items) c.args.number

known : (c : goal.After-tell) → is_label (label-in c) ≡ true
known c = ap is_label (sym c.label.ensures) ∙ sym c.is_label.ensures ∙ c.if-not-is_label.false

told : (c : goal.After-tell) → IsTold (label-in c) (Answered c.args.answer) (seen_table c.begin.new.self) c.tell.result (seen_table c.tell.new.self)
told c =
    c.tell.ensures.told (label-in c)
    (c.place_of_number-found.ensures ∙ ap (position (has_number c.args.number)) c.deref.ensures.value
    ∙ number-label c.args.self.now.job_slots.items c.begin.new.self.job_slots.items c.args.number c.requires.sound.once c.begin.ensures.names (known c))

done : (c : goal.After-tell) (s : State) → KeepsState (seen_table c.args.self.now) s →
    IsDone s (OfJob (label-in c) (Answered c.args.answer)) (seen_table c.tell.new.self) (plain_outcome c.tell.result (seen_table c.tell.new.self))
done c s keeps =
    let item = Answered c.args.answer in
    told-done c.args.self.now c.begin.new.self c.tell.new.self s (OfJob (label-in c) item) (label-in c) item c.tell.result c.begin.ensures.alike c.begin.ensures.rows c.tell.ensures.alike
    c.requires.sound.in_range (told c) refl (past-refused (is_label (label-in c)) (is_received item) BadRequest _ (known c) (sym c.is_received.ensures ∙ c.if-not-is_received.false)) refl keeps

pub place_of_number-found-requires : goal.place_of_number-found-requires
place_of_number-found-requires c =
    subst (λ ps. ArePlaced ps c.deref.result.now) (sym c.deref-2.ensures.value)
    (subst (ArePlaced c.begin.new.self.index.places.items) (sym c.deref.ensures.value) c.begin.ensures.begun.whole.indexed.placed)

pub tell-requires-clause-inside : goal.tell-requires-clause-inside
tell-requires-clause-inside c =
    place-inside (has_number c.args.number) c.begin.new.self.job_slots.items c.place_of_number-found.result (c.place_of_number-found.ensures ∙ ap (position (has_number c.args.number)) c.deref.ensures.value)

pub returns-clause-goes : goal.returns-clause-goes
returns-clause-goes c = record {
  answer = λ s keeps. (done c s keeps).outcome;
  kept = λ s keeps. (done c s keeps).kept;
  counted = counts-from c.tell.result (seen_table c.args.self.now) (seen_table c.begin.new.self) (seen_table c.tell.new.self) c.begin.ensures.rows c.tell.ensures.counted;
  spared = λ s keeps label past found apart. (told c).spared label apart ∙ ap (λ rs. count_in (counts rs) label) c.begin.ensures.rows;
  names = names-from c.tell.result (seen_table c.args.self.now) (seen_table c.begin.new.self) (seen_table c.tell.new.self) c.begin.ensures.rows c.tell.ensures.names;
  room = same-room c.begin.ensures.room c.tell.ensures.room;
}
