-- One more slot is written.
use Rattle.std.proofs.Common.{◌++◌, ◌<◌, length, ap, ◌∙◌, arith}
use Rattle.std.specs.String.{string_bytes}
use Rattle.history_model.specs.Shown.{shown_of}
use Rattle.history_model.specs.Texts.{line_text}
use Rattle.loaded_jobs.proofs.ShownTextLemmas.{listed-step}
use Rattle.loaded_jobs.proofs.questions.list.Goals as goal

pub loop-job_slot-preserved : goal.loop-job_slot-preserved
loop-job_slot-preserved c = λ at jobs keeps.
    let job_slots = c.args.job_slots.now in
    let i = c.loop-job_slot.job_slot-index in
    let within : i < length job_slots = omega arith in
    let e = c.job_slot-item.result in
    listed-step at job_slots i e (string_bytes c.loop-job_slot.text) (string_bytes c.add_line.new.text) _ within c.job_slot-item.is c.in_ok-add_line.ensures.going
    (λ job stays this. c.in_ok-add_line.ensures.shown job.past stays this.keeps
    ∙ ap (λ l. string_bytes c.loop-job_slot.text ++ line_text (shown_of job.past) l) this.label)
    (c.loop-job_slot.invariant at jobs keeps)
