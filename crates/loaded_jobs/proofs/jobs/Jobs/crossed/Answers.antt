-- The rows of a table whose jobs all stay have calendar entries if its entries do.
use Rattle.std.proofs.Common.{◌≡◌, true, false, refl, sym, ◌∙◌}
use Rattle.loaded_jobs.proofs.EventsLemmas.{calendars-rows, calendars-names}
use Rattle.loaded_jobs.proofs.jobs.Jobs.crossed.Goals as goal

pub returns-then-not-self-clause-minutes : goal.returns-then-not-self-clause-minutes
returns-then-not-self-clause-minutes c = λ some.
    let es = c.args.self.now.job_slots.items in
    let all = calendars-rows es c.requires.begun.stay ∙ calendars-names es ∙ sym c.requires.begun.whole.sound.calendars in
    let clash : true ≡ false = sym some ∙ all ∙ c.if-not-self.true in absurd (cc clash)

pub returns-in-Err-clause-memory : goal.returns-in-Err-clause-memory
returns-in-Err-clause-memory c =
    let es = c.args.self.now.job_slots.items in
    (refl, calendars-rows es c.requires.begun.stay ∙ calendars-names es ∙ sym c.requires.begun.whole.sound.calendars ∙ c.if-not-self.false)
