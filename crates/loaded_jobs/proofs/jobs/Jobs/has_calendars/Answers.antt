-- The rows are those of the jobs that are not gone, and their calendars those of the machine's jobs.
use Rattle.std.proofs.Common.{◌≡◌, not, ◌&&◌, ap, sym, subst, ◌∙◌}
use Rattle.std.specs.List.{list_any}
use Rattle.history_model.specs.News.{is_some_entry}
use Rattle.loaded_jobs.specs.Leaving.{StayBut}
use Rattle.loaded_jobs.specs.Minutes.{has_calendars}
use Rattle.loaded_jobs.specs.JobSlots.{rows}
use Rattle.loaded_jobs.proofs.LeastMomentLemmas.{calendars-rows, calendars-jobs}
use Rattle.loaded_jobs.proofs.EventsLemmas.{calendars-rows as stay-rows, calendars-names}
use Rattle.loaded_jobs.proofs.jobs.Jobs.has_calendars.Goals as goal

by-flag : (c : goal.In-Nobody) → c.args.self.now.has_calendars ≡ has_calendars (rows c.args.self.now.job_slots.items)
by-flag c =
    let es = c.args.self.now.job_slots.items in
    c.requires.sound.calendars ∙ sym (stay-rows es (subst (λ g. StayBut g es) c.in-Nobody.is c.requires.stay) ∙ calendars-names es)

pub returns-in-Nobody-clause-rows : goal.returns-in-Nobody-clause-rows
returns-in-Nobody-clause-rows c = by-flag c

pub returns-in-Nobody-clause-jobs : goal.returns-in-Nobody-clause-jobs
returns-in-Nobody-clause-jobs c = λ s keeps. by-flag c ∙ calendars-jobs s.reading (rows c.args.self.now.job_slots.items) s.jobs keeps.jobs

pub returns-in_default-clause-rows : goal.returns-in_default-clause-rows
returns-in_default-clause-rows c =
    c.is_some_with_calendar.ensures
    ∙ ap (list_any (λ e. not e.has_gone && is_some_entry e.def.calendar)) c.deref.ensures.value
    ∙ calendars-rows c.args.self.now.job_slots.items

pub returns-in_default-clause-jobs : goal.returns-in_default-clause-jobs
returns-in_default-clause-jobs c = λ s keeps. returns-in_default-clause-rows c ∙ calendars-jobs s.reading (rows c.args.self.now.job_slots.items) s.jobs keeps.jobs
