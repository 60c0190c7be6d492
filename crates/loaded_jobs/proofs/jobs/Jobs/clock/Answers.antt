-- What the clock reading does is said of the table before the event, of which the beginning changes no row.
use Rattle.std.proofs.Common.{ap, subst, ◌∙◌}
use Rattle.loaded_jobs.specs.Counts.{counts, count_in, IsCounted}
use Rattle.loaded_jobs.specs.Numbers.{row_names}
use Rattle.loaded_jobs.specs.JobSlots.{rows, gone}
use Rattle.loaded_jobs.proofs.EventsLemmas.{alike-state}
use Rattle.loaded_jobs.proofs.TellingLemmas.{same-room}
use Rattle.loaded_jobs.proofs.jobs.Jobs.clock.Goals as goal

pub returns-clause-goes : goal.returns-clause-goes
returns-clause-goes c =
    let begun = c.begin.new.self in
    let after = c.advance-self.new.self in
    record {
      answer = λ s keeps. c.advance-self.ensures.answer s (alike-state c.args.self.now begun s c.begin.ensures.alike keeps c.begin.ensures.rows);
      kept = λ s keeps. c.advance-self.ensures.kept s (alike-state c.args.self.now begun s c.begin.ensures.alike keeps c.begin.ensures.rows);
      counted = subst (λ rs. IsCounted (counts rs) (rows after.job_slots.items) (gone after.job_slots.items) after.visited) c.begin.ensures.rows c.advance-self.ensures.counted;
      spared = λ s keeps label past there untouched.
          c.advance-self.ensures.spared s (alike-state c.args.self.now begun s c.begin.ensures.alike keeps c.begin.ensures.rows) label past there untouched
          ∙ ap (λ rs. count_in (counts rs) label) c.begin.ensures.rows;
      names = c.advance-self.ensures.names ∙ ap row_names c.begin.ensures.rows;
      room = same-room c.begin.ensures.room c.advance-self.ensures.room;
    }
