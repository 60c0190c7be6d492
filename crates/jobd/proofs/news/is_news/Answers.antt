-- The answers to the goals of `news::is_news`.
use Rattle.std.proofs.Common.{◌≡◌}
use Rattle.std.specs.List.{list_any}
use Rattle.history_model.specs.Moments.{next_moment}
use Rattle.history_model.specs.News.{have_calendars}
use Rattle.history_model.specs.News.{is_moment_reached as has_come}
use Rattle.jobd.proofs.news.is_news.Goals as goal

pub returns : goal.returns
returns c = λ s keeps.
    let due : c.is_reached-is_due.result ≡ list_any (λ job. has_come c.args.at.up (next_moment job.past)) s.jobs = c.is_reached-is_due.ensures s.jobs (c.next_up.ensures s keeps) in
    let calendars : c.has_calendars-has_calendars.result ≡ have_calendars s.jobs = c.has_calendars-has_calendars.ensures.jobs s keeps in
    cc
