-- Worked examples of what a launcher need not hear, and of what it has to (launchd.plist(5): StartInterval, ThrottleInterval,
-- StartCalendarInterval, QueueDirectories). Each is a theorem that computes.
use Rattle.std.proofs.Common.{◌≡◌, inr, ℕ, true, false, List, [], ◌∷◌, Some, None, refl, arith}
use Rattle.history_model.specs.declared.Obs.{Obs}
use Rattle.history_model.specs.declared.Ended.TheVariants.{Code}
use Rattle.history_model.specs.declared.Act.TheVariants.{Spawn}
use Rattle.history_model.specs.declared.Refusal.TheVariants.{ClockRefused}
use Rattle.history_model.specs.Items.{Definition}
use Rattle.history_model.specs.Clock.{no_definition}
use Rattle.history_model.specs.Machine.{Event, Observation}
use Rattle.history_model.specs.News.{may_change}
use Rattle.history_model.specs.Step.{outcomes, run}
use Rattle.history_model.specs.LeftOut.{Line, Delivered, LeftOut, delivered, outcomes_handed, outcomes_left, MayBeLeftOut}
use Rattle.history_model.proofs.ExampleWords.{start, read_at, read, load, spawned, ended, a, none, gives, refuses}

-- a queue directory
abbrev pub q : List ℕ
q = 1 ∷ []

-- it is seen, empty or not
abbrev pub seen : Obs → Event
seen obs = Observation q obs

abbrev pub empty : Obs
empty = record { present = true; nonempty_dir = false; stamp = 5 }

abbrev pub filled : Obs
filled = record { present = true; nonempty_dir = true; stamp = 6 }

-- a job with a queue directory and an interval of 30 seconds, at most once in 10 seconds
abbrev pub worker : Definition
worker = record no_definition { queue_directories = q ∷ []; start_interval = Some 30 }

-- it starts at its interval, and again once its directory is filled
abbrev pub lines : List Line
lines =
    Delivered (load a worker) ∷ LeftOut (read 1000) ∷ Delivered (read 2000) ∷ Delivered (seen empty) ∷ LeftOut (read 29999) ∷ LeftOut (seen empty)
    ∷ Delivered (read 30000) ∷ Delivered (spawned a 1 7) ∷ LeftOut (read 30500) ∷ Delivered (read 31000) ∷ Delivered (ended a 1 (Code 0))
    ∷ Delivered (seen filled) ∷ LeftOut (read 39999) ∷ LeftOut (seen filled) ∷ Delivered (read 40000) ∷ []

-- what is left out may be
pub may_lack_them : MayBeLeftOut (read_at 0) start lines
may_lack_them = (
  refl,
  (
    refl,
    (
      inr (omega arith),
      (
        refl,
        (
          refl,
          (
            (λ listed. refl, tt),
            (
              inr (omega arith),
              (
                refl,
                (
                  refl,
                  (
                    inr (omega arith),
                    (
                      refl,
                      (refl, (refl, ((λ listed. refl, tt), (inr (omega arith), tt)))),
                    ),
                  ),
                ),
              ),
            ),
          ),
        ),
      ),
    ),
  ),
)

-- so the launcher gives what it gives if it hears all
pub it_gives : outcomes (delivered lines) start
    ≡ none ∷ none ∷ none ∷ gives ((a, Spawn 1 None) ∷ []) ∷ none ∷ none ∷ none ∷ none ∷ gives ((a, Spawn 2 None) ∷ []) ∷ []
it_gives = refl

pub with_all_it_gives : outcomes_handed lines start
    ≡ none ∷ none ∷ none ∷ gives ((a, Spawn 1 None) ∷ []) ∷ none ∷ none ∷ none ∷ none ∷ gives ((a, Spawn 2 None) ∷ []) ∷ []
with_all_it_gives = refl

pub and_nothing_at_the_others : outcomes_left lines start ≡ none ∷ none ∷ none ∷ none ∷ none ∷ none ∷ []
and_nothing_at_the_others = refl

-- ---- what is news

-- a clock reading that reaches the end of the interval, and one that comes a millisecond before
pub an_interval_is_news : may_change (run (load a worker ∷ []) start).jobs (read_at 0) (read_at 30000) ≡ true
an_interval_is_news = refl

pub before_it_is_none : may_change (run (load a worker ∷ []) start).jobs (read_at 0) (read_at 29999) ≡ false
before_it_is_none = refl

-- a minute of the civil clock, for a job with a calendar alone. The scene begins 20 seconds after a minute
pub a_minute_is_news : may_change (run (load a (record no_definition { calendar = record { minute = Some 0; hour = None; day = None; weekday = None; month = None } ∷ [] }) ∷ []) start).jobs (read_at 0) (read_at 40000) ≡ true
a_minute_is_news = refl

pub within_it_is_none : may_change (run (load a (record no_definition { calendar = record { minute = Some 0; hour = None; day = None; weekday = None; month = None } ∷ [] }) ∷ []) start).jobs (read_at 0) (read_at 39999) ≡ false
within_it_is_none = refl

pub a_minute_of_no_calendar_is_none : may_change (run (load a no_definition ∷ []) start).jobs (read_at 0) (read_at 40000) ≡ false
a_minute_of_no_calendar_is_none = refl

-- ---- what has to be heard

-- a job that is kept alive, and ends at once
abbrev pub kept : Definition
kept = record no_definition { keep_alive = true }

-- a clock reading that changes nothing still has to be received before an exit: else the next throttle begins too early
pub with_the_reading : outcomes (load a kept ∷ spawned a 1 7 ∷ read 10000 ∷ read 20000 ∷ ended a 1 (Code 0) ∷ spawned a 2 8 ∷ ended a 2 (Code 0) ∷ read 25000 ∷ []) start
    ≡ gives ((a, Spawn 1 None) ∷ []) ∷ none ∷ none ∷ none ∷ gives ((a, Spawn 2 None) ∷ []) ∷ none ∷ none ∷ none ∷ []
with_the_reading = refl

pub without_it : outcomes (load a kept ∷ spawned a 1 7 ∷ read 10000 ∷ ended a 1 (Code 0) ∷ spawned a 2 8 ∷ ended a 2 (Code 0) ∷ read 25000 ∷ []) start
    ≡ gives ((a, Spawn 1 None) ∷ []) ∷ none ∷ none ∷ gives ((a, Spawn 2 None) ∷ []) ∷ none ∷ none ∷ gives ((a, Spawn 3 None) ∷ []) ∷ []
without_it = refl

-- and one that comes too early after one that was left out is refused only if all are heard
pub all_received : outcomes (read 2000 ∷ read 1000 ∷ []) start ≡ none ∷ refuses ClockRefused ∷ []
all_received = refl

pub one_received : outcomes (read 1000 ∷ []) start ≡ none ∷ []
one_received = refl
