-- Worked examples of clock readings and moments (launchd.plist(5): StartInterval, ThrottleInterval, ExitTimeOut,
-- StartCalendarInterval). Each is a theorem that computes.
use Rattle.std.specs.Prelude.{◌≡◌, ℕ, Bool, true, false, List, [], ◌∷◌, map, Some, None, refl, unwrap_or}
use Rattle.history_model.specs.declared.Entry.{Entry}
use Rattle.history_model.specs.declared.Ended.TheVariants.{Code}
use Rattle.history_model.specs.declared.Act.TheVariants.{Spawn}
use Rattle.history_model.specs.declared.Ask.TheVariants.{Stop, Kickstart}
use Rattle.history_model.specs.declared.Answer.TheVariants.{Killed}
use Rattle.history_model.specs.declared.Refusal.TheVariants.{ClockRefused}
use Rattle.history_model.specs.Items.{Definition, History, Loaded, Read, Answered}
use Rattle.history_model.specs.Clock.{no_definition}
use Rattle.history_model.specs.Machine.{Event, Tick, OfJob, past_of}
use Rattle.history_model.specs.Moments.{timeouts, next_moment, touches}
use Rattle.history_model.specs.Step.{run, outcomes}
use Rattle.history_model.proofs.ThrottleExamples as rows
use Rattle.history_model.proofs.ExampleWords.{utc_that_day, read_at, start, read, load, ask, spawned, termed, ended, a, at_load, none, refuses}

-- ---- clock readings

-- the greatest reading is accepted; past it, in either of the two, none is
pub greatest_reading : outcomes (
    Tick (record { up = 9000000000000001; wall = 0 }) ∷ Tick (record { up = 0; wall = 250000000001 }) ∷ Tick (record { up = 9000000000000000; wall = 250000000000 })
    ∷ Tick (record { up = 8999999999999999; wall = 250000000000 }) ∷ Tick (record { up = 9000000000000000; wall = 0 }) ∷ []
    ) start
    ≡ refuses ClockRefused ∷ refuses ClockRefused ∷ none ∷ refuses ClockRefused ∷ none ∷ []
greatest_reading = refl

-- so it is for one job
pub greatest_reading_of_a_job : rows.play (
    rows.load no_definition ∷ Read (record { up = 9000000000000001; wall = 0 }) false ∷ Read (record { up = 0; wall = 250000000001 }) false
    ∷ Read (record { up = 9000000000000000; wall = 250000000000 }) false ∷ Read (record { up = 8999999999999999; wall = 0 }) false ∷ []
    )
    ≡ rows.none ∷ rows.refused ClockRefused ∷ rows.refused ClockRefused ∷ rows.none ∷ rows.refused ClockRefused ∷ []
greatest_reading_of_a_job = refl

-- ---- intervals

-- an interval counts from the load
pub counted_from_the_load : rows.play (Loaded (record no_definition { start_interval = Some 60 }) (rows.at 30000) ∷ rows.read 60000 ∷ rows.read 89999 ∷ rows.read 90000 ∷ [])
    ≡ rows.none ∷ rows.none ∷ rows.none ∷ rows.gives (Spawn 1 None) ∷ []
counted_from_the_load = refl

-- a clock reading that a calendar fires starts the job
pub fired_by_a_calendar : rows.play (rows.load no_definition ∷ Read (rows.at 5) false ∷ Read (rows.at 6) true ∷ []) ≡ rows.none ∷ rows.none ∷ rows.gives (Spawn 1 None) ∷ []
fired_by_a_calendar = refl

-- ---- the next moment

-- the past of job `a` after these events
abbrev pub past_after : List Event → History
past_after es = unwrap_or (past_of (run es start) a) []

-- a job whose spawn was ordered at 0, with an interval of a minute
abbrev pub minutely : Definition
minutely = record at_load { start_interval = Some 60 }

-- none; the interval's; the throttle's, which is sooner; the interval's next one, once that is over
pub next_ones : next_moment (past_after (load a no_definition ∷ [])) ∷ next_moment (past_after (load a (record no_definition { start_interval = Some 60 }) ∷ []))
    ∷ next_moment (past_after (load a minutely ∷ [])) ∷ next_moment (past_after (load a minutely ∷ read 10000 ∷ [])) ∷ next_moment (past_after (load a minutely ∷ read 60000 ∷ []))
    ∷ []
    ≡ None ∷ Some 60000 ∷ Some 10000 ∷ Some 60000 ∷ Some 120000 ∷ []
next_ones = refl

-- a job without a throttle, which is stopped at 1000 with a timeout of 20 seconds
abbrev pub stopped_at_1000 : List Event
stopped_at_1000 = load a (record at_load { throttle_interval = 0 }) ∷ spawned a 1 7 ∷ read 1000 ∷ ask a Stop ∷ []

-- the timeout after TERM; then nothing, also if the KILL is still awaited
pub next_of_the_end : next_moment (past_after stopped_at_1000)
    ∷ next_moment (past_after (load a (record at_load { throttle_interval = 0 }) ∷ spawned a 1 7 ∷ read 1000 ∷ ask a Stop ∷ termed a 1 ∷ read 21000 ∷ []))
    ∷ next_moment (past_after (load a (record at_load { throttle_interval = 0; exit_timeout = 0 }) ∷ spawned a 1 7 ∷ read 1000 ∷ ask a Stop ∷ [])) ∷ []
    ≡ Some 21000 ∷ None ∷ None ∷ []
next_of_the_end = refl

-- a second after a refused KILL; nothing of a run that has ended
pub next_of_a_refused_kill : next_moment (past_after (load a (record at_load { throttle_interval = 0 }) ∷ spawned a 1 7 ∷ ask a (Kickstart true) ∷ OfJob a (Answered (Killed 1 false)) ∷ []))
    ∷ next_moment (past_after (load a (record at_load { throttle_interval = 0 }) ∷ spawned a 1 7 ∷ read 1000 ∷ ask a Stop ∷ ended a 1 (Code 0) ∷ [])) ∷ []
    ≡ Some 1000 ∷ None ∷ []
next_of_a_refused_kill = refl

-- ---- what a clock reading touches

-- whether clock readings at these moments touch the past
abbrev pub touched : History → List ℕ → List Bool
touched past ups = map (λ up. touches utc_that_day (read_at up) past) ups

-- the throttle of a spawn that was ordered at 0: it is over at 10,000, and touched by the clock reading that reaches it alone
pub touched_by_the_throttle : touched (past_after (load a at_load ∷ [])) (9999 ∷ 10000 ∷ 20000 ∷ []) ≡ false ∷ true ∷ true ∷ []
touched_by_the_throttle = refl

pub untouched_later : touched (past_after (load a at_load ∷ read 10000 ∷ [])) (10000 ∷ 20000 ∷ []) ≡ false ∷ false ∷ []
untouched_later = refl

-- an interval
pub touched_by_an_interval : touched (past_after (load a (record no_definition { start_interval = Some 60 }) ∷ [])) (59999 ∷ 60000 ∷ []) ≡ false ∷ true ∷ []
touched_by_an_interval = refl

-- a calendar: 22:14 is reached after 40 seconds; of an entry the minute alone counts
abbrev pub with_entry : Entry → History
with_entry entry = past_after (load a (record no_definition { calendar = entry ∷ [] }) ∷ [])

pub touched_by_a_calendar : touched (with_entry (record { minute = Some 14; hour = Some 3; day = None; weekday = None; month = None })) (39999 ∷ 40000 ∷ [])
    ≡ false ∷ true ∷ []
touched_by_a_calendar = refl

pub untouched_by_another_minute : touched (with_entry (record { minute = Some 16; hour = None; day = None; weekday = None; month = None })) (100000 ∷ 160000 ∷ [])
    ≡ false ∷ true ∷ []
untouched_by_another_minute = refl

pub touched_by_any_minute : touched (with_entry (record { minute = None; hour = Some 3; day = None; weekday = None; month = None })) (39999 ∷ 40000 ∷ [])
    ≡ false ∷ true ∷ []
touched_by_any_minute = refl

-- a timeout of 0 makes no moment
pub no_timeout : timeouts 0 (Some 5) ∷ timeouts 1 (Some 5) ∷ timeouts 1 None ∷ [] ≡ [] ∷ (1005 ∷ []) ∷ [] ∷ []
no_timeout = refl
