-- What a launcher need not receive: clock readings and observations that change nothing (launchd.plist(5): StartInterval,
-- StartCalendarInterval, ThrottleInterval, ExitTimeOut; WatchPaths, QueueDirectories, and KeepAlive with PathState).
use Rattle.std.specs.Prelude.{◌≡◌, ◌⊎◌, ℕ, ◌≤◌, Bool, true, false, List, [], ◌∷◌, Some, if◌then◌else◌, ⊤}
use Rattle.std.specs.List.{AllByRecursion}
use Rattle.history_model.specs.declared.Reading.{Reading}
use Rattle.history_model.specs.declared.Obs.{Obs}
use Rattle.history_model.specs.Clock.{definition_of}
use Rattle.history_model.specs.Demands.{is_same_path, last_seen}
use Rattle.history_model.specs.Refusals.{is_clock_refused}
use Rattle.history_model.specs.News.{may_change}
use Rattle.history_model.specs.Machine.{Job, State, Event, Load, Tick, Observation}
use Rattle.history_model.specs.Step.{Outcome, lists, outcome, step}

-- an event, and whether the launcher hears of it
pub data Line : Type 0 where
  Delivered : (event : Event) → Line
  LeftOut : (event : Event) → Line

-- all that happens
abbrev pub all_of : List Line → List Event
all_of [] = []
all_of (Delivered e ∷ lines) = e ∷ all_of lines
all_of (LeftOut e ∷ lines) = e ∷ all_of lines

-- what the launcher hears
abbrev pub delivered : List Line → List Event
delivered [] = []
delivered (Delivered e ∷ lines) = e ∷ delivered lines
delivered (LeftOut e ∷ lines) = delivered lines

-- each job that lists the path saw it so last
abbrev pub HaveSeen : List ℕ → Obs → List Job → Type 0
HaveSeen path obs jobs =
    AllByRecursion (λ job. lists (definition_of job.past) path ≡ true →
    last_seen path job.past ≡ Some obs) jobs

-- a clock reading or an observation that changes nothing
abbrev pub IsQuiet : State → Event → Type 0
IsQuiet s (Tick at) = may_change s.jobs s.reading at ≡ false
IsQuiet s (Observation path obs) = HaveSeen path obs s.jobs
IsQuiet s _ = ⊥

-- the last clock reading that was accepted, received or not, once this event came too
abbrev pub last_read : Reading → Event → Reading
last_read last (Tick at) = if is_clock_refused last at then last else at
last_read last _ = last

-- and once all of these came
abbrev pub last_read_in : Reading → List Event → Reading
last_read_in last [] = last
last_read_in last (e ∷ es) = last_read_in (last_read last e) es

-- the launcher is at the last clock reading; or the event is itself a clock reading, and not before it
abbrev pub IsInTime : Reading → State → Event → Type 0
IsInTime last s (Tick at) = (s.reading ≡ last) ⊎ (last.up ≤ at.up)
IsInTime last s e = s.reading ≡ last

-- Of these lines those that are left out may be: each is quiet, and each other line comes in time. `s` is the launcher that
-- receives the others alone, `last` the last clock reading of all.
abbrev pub MayBeLeftOut : Reading → State → List Line → Type 0
MayBeLeftOut last s [] = ⊤
MayBeLeftOut last s (Delivered e ∷ lines) =
    IsInTime last s e × MayBeLeftOut (last_read last e) (step s e) lines
MayBeLeftOut last s (LeftOut e ∷ lines) =
    IsQuiet s e × MayBeLeftOut (last_read last e) s lines

-- of a launcher that receives all: its outcomes of the lines that are not left out
abbrev pub outcomes_handed : List Line → State → List Outcome
outcomes_handed [] s = []
outcomes_handed (Delivered e ∷ lines) s = outcome s e ∷ outcomes_handed lines (step s e)
outcomes_handed (LeftOut e ∷ lines) s = outcomes_handed lines (step s e)

-- and of those that are left out
abbrev pub outcomes_left : List Line → State → List Outcome
outcomes_left [] s = []
outcomes_left (Delivered e ∷ lines) s = outcomes_left lines (step s e)
outcomes_left (LeftOut e ∷ lines) s = outcome s e ∷ outcomes_left lines (step s e)

-- the event is a load
abbrev pub is_load : Event → Bool
is_load (Load given writes_setting force bind store) = true
is_load _ = false

-- the event is a look at the path
abbrev pub is_look_at : List ℕ → Event → Bool
is_look_at path (Observation other obs) = is_same_path path other
is_look_at path _ = false
