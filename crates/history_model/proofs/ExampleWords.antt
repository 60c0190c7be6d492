-- Definitions that the worked examples of the whole machine use: clock readings, events, jobs and outcomes.
use Rattle.std.specs.Prelude.{ℕ, zero, suc, ◌+◌, ◌/◌, ◌%◌, pos, Bool, true, false, List, [], ◌∷◌, None, Ok, codes}
use Rattle.history_model.specs.declared.Reading.{Reading}
use Rattle.history_model.specs.declared.CivilMinute.{CivilMinute}
use Rattle.history_model.specs.declared.Ended.{Ended}
use Rattle.history_model.specs.declared.Act.{Act}
use Rattle.history_model.specs.declared.Ask.{Ask}
use Rattle.history_model.specs.declared.Answer.TheVariants.{Spawned, SpawnRefused, Termed, Killed}
use Rattle.history_model.specs.declared.event.Setting.{Setting}
use Rattle.history_model.specs.declared.Refusal.{Refusal}
use Rattle.history_model.specs.Items.{Definition, Asked, Came, Answered, RunEnded}
use Rattle.history_model.specs.Clock.{no_definition}
use Rattle.history_model.specs.Labels.{Label}
use Rattle.history_model.specs.Machine.{State, Event, Load, Tick, OfJob, opened}
use Rattle.history_model.specs.Step.{Outcome, refused}

-- ---- the opening

-- Universal Time in the second half of November 2023; its 14th day is a Tuesday
abbrev pub utc_that_day : ℕ → CivilMinute
utc_that_day m = record {
  year = pos 2023;
  month = 11;
  day = m / 86400 % 19661;
  hour = m / 3600 % 24;
  minute = m / 60 % 60;
  weekday = (m / 86400 + 4) % 7;
}

-- a clock reading, this number of milliseconds after Tuesday 14 November 2023, 22:13:20
abbrev pub read_at : ℕ → Reading
read_at up = record { up = up; wall = 1700000000 + up / 1000 }

-- the machine, opened with these settings
abbrev pub start_with : List Setting → State
start_with overrides = opened (record { reading = read_at 0; zone = utc_that_day; overrides = overrides })

-- the machine, opened without settings
abbrev pub start : State
start = start_with []

-- ---- events

-- the clock is read
abbrev pub read : ℕ → Event
read up = Tick (read_at up)

-- a load with the options -w and -F and the outside's answers
abbrev pub load_as : Bool → Bool → Bool → Bool → Label → Definition → Event
load_as writes_setting force bind store label d = Load (Ok (record { label = label; definition = d; ignored = [] })) writes_setting force bind store

-- a load without options
abbrev pub load : Label → Definition → Event
load label d = load_as false false true true label d

-- a client asks something of the job
abbrev pub ask : Label → Ask → Event
ask label what = OfJob label (Asked what)

-- the run's spawn succeeds
abbrev pub spawned : Label → ℕ → ℕ → Event
spawned label run pid = OfJob label (Answered (Spawned run pid))

-- the run's spawn is refused
abbrev pub spawn_refused : Label → ℕ → Event
spawn_refused label run = OfJob label (Answered (SpawnRefused run))

-- the TERM for the run succeeds
abbrev pub termed : Label → ℕ → Event
termed label run = OfJob label (Answered (Termed run true))

-- the KILL for the run succeeds
abbrev pub killed : Label → ℕ → Event
killed label run = OfJob label (Answered (Killed run true))

-- the run ends
abbrev pub ended : Label → ℕ → Ended → Event
ended label run how = OfJob label (RunEnded run how)

-- this number of connections come, numbered from this one on
abbrev pub cames : Label → ℕ → ℕ → List Event
cames label k zero = []
cames label k (suc n) = OfJob label (Came k) ∷ cames label (k + 1) n

-- ---- labels and definitions

-- three labels, in byte order
abbrev pub a : Label
a = codes "a"

-- the second
abbrev pub b : Label
b = codes "b"

-- the third, for a job with a socket
abbrev pub s : Label
s = codes "s"

-- a job that starts when it is loaded
abbrev pub at_load : Definition
at_load = record no_definition { run_at_load = true }

-- a job with a socket
abbrev pub socket_job : Definition
socket_job = record no_definition { has_sockets = true }

-- ---- outcomes

-- accepted, and nothing is ordered
abbrev pub none : Outcome
none = record { refusal = None; orders = []; text = [] }

-- accepted with these orders
abbrev pub gives : List (Label × Act) → Outcome
gives orders = record { refusal = None; orders = orders; text = [] }

-- accepted with this text
abbrev pub says : List ℕ → Outcome
says text = record { refusal = None; orders = []; text = text }

-- refused
abbrev pub refuses : Refusal → Outcome
refuses refusal = refused refusal
