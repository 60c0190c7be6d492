-- Starts that are due at the clock reading of a pass, and the turn in which they are ordered.
use Rattle.std.specs.Prelude.{◌≡◌, ◌⊎◌, ℕ, [], Bool, ◌+◌, true, false, List, ◌∷◌, ◌++◌, map, Option, Some, None, Result, ⊤}
use Rattle.std.specs.List.{AllByRecursion, filter, flat_map}
use Rattle.history_model.specs.declared.Act.{Act}
use Rattle.history_model.specs.declared.Act.TheVariants.{Spawn}
use Rattle.history_model.specs.declared.Reading.{Reading}
use Rattle.history_model.specs.declared.event.Event as journal
use Rattle.history_model.specs.declared.event.Event.TheVariants as journaled
use Rattle.history_model.specs.Items.{Definition, History}
use Rattle.history_model.specs.Search.{first}
use Rattle.history_model.specs.Runs.{runs}
use Rattle.history_model.specs.Demands.{waiting}
use Rattle.history_model.specs.Labels.{Label}
use Rattle.history_model.specs.Clock.{definition_of}
use Rattle.history_model.specs.Machine.{State, Event, Tick, Observation, past_of}
use Rattle.history_model.specs.MachineLaws.{concerns, is_for}
use Rattle.history_model.specs.Moments.{HasPeriod}
use Rattle.history_model.specs.NextMomentByFacts.{has_come}
use Rattle.history_model.specs.Reasons.{spawns_from}
use Rattle.history_model.specs.Step.{Outcome, lists, outcomes, run}
use Rattle.job_table.specs.Taking.{machine_event}
use Rattle.loaded_jobs.specs.StandsFor.{KeepsState}
use Rattle.loaded_jobs.specs.Tables.{Table}
use Rattle.launcher.specs.HostTurns.{IsLed}
use Rattle.launcher.specs.Inputs.{happened}
use Rattle.launcher_laws.specs.TurnRuns.{Turn, Part, AreParts, AreOutcomesOf, events_in, outcomes_in}
use Rattle.history_model.specs.declared.Obs.{Obs}
use Rattle.history_model.specs.declared.event.Setting.{Setting}
use Rattle.child_edge.specs.Calls.{ToldCall}
use Rattle.child_edge.specs.declared.plain.EdgeFault.{EdgeFault}
use Rattle.outside.specs.Stores.{Stamp, StoreCall}
use Rattle.live_loop.specs.Rounds.{AreRounds, IsRound, Left}
use Rattle.jobd.specs.declared.round_launcher.RoundLauncher.{RoundLauncher}
use Rattle.round_laws.specs.Marks.{turns_in}
use Rattle.round_laws.specs.RoundMarks.{launcher, marks_of, of_missed}

-- the label's job, with this past, needs no event, and is wanted and free from a time on that the clock reading is not before
pub record IsDueAt (s : State) (label : Label) (past : History) (at : Reading) : Type 0 where
  pub loaded : past_of s label ≡ Some past
  pub period : HasPeriod past
  pub late_enough : has_come (spawns_from past) at.up ≡ true

-- The event does nothing to a job with this label and this definition but that it may read the clocks.
abbrev pub LeavesAlone : Label → Definition → Event → Type 0
LeavesAlone label d (Tick at) = ⊤
LeavesAlone label d (Observation path obs) = lists d path ≡ false
LeavesAlone label d e = concerns label e ≡ false

-- it is the start of the job's next run, with the connection that waits first
abbrev pub start_of : Label → History → Label × Act
start_of label past = (label, Spawn (runs past + 1) (first (waiting past)))

-- The turn was accepted, and its first event, by which the turn's calls begin, orders a start of the job: of its next run, with the
-- connection that waits first. It is the first that this event orders of the job.
pub record OrdersStart {T : Type 0} (label : Label) (past : History) (turn : Turn T) : Type 0 where
  pub events : List journal.Event
  pub outs : List Outcome
  pub are : AreOutcomesOf turn events outs
  pub accepted : turn.refusal ≡ None
  pub order : first (filter (is_for label) are.reply.orders) ≡ Some (start_of label past)

-- one of these turns is that of the clock reading, and orders a start of the job
pub record IsStartedIn {T : Type 0} (label : Label) (past : History) (at : Reading) (turns : List (Turn T)) : Type 0 where
  pub before : List (Turn T)
  pub turn : Turn T
  pub after : List (Turn T)
  pub are : turns ≡ before ++ turn ∷ after
  pub reads : turn.incoming ≡ Some (happened (journaled.Clock at))
  pub starts : OrdersStart label past turn

-- The machine s came by these turns to one that the table represents. Each job of that machine whose start is due at
-- the clock reading is started in the later turns.
pub record StartsAllDue {T : Type 0} (s : State) (turns : List (Turn T)) (table : Table) (at : Reading) (later : List (Turn T)) : Type 0 where
  pub parts : List Part
  pub are_parts : AreParts turns parts
  pub all : outcomes_in parts ≡ outcomes (map machine_event (events_in parts)) s
  pub kept : KeepsState table (run (map machine_event (events_in parts)) s)
  pub led : IsLed (run (map machine_event (events_in parts)) s)
  pub starts : (label : Label) (past : History) →
      IsDueAt (run (map machine_event (events_in parts)) s) label past at → IsStartedIn label past at later

-- the first of these orders for the job is its start; or there is none for it, and it is started in the later turns
abbrev pub IsStartedBy : {T : Type 0} → Label → History → List (Label × Act) → Reading → List (Turn T) → Type 0
IsStartedBy label past orders at later = (first (filter (is_for label) orders) ≡ Some (start_of label past))
    ⊎ ((filter (is_for label) orders ≡ []) × IsStartedIn label past at later)

-- The machine s came by some turns to one that the table represents. Each of its jobs whose start is due at the clock
-- reading is started if the events of the next turns leave it alone. It is started in those turns, or in the later
-- ones.
pub record StartsWhatWaits {T : Type 0} (s : State) (turns : List (Turn T)) (table : Table) (meanwhile : List (Turn T)) (at : Reading) (later : List (Turn T)) : Type 0 where
  pub parts : List Part
  pub are_parts : AreParts turns parts
  pub kept : KeepsState table (run (map machine_event (events_in parts)) s)
  pub more : List Part
  pub are_more : AreParts meanwhile more
  pub starts : (label : Label) (past : History) → IsDueAt (run (map machine_event (events_in parts)) s) label past at →
      AllByRecursion (LeavesAlone label (definition_of past)) (map machine_event (events_in more)) →
      IsStartedBy label past (flat_map (λ (out : Outcome). out.orders) (outcomes_in more)) at later

module _ {T E W : Type 0} (calls : E → Option (List ToldCall)) (stores : T → Option (List StoreCall))
    (holds : T → List Setting → Type 0) (stamped : T → List Stamp → Type 0) (Finds : ℕ → Option (ℕ × ℕ) → E → E → Type 0) (Looks : List ℕ → Result Obs EdgeFault → E → E → Type 0)
    (Accepts : ℕ → E → E → Type 0) (Holds : ℕ → ℕ → List ℕ → Bool → E → E → Type 0) where
  -- the turns of some passes, and of the next one those before its clocks are read: that of a clock reading for which memory was wanting
  abbrev pub turns_before : {first mid last : Left (RoundLauncher T E W)} → AreRounds (launcher calls stores holds stamped Finds Looks Accepts Holds) first mid →
      IsRound (launcher calls stores holds stamped Finds Looks Accepts Holds) mid last → List (Turn T)
  turns_before more round = turns_in (marks_of calls stores holds stamped Finds Looks Accepts Holds more
      ++ of_missed calls stores holds stamped round.waited.is_refused (record round.waited { is_active = false }) round.begins.first round.begins.missed)
