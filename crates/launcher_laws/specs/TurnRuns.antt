-- What a launcher goes through: its turns, one after another.
use Rattle.std.specs.Prelude.{◌≡◌, ◌⊎◌, ℕ, true, List, [], ◌∷◌, map, Option, Some, None}
use Rattle.std.specs.List.{flat_map, AllZip, AllByRecursion}
use Rattle.history_model.specs.declared.Refusal.{Refusal}
use Rattle.history_model.specs.declared.Refusal.TheVariants.{BadRequest}
use Rattle.history_model.specs.declared.Order.{Order}
use Rattle.history_model.specs.declared.event.Event as journal
use Rattle.history_model.specs.declared.event.Setting.{Setting}
use Rattle.history_model.specs.Step.{Outcome}
use Rattle.ctl_protocol.specs.Requests.{unasked}
use Rattle.loaded_jobs.specs.Tables.{Name, label_of}
use Rattle.loaded_jobs.specs.StandsFor.{labelled}
use Rattle.child_edge.specs.Calls.{Tells, ToldCall}
use Rattle.outside.specs.declared.pending_answer.PendingAnswer.{PendingAnswer}
use Rattle.outside.specs.Orders.{call_of, calls_in, answers_in, IsTellablePending}
use Rattle.launcher.specs.Journals.{reported}
use Rattle.launcher.specs.JournaledLines.{journaled_answer}
use Rattle.launcher.specs.HostTurns.{IsNamedIn}
use Rattle.ctl_protocol.specs.declared.request.Outside.{Outside}
use Rattle.launcher.specs.LoadTurns.{is_memory, Standing}
use Rattle.launcher.specs.Inputs.{Incoming, event_of}
use Rattle.launcher.specs.Hosts.{Receives}
use Rattle.launcher.specs.Writable.{IsWritable, WritesWhat}

-- the state of a launcher, and its store of settings
pub record Snapshot (T : Type 0) : Type 0 where
  pub stands : Standing
  pub store : T

-- A turn: what came, before the outside was asked, or nothing that is heard; the reply, a refusal or a text; and the
-- snapshots before and after it.
pub record Turn (T : Type 0) : Type 0 where
  pub incoming : Option Incoming
  pub refusal : Option Refusal
  pub words : List ℕ
  pub before : Snapshot T
  pub after : Snapshot T

-- Between two turns the outside may be asked other things, and the closing of the journal be
-- reported.
-- The table and the store stay.
pub record IsBetween {T : Type 0} (old new : Snapshot T) : Type 0 where
  pub table : new.stands.table ≡ old.stands.table
  pub store : new.store ≡ old.store
  pub journal : (new.stands.journal ≡ old.stands.journal)
      ⊎ (new.stands.journal ≡ reported old.stands.journal)

module _ {T : Type 0} (holds : T → List Setting → Type 0) where
  -- the turn was heard, as `Host::turn` promises
  abbrev pub WasReceived : Turn T → Type 0
  WasReceived turn =
      Receives turn.incoming turn.refusal turn.words turn.before.stands turn.after.stands
      (holds turn.before.store) (holds turn.after.store)
      × WritesWhat turn.refusal turn.incoming

  -- these turns, each heard, lead from the first snapshot to the last
  abbrev pub AreTurns : Snapshot T → List (Turn T) → Snapshot T → Type 0
  AreTurns first [] last = IsBetween first last
  AreTurns first (turn ∷ turns) last =
      IsBetween first turn.before × WasReceived turn × AreTurns turn.after turns last

-- ---- what they did

-- a line that is not a request, and what found no memory, is not an event
abbrev pub IsNoEvent : {T : Type 0} → Turn T → Type 0
IsNoEvent turn =
    (is_memory turn.refusal ≡ true) ⊎ ((turn.incoming ≡ None) × (turn.refusal ≡ Some BadRequest))

-- the journal's event of an answer; a number stands for its job's label
abbrev pub answer_told : List Name → PendingAnswer → journal.Event
answer_told names pending = journaled_answer (label_of names pending.job) pending.answer

-- The events of a turn, as the journal has them, and their outcomes. The first event is the one that came, with what
-- the outside answered to it, and its outcome is the reply. The others are the answers that the calls gave, in order.
-- The orders in all outcomes are the calls that were made, in order, each once, after what a load asks of its sockets.
-- A line can say the event that came, and of each answer the numbers and the label of its job.
pub record AreOutcomesOf {T : Type 0} (turn : Turn T) (events : List journal.Event)
    (outs : List Outcome) : Type 0 where
  pub incoming : Incoming
  pub came : turn.incoming ≡ Some incoming
  pub writable : IsWritable (event_of unasked incoming)
  pub outside : Outside
  pub answers : List journal.Event
  pub first : events ≡ event_of outside incoming ∷ answers
  pub reply : Outcome
  pub others : List Outcome
  pub all : outs ≡ reply ∷ others
  pub refusal : reply.refusal ≡ turn.refusal
  pub words : turn.refusal ≡ None → reply.text ≡ turn.words
  pub names : List Name
  pub orders : List Order
  pub by_label : labelled names orders ≡ flat_map (λ (out : Outcome). out.orders) outs
  pub mid : Option (List ToldCall)
  pub entries : List ToldCall
  pub tells : Tells mid entries turn.after.stands.calls
  pub calls : calls_in entries ≡ map call_of orders
  pub told : answers ≡ map (answer_told names) (answers_in entries)
  pub tellable : AllByRecursion IsTellablePending (answers_in entries)
  pub named : AllByRecursion (IsNamedIn names) (answers_in entries)

-- what a turn adds to a run of the machine: its events, and their outcomes
abbrev pub Part : Type 0
Part = List journal.Event × List Outcome

-- what is not an event adds nothing
abbrev pub IsPartOf : {T : Type 0} → Turn T → Part → Type 0
IsPartOf turn part =
    (IsNoEvent turn × (part.0 ≡ []) × (part.1 ≡ [])) ⊎ AreOutcomesOf turn part.0 part.1

-- so each turn adds its part
abbrev pub AreParts : {T : Type 0} → List (Turn T) → List Part → Type 0
AreParts turns parts = AllZip IsPartOf turns parts

-- the events of all turns
abbrev pub events_in : List Part → List journal.Event
events_in parts = flat_map (λ (part : Part). part.0) parts

-- the outcomes of all turns
abbrev pub outcomes_in : List Part → List Outcome
outcomes_in parts = flat_map (λ (part : Part). part.1) parts
