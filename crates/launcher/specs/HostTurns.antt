-- A turn: one event, whose orders are carried out on the outside, and then each answer as the next
-- event, first in first out.
use Rattle.std.specs.Prelude.{◌≡◌, ℕ, ◌+◌, ◌*◌, ◌≤◌, ◌<◌, true, cond, List, [], ◌∷◌, ◌++◌, map, length, Option, Some, None, Result, Ok, Err, IsUtf8}
use Rattle.std.specs.List.{list_all, AllByRecursion}
use Rattle.history_model.specs.declared.Order.{Order}
use Rattle.history_model.specs.declared.Refusal.{Refusal}
use Rattle.history_model.specs.declared.TheConstants.{MAX_JOBS, MAX_UP}
use Rattle.history_model.specs.Items.{Answered}
use Rattle.history_model.specs.Runs.{is_answer_to}
use Rattle.history_model.specs.Labels.{Label, is_label, is_same}
use Rattle.history_model.specs.Machine.{State, Event, Load, OfJob}
use Rattle.history_model.specs.Step.{outcome, step, run, orders_in}
use Rattle.history_model.specs.MachineLaws.{AreInOrder, labels_of}
use Rattle.history_model.specs.Described.{Described}
use Rattle.loaded_jobs.specs.Tables.{Table, Row, Name, IsOnce, is_known, label_of, definition_of_number}
use Rattle.loaded_jobs.specs.StandsFor.{KeepsState, labelled}
use Rattle.loaded_jobs.specs.TableOutcomes.{IsSameFor}
use Rattle.job_table.specs.Ends.{AreKnown}
use Rattle.job_table.specs.declared.Step.{Step}
use Rattle.child_edge.specs.Calls.{Tells, ToldCall}
use Rattle.outside.specs.declared.pending_answer.PendingAnswer.{PendingAnswer}
use Rattle.launcher.specs.Journals.{JournalState, Grows}
use Rattle.launcher.specs.JournaledLines.{answer_text, answer_texts}
use Rattle.outside.specs.Orders.{call_of, calls_in, answers_in, IsTellablePending}
use Rattle.history_model.specs.Turns.{JobOrder, wanting}
use Rattle.history_model.specs.AwaitedOrders.{AreFresh, weight, weigh_orders}

-- what a turn leaves besides the table: the calls that the edge recorded, and the journal
pub record Trace : Type 0 where
  pub calls : Option (List ToldCall)
  pub journal : JournalState

-- the trace with these
abbrev pub trace : Option (List ToldCall) → JournalState → Trace
trace calls journal = record { calls = calls; journal = journal }

-- ---- orders that are carried out

-- the orders were carried out one after another, each by its one call, and if there is room for
-- them the answers are kept
pub record Executed (orders : List Order) (old new : List PendingAnswer)
    (told told' : Option (List ToldCall)) : Type 0 where
  pub entries : List ToldCall
  pub tells : Tells told entries told'
  pub calls : calls_in entries ≡ map call_of orders
  pub kept : length old + length (answers_in entries) ≤ 3 * MAX_JOBS →
      new ≡ old ++ answers_in entries

-- the orders that an event gave, by number
abbrev pub orders_lent : Result Step Refusal → List Order
orders_lent (Ok lent) = lent.orders.now
orders_lent (Err refusal) = []

-- their jobs are known; a refused event gave none
abbrev pub AreKnownIn : Result Step Refusal → Type 0
AreKnownIn (Ok lent) = AreKnown lent
AreKnownIn (Err refusal) = Unit {0}

-- ---- the events of a turn

-- the event that an answer is; a number stands for its job's label
abbrev pub answer_event : List Name → PendingAnswer → Event
answer_event names pending = OfJob (label_of names pending.job) (Answered pending.answer)

-- the events that the answers of these calls are
abbrev pub answer_events : List Name → List ToldCall → List Event
answer_events names entries = map (answer_event names) (answers_in entries)

-- A whole turn of the machine s. Its events are the input and then the answers of the calls, in the
-- order of the calls. The calls are the orders of all these events, in order, each once: so none is
-- left out, and no answer is invented.
pub record IsTurn (s : State) (input : Event) (names : List Name) (entries : List ToldCall)
    (new : Table) : Type 0 where
  pub orders : List Order
  pub calls : calls_in entries ≡ map call_of orders
  pub by_label : labelled names orders ≡ orders_in (input ∷ answer_events names entries) s
  pub kept : KeepsState new (run (input ∷ answer_events names entries) s)

-- ---- in the midst of a turn

-- each answer is that to the order at its place, of the job that its number stands for
abbrev pub AreTheirs : List Name → List JobOrder → List PendingAnswer → Type 0
AreTheirs names [] [] = Unit {0}
AreTheirs names [] (pending ∷ rest) = ⊥
AreTheirs names (job_order ∷ waits) [] = ⊥
AreTheirs names (job_order ∷ waits) (pending ∷ rest) =
    ((d : Described) × (definition_of_number names pending.job ≡ Some d) × (d.label ≡ job_order.0))
    × (is_answer_to pending.answer job_order.1 ≡ true) × AreTheirs names waits rest

-- the loaded jobs have the numbers that these names give
pub record AreNumbered (names : List Name) (table : Table) : Type 0 where
  pub once : IsOnce names
  pub named : AllByRecursion (λ row. definition_of_number names row.number ≡ Some row.described)
      table.rows

-- the number of the job with the label, if it is loaded
abbrev pub number_of : Label → List Row → Option ℕ
number_of label [] = None
number_of label (row ∷ rows) =
    cond (is_same label row.described.label) (Some row.number) (number_of label rows)

-- a job that stays loaded keeps its number
abbrev pub KeepsNumbers : Table → Table → Type 0
KeepsNumbers old new = (label : Label) (before after : ℕ) →
    number_of label old.rows ≡ Some before → number_of label new.rows ≡ Some after → after ≡ before

-- the name is a label
abbrev pub IsLabel : Label → Type 0
IsLabel name = is_label name ≡ true

-- a label that is text
abbrev pub IsTextLabel : Label → Type 0
IsTextLabel name = IsLabel name × IsUtf8 name

-- the number of the answer's job stands for such a label
abbrev pub IsNamedIn : List Name → PendingAnswer → Type 0
IsNamedIn names pending = IsTextLabel (label_of names pending.job)

-- the machine as events lead to it
pub record IsOrderly (s : State) : Type 0 where
  pub range : s.reading.up ≤ MAX_UP
  pub order : AreInOrder (labels_of s.jobs)
  pub labels : AllByRecursion IsLabel (labels_of s.jobs)

-- the table stands for a machine that has given these orders, whose answers are still to be made
-- events
pub record IsWaiting (table : Table) (s : State) (names : List Name) (waits : List JobOrder)
    (pending : List PendingAnswer) : Type 0 where
  pub keeps : KeepsState table s
  pub orderly : IsOrderly s
  pub fresh : AreFresh s.jobs waits
  pub heavy : AllByRecursion (λ job_order. 0 < weight job_order.1) waits
  pub numbers : AreNumbered names table
  pub theirs : AreTheirs names waits pending

-- One event happened, and this was its answer: its orders, by number, were carried out. If it
-- was accepted, the table's own names stand for the jobs after it, and for those that went at it.
pub record Begins (s : State) (e : Event) (reply : Option Refusal) (new : Table)
    (before after : List PendingAnswer) (told told' : Option (List ToldCall)) : Type 0 where
  pub orders : List Order
  pub executed : Executed orders before after told told'
  pub kept : KeepsState new (step s e)
  pub replies : (outcome s e).refusal ≡ reply
  pub own : reply ≡ None → AreNumbered new.names new
  pub labels : labelled new.names orders ≡ (outcome s e).orders
  pub known : list_all (is_known new.names) orders ≡ true

-- one event happened to jobs that were loaded: names that stand for the jobs before it do so after
-- it, and the table's own are such
pub record HappensTo (s : State) (e : Event) (reply : Option Refusal) (old new : Table)
    (before after : List PendingAnswer) (told told' : Option (List ToldCall)) : Type 0 where
  pub begins : Begins s e reply new before after told told'
  pub loaded : reply ≡ None → AreNumbered new.names old
  pub stays : KeepsNumbers old new
  pub by_label : (names : List Name) → AreNumbered names old →
      AreNumbered names new × (labelled names begins.orders ≡ (outcome s e).orders)
      × (list_all (is_known names) begins.orders ≡ true)

-- so it is for each machine that the table represented
abbrev pub Happens : Event → Option Refusal → Table → Table → List PendingAnswer → List PendingAnswer →
    Option (List ToldCall) → Option (List ToldCall) → Type 0
Happens e reply old new before after told told' =
    (s : State) → KeepsState old s → HappensTo s e reply old new before after told told'

-- one answer was made an event, and what it ordered waits after the others
pub record Handled (s : State) (names : List Name) (job_order : JobOrder) (waits : List JobOrder)
    (pending : PendingAnswer) (rest answers answers' : List PendingAnswer) (new : Table)
    (before after : Trace) : Type 0 where
  pub orders : List Order
  pub executed : Executed orders answers answers' before.calls after.calls
  pub ordered : labelled names orders ≡ (outcome s (answer_event names pending)).orders
  pub waiting : (made : List ToldCall) → calls_in made ≡ map call_of orders →
      IsWaiting new (step s (answer_event names pending)) names
      (waits ++ wanting (outcome s (answer_event names pending)).orders) (rest ++ answers_in made)
  pub noted : Grows before.journal after.journal (answer_text names pending)
  pub named : IsNamedIn names pending
  pub lighter : weigh_orders (wanting (outcome s (answer_event names pending)).orders)
      < weight job_order.1

-- each answer was made an event, and none remains; `made` are the calls of these events
pub record Settled (s : State) (names : List Name) (waited settled : List PendingAnswer) (new : Table)
    (before after : Trace) : Type 0 where
  pub made : List ToldCall
  pub tells : Tells before.calls made after.calls
  pub all : settled ≡ waited ++ answers_in made
  pub orders : List Order
  pub calls : calls_in made ≡ map call_of orders
  pub by_label : labelled names orders ≡ orders_in (map (answer_event names) settled) s
  pub kept : KeepsState new (run (map (answer_event names) settled) s)
  pub few : length settled ≤ 3 * MAX_JOBS
  pub numbers : AreNumbered names new
  pub noted : Grows before.journal after.journal (answer_texts names settled)
  pub tellable : AllByRecursion IsTellablePending settled
  pub named : AllByRecursion (IsNamedIn names) settled

-- ---- a turn

-- the machine as events lead to it, which has room for its jobs
pub record IsLed (s : State) : Type 0 where
  pub orderly : IsOrderly s
  pub few : length s.jobs ≤ MAX_JOBS

-- a load names a label
abbrev pub NamesLabel : Event → Type 0
NamesLabel (Load (Ok given) writes_setting force bind store) = IsLabel given.label
NamesLabel _ = Unit {0}

-- This holds for each machine that the table represented. The edge was called as a turn of the machine says, and if it
-- records its calls, it recorded just these. The table then represents the machine after the turn, and the answer is
-- the machine's to the input. The journal grew by the lines of these events. They are the input, and at most three
-- answers for each job that may be loaded. A line can say each answer and the label of its job. The numbers in the
-- calls are those of the jobs that are loaded.
pub record TurnsOf (s : State) (input : Event) (line : List ℕ) (reply : Option Refusal)
    (new : Table) (before after : Trace) : Type 0 where
  pub names : List Name
  pub entries : List ToldCall
  pub tells : Tells before.calls entries after.calls
  pub turn : IsTurn s input names entries new
  pub led : IsLed (run (input ∷ answer_events names entries) s)
  pub replies : (outcome s input).refusal ≡ reply
  pub few : length (answer_events names entries) ≤ 3 * MAX_JOBS
  pub numbers : reply ≡ None → AreNumbered names new
  pub noted : Grows before.journal after.journal (line ++ answer_texts names (answers_in entries))
  pub tellable : AllByRecursion IsTellablePending (answers_in entries)
  pub named : AllByRecursion (IsNamedIn names) (answers_in entries)

-- and they are those under which the jobs were loaded before it; a job that stays loaded keeps its
-- number
abbrev pub Turns :
    Event → List ℕ → Option Refusal → Table → Table → Trace → Trace → Type 0
Turns input line reply old new before after =
    (s : State) → IsLed s → KeepsState old s →
    (turn : TurnsOf s input line reply new before after)
    × (reply ≡ None → AreNumbered turn.names old) × KeepsNumbers old new

-- nothing happened: the table represents what it represented, with the same jobs under the same numbers, and no call
-- was made
pub record IsUncalled (old new : Table) (told told' : Option (List ToldCall)) : Type 0 where
  pub same : IsSameFor old new
  pub rows : new.rows ≡ old.rows
  pub tells : Tells told [] told'
