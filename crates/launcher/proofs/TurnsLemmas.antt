-- A whole turn of the launcher: its first event, and then the answers.
use Rattle.std.proofs.Common.{◌≡◌, ℕ, ◌*◌, ◌≤◌, List, [], ◌∷◌, ◌++◌, map, length, Option, Some, None, refl, sym, ap, subst, ◌∙◌, arith}
use Rattle.std.specs.Prelude.{Result, Ok, Err}
use Rattle.std.specs.List.{AllByRecursion}
use Rattle.std.proofs.lemmas.List.{append-nil, length-map, map-append}
use Rattle.std.proofs.lemmas.List.Elements.{filter_map-append}
use Rattle.history_model.specs.declared.Refusal.{Refusal}
use Rattle.history_model.specs.declared.Ask.TheVariants.{Unload, Shutdown}
use Rattle.history_model.specs.Items.{Loaded, Read, Saw, Asked, Answered}
use Rattle.history_model.specs.Clock.{definition_of}
use Rattle.history_model.specs.Calendar.{calendar_fires}
use Rattle.history_model.specs.Machine.{State, Job, Event, Unreadable, Load, UnloadJob, Set, ListJobs, PrintJob, ShutDown, Tick, Observation, OfJob}
use Rattle.history_model.specs.Acceptance.{refusal_in}
use Rattle.history_model.specs.Step.{outcome, outcome_by, step, step_by, taken, observation_of, run, orders_in}
use Rattle.history_model.specs.MachineLaws.{labels_of}
use Rattle.history_model.proofs.StepLemmas.{good-step}
use Rattle.loaded_jobs.specs.Tables.{Table, Name, label_of}
use Rattle.loaded_jobs.specs.StandsFor.{KeepsState}
use Rattle.loaded_jobs.specs.TableOutcomes.{UnlessMemory}
use Rattle.history_model.specs.declared.Refusal.TheVariants.{NoMemory}
use Rattle.outside.specs.declared.pending_answer.PendingAnswer.{PendingAnswer}
use Rattle.outside.specs.Orders.{call_of, answer_in, answers_in, IsTellablePending}
use Rattle.history_model.specs.Turns.{JobOrder, wanting}
use Rattle.history_model.specs.AwaitedOrders.{weigh_orders}
use Rattle.history_model.proofs.LabelOrderLemmas.{received-labels, received_one-labels, order-run, all-stays, all-with}
use Rattle.history_model.proofs.TurnBoundLemmas.{turning-start, within-step, length-heavy}
use Rattle.launcher.specs.HostTurns.{answer_event, answer_events, AreTheirs, IsWaiting, Begins, Happens, Settled, NamesLabel, IsLabel, IsNamedIn, IsLed, TurnsOf, Turns, trace}
use Rattle.loaded_jobs.specs.Loads.{refused_with}
use Rattle.job_table.specs.Taking.{machine_event}
use Rattle.launcher.specs.AtOnce.{NamesStay}
use Rattle.ctl_protocol.specs.EventWriter.{event_line}
use Rattle.launcher.specs.Journals.{JournalState, Grows}
use Rattle.launcher.proofs.JournalsLemmas.{grows_append}
use Rattle.launcher.specs.JournaledLines.{answer_texts}
use Rattle.history_model.specs.declared.event.Event as journal
use Rattle.launcher.proofs.ExecuteLemmas.{none-called}
use Rattle.launcher.proofs.NumbersLemmas.{keeps-numbers, made-theirs}
use Rattle.launcher.proofs.OneEventLemmas.{good, labelled-none, orderly-next}
use Rattle.launcher.proofs.SettlingLemmas.{same-length}
use Rattle.history_model.specs.declared.TheConstants.{MAX_JOBS}
use Rattle.child_edge.specs.Calls.{ToldCall}
use Rattle.child_edge.proofs.CallsLemmas.{tells_append}

-- ---- where an event leads

abbrev AreLabels : List Job → Type 0
AreLabels jobs = AllByRecursion IsLabel (labels_of jobs)

taken-labels : (s : State) (e : Event) → NamesLabel e → AreLabels s.jobs → AreLabels (taken s e).jobs
taken-labels s Unreadable is short = short
taken-labels s (Load (Err fault) writes_setting force bind store) is short = short
taken-labels s (Load (Ok given) writes_setting force bind store) is short = all-with IsLabel (record { label = given.label; past = Loaded given.definition s.reading ∷ [] }) is s.jobs short
taken-labels s (UnloadJob label writes_setting store) is short = subst (AllByRecursion IsLabel) (sym (received_one-labels label (Asked Unload) s.jobs)) short
taken-labels s (Set label disabled store) is short = short
taken-labels s ListJobs is short = short
taken-labels s (PrintJob label) is short = short
taken-labels s ShutDown is short = subst (AllByRecursion IsLabel) (sym (received-labels (λ job. Some (Asked Shutdown)) s.jobs)) short
taken-labels s (Tick at) is short = subst (AllByRecursion IsLabel) (sym (received-labels (λ job. Some (Read at (calendar_fires s.zone (definition_of job.past).calendar s.reading.wall at.wall))) s.jobs)) short
taken-labels s (Observation path obs) is short = subst (AllByRecursion IsLabel) (sym (received-labels (observation_of path (Saw path obs)) s.jobs)) short
taken-labels s (OfJob label item) is short = subst (AllByRecursion IsLabel) (sym (received_one-labels label item s.jobs)) short

pub led-step : (table : Table) (s : State) (e : Event) → KeepsState table s → IsLed s → NamesLabel e → IsLed (step s e)
led-step table s e keeps led is = record {
  orderly = record {
    range = (good-step s e (good table s keeps led.orderly)).range;
    order = order-run (e ∷ []) s led.orderly.order;
    labels = go (refusal_in s e);
  };
  few = within-step s e led.few;
} where
  go : (o : Option Refusal) → AreLabels (step_by o s e).jobs
  go (Some refusal) = led.orderly.labels
  go None = all-stays IsLabel (taken s e).jobs (taken-labels s e is led.orderly.labels)

pub led-answers : (names : List Name) (pending : List PendingAnswer) (s : State) → IsLed s → IsLed (run (map (answer_event names) pending) s)
led-answers names [] s led = led
led-answers names (p ∷ ps) s led =
    led-answers names ps (step s (answer_event names p)) (record { orderly = orderly-next s (label_of names p.job) (Answered p.answer) led.orderly; few = within-step s (answer_event names p) led.few })

-- ---- the first event

-- a refused event orders nothing
refused-orders : (s : State) (e : Event) (refusal : Refusal) → (outcome s e).refusal ≡ Some refusal → (outcome s e).orders ≡ []
refused-orders s e refusal is = go (refusal_in s e) is where
  go : (o : Option Refusal) → (outcome_by o s e).refusal ≡ Some refusal → (outcome_by o s e).orders ≡ []
  go None is = cc
  go (Some other) is = refl

-- its orders were carried out, and their answers wait
pub begun : (s : State) (e : Event) (old new : Table) (after : List PendingAnswer) (told told' : Option (List ToldCall)) → NamesLabel e → IsLed s → KeepsState old s →
    (did : Begins s e None new [] after told told') →
    IsWaiting new (step s e) new.names (wanting (outcome s e).orders) after × (weigh_orders (wanting (outcome s e).orders) ≤ 3 * MAX_JOBS) × (after ≡ answers_in did.executed.entries)
begun s e old new after told told' is led keeps did =
    let start = turning-start s e (good old s keeps led.orderly) led.orderly.order led.few in
    let waits : List JobOrder = wanting (outcome s e).orders in
    let theirs = subst (λ (os : List JobOrder). AreTheirs new.names (wanting os) (answers_in did.executed.entries)) did.labels (made-theirs new.names did.orders did.executed.entries did.known did.executed.calls) in
    let many : length (answers_in did.executed.entries) ≡ length waits = same-length new.names waits (answers_in did.executed.entries) theirs in
    let heavy : length waits ≤ weigh_orders waits = length-heavy waits start.0.heavy in
    let kept : after ≡ answers_in did.executed.entries = did.executed.kept (omega (arith, many, heavy, start.1)) in
    let after_led = led-step old s e keeps led is in (
      record {
        keeps = did.kept;
        orderly = after_led.orderly;
        fresh = start.0.fresh;
        heavy = start.0.heavy;
        numbers = did.own refl;
        theirs = subst (AreTheirs new.names waits) (sym kept) theirs;
      },
      start.1,
      kept,
    )

abbrev pub Settles : Table → List PendingAnswer → List PendingAnswer → Table → Option (List ToldCall) → Option (List ToldCall) → JournalState → JournalState → Type 0
Settles mid first after new b c written written' =
    (s : State) (names : List Name) (waits : List JobOrder) → IsWaiting mid s names waits first → weigh_orders waits ≤ 3 * MAX_JOBS → Settled s names first after new (trace b written) (trace c written')

-- and so the whole turn
unfoldable pub turned-at : (s : State) (e : Event) (line : List ℕ) (old mid new : Table) (first after : List PendingAnswer) (a b c : Option (List ToldCall)) (k m n : JournalState) → NamesLabel e → IsLed s → KeepsState old s →
    Begins s e None mid [] first a b → Grows k m line → Settles mid first after new b c m n → TurnsOf s e line None new (trace a k) (trace c n)
turned-at s e line old mid new first after a b c k m n is led keeps did noted settles =
    let start = begun s e old mid first a b is led keeps did in
    let done = settles (step s e) mid.names (wanting (outcome s e).orders) start.0 start.1 in
    let entries : List ToldCall = did.executed.entries ++ done.made in
    let all : answers_in entries ≡ after =
    filter_map-append answer_in did.executed.entries done.made ∙ ap (λ xs. xs ++ answers_in done.made) (sym start.2) ∙ sym done.all in
    let events : answer_events mid.names entries ≡ map (answer_event mid.names) after = ap (map (answer_event mid.names)) all in
    record {
      names = mid.names;
      entries = entries;
      tells = tells_append a b c did.executed.entries done.made did.executed.tells done.tells;
      turn = record {
        orders = did.orders ++ done.orders;
        calls = map-append (λ x. x.0) did.executed.entries done.made ∙ (λ i. did.executed.calls i ++ done.calls i) ∙ sym (map-append call_of did.orders done.orders);
        by_label = map-append _ did.orders done.orders ∙ (λ i. did.labels i ++ done.by_label i) ∙ ap (λ es. (outcome s e).orders ++ orders_in es (step s e)) (sym events);
        kept = subst (λ es. KeepsState new (run es (step s e))) (sym events) done.kept;
      };
      led = subst (λ es. IsLed (run es (step s e))) (sym events) (led-answers mid.names after (step s e) (led-step old s e keeps led is));
      replies = did.replies;
      few = subst (λ (es : List Event). length es ≤ 3 * MAX_JOBS) (sym events) (subst (λ (n : ℕ). n ≤ 3 * MAX_JOBS) (sym (length-map after (answer_event mid.names))) done.few);
      numbers = λ none. done.numbers;
      noted = subst (λ ps. Grows k n (line ++ answer_texts mid.names ps)) (sym all) (grows_append k m n line (answer_texts mid.names after) noted done.noted);
      tellable = subst (AllByRecursion IsTellablePending) (sym all) done.tellable;
      named = subst (AllByRecursion (IsNamedIn mid.names)) (sym all) done.named;
    }

-- a refused event is the whole turn
pub refused-turn : (e : Event) (line : List ℕ) (refusal : Refusal) (old new : Table) (first : List PendingAnswer) (a b : Option (List ToldCall)) (k n : JournalState) → NamesLabel e → Grows k n line →
    Happens e (Some refusal) old new [] first a b → Turns e line (Some refusal) old new (trace a k) (trace b n)
refused-turn e line refusal old new first a b k n is noted happened = λ s led keeps.
    let happens = happened s keeps in
    let did = happens.begins in
    let none : (outcome s e).orders ≡ [] = refused-orders s e refusal did.replies in (
      record {
        names = [];
        entries = [];
        tells = none-called did.orders [] first a b (labelled-none new.names did.orders (did.labels ∙ none)) did.executed;
        turn = record {
          orders = [];
          calls = refl;
          by_label = sym (append-nil (outcome s e).orders ∙ none);
          kept = did.kept;
        };
        led = led-step old s e keeps led is;
        replies = did.replies;
        few = omega arith;
        numbers = λ none. cc;
        noted = subst (Grows k n) (sym (append-nil line)) noted;
        tellable = tt;
        named = tt;
      },
      λ none. cc,
      happens.stays,
    )

-- ---- as the functions have it

-- the answer of the turn is that of its event
pub turned-from : (what : journal.Event) (result : Result (List ℕ) Refusal) (text : List ℕ) (old mid new : Table) (before first after : List PendingAnswer) (a b c : Option (List ToldCall)) (k m n : JournalState) → result ≡ Ok text → before ≡ [] →
    (NamesStay what → UnlessMemory result (Happens (machine_event what) (refused_with result) old mid before first a b)) → Grows k m (event_line what) → Settles mid first after new b c m n →
    NamesLabel (machine_event what) → NamesStay what → Turns (machine_event what) (event_line what) None old new (trace a k) (trace c n)
unfolding turned-at
turned-from what (Err refusal) text old mid new before first after a b c k m n ok empty happened noted settles label stay = cc
turned-from what (Ok done) text old mid new before first after a b c k m n ok empty happened noted settles label stay = λ s led keeps.
    let did = happened stay s keeps in
    let turn : TurnsOf s (machine_event what) (event_line what) None new (trace a k) (trace c n) =
    turned-at s (machine_event what) (event_line what) old mid new first after a b c k m n label led keeps (subst (λ ps. Begins s (machine_event what) None mid ps first a b) empty did.begins) noted settles in (
      turn,
      did.loaded,
      keeps-numbers turn.names old new (did.loaded refl) (turn.numbers refl),
    )

-- what follows unless memory ran out
unless-memory : {P Q : Type 0} (refusal : Refusal) → (P → Q) → UnlessMemory {A = List ℕ} (Err refusal) P → UnlessMemory {A = List ℕ} (Err refusal) Q
unless-memory NoMemory follows holds = tt
unless-memory _ follows holds = follows holds

pub refused-from : (what : journal.Event) (result : Result (List ℕ) Refusal) (refusal : Refusal) (old new : Table) (before first : List PendingAnswer) (a b : Option (List ToldCall)) (k n : JournalState) → result ≡ Err refusal → before ≡ [] →
    Grows k n (event_line what) → (NamesStay what → UnlessMemory result (Happens (machine_event what) (refused_with result) old new before first a b)) → NamesLabel (machine_event what) → NamesStay what →
    UnlessMemory {A = List ℕ} (Err refusal) (Turns (machine_event what) (event_line what) (Some refusal) old new (trace a k) (trace b n))
refused-from what result refusal old new before first a b k n is empty noted happened label stay =
    unless-memory refusal
    (λ did. refused-turn (machine_event what) (event_line what) refusal old new first a b k n label noted (subst (λ ps. Happens (machine_event what) (Some refusal) old new ps first a b) empty did))
    (subst (λ r. UnlessMemory r (Happens (machine_event what) (refused_with r) old new before first a b)) is (happened stay))
