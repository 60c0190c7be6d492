-- What one event of a launcher's turn leaves.
use Rattle.std.proofs.Common.{◌≡◌, ◌≤◌, inl, inr, true, false, ◌&&◌, List, [], ◌∷◌, Option, Some, None, refl, sym, ap, subst, ◌∙◌}
use Rattle.std.specs.Prelude.{ℕ, ◌⊎◌, Result, Ok, Err, IfOk, OnErr, IsUtf8}
use Rattle.std.specs.List.{filter, flat_map, list_all, AllByRecursion}
use Rattle.history_model.specs.declared.Refusal.{Refusal}
use Rattle.history_model.specs.declared.TheConstants.{MAX_UP}
use Rattle.history_model.specs.declared.Reading.{Reading}
use Rattle.history_model.specs.Items.{Item, Answered, History}
use Rattle.history_model.specs.Search.{first}
use Rattle.history_model.specs.Runs.{is_answer_to}
use Rattle.history_model.specs.Labels.{Label, is_same}
use Rattle.history_model.specs.Machine.{State, Event, Job, OfJob, is_of, past_in}
use Rattle.history_model.specs.declared.event.Event as journal
use Rattle.history_model.specs.declared.event.Event.TheVariants as journaled
use Rattle.history_model.specs.declared.Order.{Order}
use Rattle.job_table.specs.Taking.{NamesGoOn, Steps, Takes, WantsMemory, machine_event}
use Rattle.job_table.specs.declared.take.Taken.{Taken}
use Rattle.launcher.specs.AtOnce.{NamesStay}
use Rattle.launcher.specs.Inputs.{takes_none}
use Rattle.history_model.specs.Acceptance.{refusal_in}
use Rattle.history_model.specs.Step.{Outcome, outcome, outcome_by, orders_of, refused, step, step_by, received_one, taken}
use Rattle.history_model.specs.MachineLaws.{labels_of}
use Rattle.history_model.proofs.StepLemmas.{IsGood}
use Rattle.loaded_jobs.specs.Tables.{Table, Row, Name, IsOnce, is_known, label_of, definition_of_number}
use Rattle.loaded_jobs.specs.StandsFor.{KeepsJobs, KeepsState, labelled}
use Rattle.history_model.specs.Described.{Described}
use Rattle.loaded_jobs.specs.TableOutcomes.{IsNextTable, UnlessMemory}
use Rattle.history_model.specs.declared.Refusal.TheVariants.{NoMemory}
use Rattle.job_table.specs.Ends.{AreKnown, IsAnswer, Visits, Numbers, names_in}
use Rattle.loaded_jobs.specs.Numbers.{row_names, IsNumbered}
use Rattle.job_table.specs.declared.Step.{Step}
use Rattle.outside.specs.declared.pending_answer.PendingAnswer.{PendingAnswer}
use Rattle.outside.specs.Orders.{answers_in}
use Rattle.history_model.specs.Turns.{JobOrder, wanting, is_answer}
use Rattle.history_model.proofs.TurnsLemmas.{IsTurning, turning-step}
use Rattle.history_model.proofs.LabelOrderLemmas.{received_one-labels, same_self, order-run, all-stays}
use Rattle.launcher.specs.HostTurns.{AreNumbered, Executed, orders_lent, IsUncalled, answer_event, AreTheirs, IsLabel, IsOrderly, IsWaiting, HappensTo, Happens, Handled, trace}
use Rattle.loaded_jobs.specs.Loads.{refused_with}
use Rattle.job_core.specs.Memory.{NeedsNoMemory}
use Rattle.ctl_protocol.specs.EventWriter.{event_line}
use Rattle.launcher.specs.Journals.{JournalState, Grows}
use Rattle.launcher.specs.JournaledLines.{journaled_answer}
use Rattle.launcher.proofs.ExecuteLemmas.{none_carried}
use Rattle.child_edge.proofs.CallsLemmas.{tells_nothing}
use Rattle.launcher.proofs.NumbersLemmas.{AreNamed, rows-named, label-is, named-next, orders-known, once-number, loaded, keeps-numbers, same-numbers, theirs-append, made-theirs}
use Rattle.child_edge.specs.Calls.{ToldCall}
use Rattle.loaded_jobs.proofs.OutcomesLemmas.{resting}
use Rattle.loaded_jobs.proofs.RestLemmas.{rests-with_orders}

-- what the table answered, and the orders that were then carried out
pub happens : (e : Event) (old new : Table) (result : Result Step Refusal) (before after : List PendingAnswer) (told told' : Option (List ToldCall)) →
    IsAnswer e old result → IfOk result AreKnown → IsNextTable e old new × Visits result old new × Numbers result old new → Executed (orders_lent result) before after told told' →
    Happens e (refused_with result) old new before after told told'
happens e old new (Ok lent) before after told told' answer known ends executed = λ s keeps.
    let numbers = ends.2 in
    let names : names_in lent ≡ row_names old.rows = numbers.2 ∙ numbers.1 in
    let all : list_all (is_known (row_names old.rows)) lent.orders.now ≡ true = subst (λ ns. list_all (is_known ns) lent.orders.now ≡ true) names known in
    let orders : labelled (row_names old.rows) lent.orders.now ≡ (outcome s e).orders =
    ap (λ ns. labelled ns lent.orders.now) (sym names) ∙ sym (ap (λ o. o.orders) (answer s keeps)) in
    let before_it : AreNumbered new.names old =
    record { once = numbers.0.once; named = subst (λ (x : List Name). AreNamed x old.rows) (sym numbers.1) (rows-named old.rows (subst IsOnce numbers.1 numbers.0.once)) } in
    record {
      begins = record {
        orders = lent.orders.now;
        executed = executed;
        kept = ends.0 s keeps;
        replies = ap (λ o. o.refusal) (answer s keeps);
        own = λ none. record { once = numbers.0.once; named = numbers.0.named };
        labels = ap (λ ns. labelled ns lent.orders.now) (sym numbers.2) ∙ sym (ap (λ o. o.orders) (answer s keeps));
        known = subst (λ ns. list_all (is_known ns) lent.orders.now ≡ true) numbers.2 known;
      };
      loaded = λ none. before_it;
      stays = keeps-numbers new.names old new before_it (record { once = numbers.0.once; named = numbers.0.named });
      by_label = λ ns numbered.
          let orders_known = orders-known ns old.rows numbered.named lent.orders.now all in (
            record { once = numbered.once; named = named-next ns old.rows new.rows numbered.named (subst (λ (x : List Name). AreNamed x new.rows) numbers.1 numbers.0.named) },
            orders_known.0 ∙ orders,
            orders_known.1,
          );
    }
happens e old new (Err refusal) before after told told' answer known ends executed = λ s keeps. record {
  begins = record {
    orders = [];
    executed = executed;
    kept = ends.0 s keeps;
    replies = ap (λ o. o.refusal) (answer s keeps);
    own = λ none. cc;
    labels = sym (ap (λ o. o.orders) (answer s keeps));
    known = refl;
  };
  loaded = λ none. cc;
  stays = same-numbers old new ends.1.0;
  by_label = λ ns numbered. (
    record { once = numbered.once; named = subst (AreNamed ns) (sym ends.1.0) numbered.named },
    sym (ap (λ o. o.orders) (answer s keeps)),
    refl,
  );
}

-- no name, no order
pub labelled-none : (names : List Name) (orders : List Order) → labelled names orders ≡ [] → orders ≡ []
labelled-none names [] is = refl
labelled-none names (order ∷ orders) is = cc

-- what changes nothing orders nothing
orders-none : (table : Table) (s : State) (e : Event) → table.reading.up ≤ MAX_UP → KeepsState table s → taken s e ≡ s → (outcome s e).orders ≡ []
orders-none table s e range keeps same = go (refusal_in s e) where
  go : (o : Option Refusal) → (outcome_by o s e).orders ≡ []
  go (Some refusal) = refl
  go None = ap (λ (t : State). flat_map orders_of t.jobs) same ∙ (rests-with_orders table s range keeps).1

-- what the table took in, and the orders that were then carried out
pub took : (e : journal.Event) (old new : Table) (answer : Taken) (orders : List Order) (before after : List PendingAnswer) (told told' : Option (List ToldCall)) → NamesStay e → NamesGoOn e (Ok answer) old new →
    ((s : State) → KeepsState old s → (((outcome s (machine_event e)).refusal ≡ None) × ((outcome s (machine_event e)).orders ≡ labelled new.names orders)) × KeepsState new (step s (machine_event e))) →
    list_all (is_known new.names) orders ≡ true → IsNumbered new → old.reading.up ≤ MAX_UP → Executed orders before after told told' → Happens (machine_event e) None old new before after told told'
took e old new answer orders before after told told' stay names out known numbered range executed = go (stay answer old new names) where
  here : AreNumbered new.names new
  here = record { once = numbered.once; named = numbered.named }

  go : (new.names ≡ row_names old.rows) ⊎ ((new ≡ old) × ((s : State) → taken s (machine_event e) ≡ s)) → Happens (machine_event e) None old new before after told told'
  go (inl is) = λ s keeps.
      let did = out s keeps in
      let all : list_all (is_known (row_names old.rows)) orders ≡ true = subst (λ ns. list_all (is_known ns) orders ≡ true) is known in
      let ordered : labelled (row_names old.rows) orders ≡ (outcome s (machine_event e)).orders = ap (λ ns. labelled ns orders) (sym is) ∙ sym did.0.1 in
      let before_it : AreNumbered new.names old = record { once = numbered.once; named = subst (λ (x : List Name). AreNamed x old.rows) (sym is) (rows-named old.rows (subst IsOnce is numbered.once)) } in
      record {
        begins = record {
          orders = orders;
          executed = executed;
          kept = did.1;
          replies = did.0.0;
          own = λ none. here;
          labels = sym did.0.1;
          known = known;
        };
        loaded = λ none. before_it;
        stays = keeps-numbers new.names old new before_it here;
        by_label = λ ns numbers.
            let theirs = orders-known ns old.rows numbers.named orders all in (
              record { once = numbers.once; named = named-next ns old.rows new.rows numbers.named (subst (λ (x : List Name). AreNamed x new.rows) is numbered.named) },
              theirs.0 ∙ ordered,
              theirs.1,
            );
      }
  go (inr (same, rests)) = λ s keeps.
      let did = out s keeps in
      let none : (outcome s (machine_event e)).orders ≡ [] = orders-none old s (machine_event e) range keeps (rests s) in
      let empty : orders ≡ [] = labelled-none new.names orders (sym did.0.1 ∙ none) in
      record {
        begins = record {
          orders = orders;
          executed = executed;
          kept = did.1;
          replies = did.0.0;
          own = λ none. here;
          labels = sym did.0.1;
          known = known;
        };
        loaded = λ none. subst (AreNumbered new.names) same here;
        stays = same-numbers old new (ap (λ (t : Table). t.rows) same);
        by_label = λ ns numbers. (
          subst (AreNumbered ns) (sym same) numbers,
          ap (labelled ns) empty ∙ sym none,
          ap (list_all (is_known ns)) empty,
        );
      }

-- what was refused carried out nothing
pub refused-taking : (e : Event) (refusal : Refusal) (old new : Table) (before : List PendingAnswer) (told : Option (List ToldCall)) → new.rows ≡ old.rows → Steps e old (refused refusal) new → Happens e (Some refusal) old new before before told told
refused-taking e refusal old new before told rows steps = λ s keeps.
    let did = steps s keeps in
    record {
      begins = record {
        orders = [];
        executed = none_carried before told;
        kept = did.1;
        replies = ap (λ (o : Outcome). o.refusal) did.0;
        own = λ none. cc;
        labels = sym (ap (λ (o : Outcome). o.orders) did.0);
        known = refl;
      };
      loaded = λ none. cc;
      stays = same-numbers old new rows;
      by_label = λ ns numbers. (record { once = numbers.once; named = subst (AreNamed ns) (sym rows) numbers.named }, sym (ap (λ (o : Outcome). o.orders) did.0), refl);
    }

pub not-taken : (e : Event) (refusal : Refusal) (old new : Table) (before : List PendingAnswer) (told : Option (List ToldCall)) → new.rows ≡ old.rows → Takes e old (Err refusal) new →
    UnlessMemory {A = List ℕ} (Err refusal) (Happens e (Some refusal) old new before before told told)
not-taken e NoMemory old new before told rows takes = tt
not-taken e _ old new before told rows takes = refused-taking e _ old new before told rows takes

-- an answer that is this refusal
abbrev pub refusing : Refusal → Result (List ℕ) Refusal
refusing refusal = Err refusal

same-refusal : (a b : Refusal) → refusing a ≡ refusing b → a ≡ b
same-refusal a b is = let both : Some a ≡ Some b = ap refused_with is in cc

-- for want of memory nothing was called
pub not-called : (e : Event) (refusal : Refusal) (old new : Table) (told : Option (List ToldCall)) → new.rows ≡ old.rows → Takes e old (Err refusal) new → refusing refusal ≡ refusing NoMemory → IsUncalled old new told told
not-called e refusal old new told rows takes is =
    record { same = subst (λ r. Takes e old (Err r) new) (same-refusal refusal NoMemory is) takes; rows = rows; tells = tells_nothing told }

-- and only of an event that takes memory
wants : (e : journal.Event) (table : Table) (result : Result Taken Refusal) → WantsMemory e table result → result ≡ Err NoMemory → takes_none e ≡ false
wants (journaled.Load def writes_setting force bind store) table result want is = refl
wants (journaled.Unload job writes_setting store) table result want is = refl
wants (journaled.Set job disabled store) table result want is = refl
wants journaled.List table result want is = refl
wants (journaled.Print job) table result want is = refl
wants journaled.Shutdown table result want is = refl
wants (journaled.Clock at) table result want is = refl
wants (journaled.Saw path obs) table result want is = absurd (subst NeedsNoMemory is want)
wants (journaled.OfJob job item) table result want is = absurd (subst NeedsNoMemory is want)

pub wanted : (e : journal.Event) (table : Table) (refusal : Refusal) → WantsMemory e table (Err refusal) → refusing refusal ≡ refusing NoMemory → takes_none e ≡ false
wanted e table refusal want is = wants e table (Err refusal) want (ap Err (same-refusal refusal NoMemory is))

-- what is passed on of an answer, which needs no memory
pub answer-on : (e : Event) (old new : Table) (lent : Result Step Refusal) (result : Result (Unit {0}) Refusal) (before after : List PendingAnswer) (told told' : Option (List ToldCall)) →
    refused_with result ≡ refused_with lent → IsAnswer e old lent → IfOk lent AreKnown → IsNextTable e old new × Visits lent old new × Numbers lent old new →
    Executed (orders_lent lent) before after told told' → Happens e (refused_with result) old new before after told told'
answer-on e old new lent result before after told told' same answer known ends executed =
    subst (λ r. Happens e r old new before after told told') (sym same) (happens e old new lent before after told told' answer known ends executed)

pub refused-rows : (old new : Table) (lent : Result Step Refusal) (result : Result (Unit {0}) Refusal) → refused_with result ≡ refused_with lent → Visits lent old new → OnErr result (new.rows ≡ old.rows)
refused-rows old new lent (Ok done) same visits = tt
refused-rows old new (Ok lent) (Err refusal) same visits = cc
refused-rows old new (Err refusal) (Err other) same visits = visits.0

-- ---- what the machine is in the midst of a turn

pub good : (table : Table) (s : State) → KeepsState table s → IsOrderly s → IsGood s
good table s keeps orderly = record { range = orderly.range; rests = resting s.reading table.rows s.jobs keeps.jobs keeps.rests }

pub turning : (table : Table) (s : State) (names : List Name) (waits : List JobOrder) (pending : List PendingAnswer) → IsWaiting table s names waits pending → IsTurning s waits
turning table s names waits pending is = record { good = good table s is.keeps is.orderly; order = is.orderly.order; fresh = is.fresh; heavy = is.heavy }

-- an answer leaves the clock reading, and no label comes
pub orderly-next : (s : State) (label : Label) (x : Item) → IsOrderly s → IsOrderly (step s (OfJob label x))
orderly-next s label x is = record {
  range = go (refusal_in s (OfJob label x));
  order = order-run (OfJob label x ∷ []) s is.order;
  labels = labels (refusal_in s (OfJob label x));
} where
  go : (o : Option Refusal) → (step_by o s (OfJob label x)).reading.up ≤ MAX_UP
  go (Some refusal) = is.range
  go None = is.range

  labels : (o : Option Refusal) → AllByRecursion IsLabel (labels_of (step_by o s (OfJob label x)).jobs)
  labels (Some refusal) = is.labels
  labels None = all-stays IsLabel (received_one label x s.jobs) (subst (AllByRecursion IsLabel) (sym (received_one-labels label x s.jobs)) is.labels)

-- the number of a job that a table holds stands for its label in names that know the jobs
stands : (at : Reading) (names table : List Name) (pending : PendingAnswer) (job_order : JobOrder) (t : History) (rows : List Row) (jobs : List Job) → KeepsJobs at rows jobs → IsOnce names → AreNamed names rows →
    AreNamed table rows → AllByRecursion IsLabel (labels_of jobs) → past_in (first (filter (is_of job_order.0) jobs)) ≡ Some t →
    ((d : Described) × (definition_of_number names pending.job ≡ Some d) × (d.label ≡ job_order.0)) → label_of table pending.job ≡ job_order.0
stands at names table pending job_order t rows jobs keeps once here there short is own =
    let (d, known, label) = own in
    let job = loaded at names table job_order.0 t rows jobs keeps here there short is in
    let number : pending.job ≡ job.row.number = once-number names once pending.job job.row.number d job.row.described known job.here (label ∙ sym job.named) in
    label-is table pending.job job.row.described (ap (definition_of_number table) number ∙ job.there) ∙ job.named

-- the jobs that were loaded before an event have the numbers under which the table knows them after it
still-named : (result : Result (Unit {0}) Refusal) (old new : Table) → OnErr result (new.rows ≡ old.rows) → IsNumbered new → (refused_with result ≡ None → AreNumbered new.names old) → AreNamed new.names old.rows
still-named (Ok done) old new same numbered loaded = (loaded refl).named
still-named (Err refusal) old new same numbered loaded = subst (AreNamed new.names) same numbered.named

-- the answer goes to its job, and then those that it ordered wait after the others
pub handled : (result : Result (Unit {0}) Refusal) (old new : Table) (before after : List PendingAnswer) (told told' : Option (List ToldCall)) (written written' : JournalState) (pending : PendingAnswer) (said : Label) →
    said ≡ label_of new.names pending.job → IsNumbered old → IsNumbered new → IsUtf8 said → Happens (answer_event old.names pending) (refused_with result) old new before after told told' →
    OnErr result (new.rows ≡ old.rows) → Grows written written' (event_line (journaled_answer said pending.answer)) →
    (s : State) (names : List Name) (job_order : JobOrder) (waits : List JobOrder) (rest : List PendingAnswer) → IsWaiting old s names (job_order ∷ waits) (pending ∷ rest) →
    Handled s names job_order waits pending rest before after new (trace told written) (trace told' written')
handled result old new before after told told' written written' pending said looked numbered known text happened same noted s names job_order waits rest is =
    let own : label_of names pending.job ≡ job_order.0 = label-is names pending.job is.theirs.0.0 is.theirs.0.1 ∙ is.theirs.0.2 in
    let named_by : (table : List Name) → AreNamed table old.rows → label_of table pending.job ≡ job_order.0 =
    λ table there. stands s.reading names table pending job_order _ old.rows s.jobs is.keeps.jobs is.numbers.once is.numbers.named there is.orderly.labels is.fresh.0.1 is.theirs.0 in
    let received : label_of old.names pending.job ≡ label_of names pending.job = named_by old.names numbered.named ∙ sym own in
    let e : Event = answer_event names pending in
    let did : HappensTo s e (refused_with result) old new before after told told' =
    subst (λ (l : Label). HappensTo s (OfJob l (Answered pending.answer)) (refused_with result) old new before after told told') received (happened s is.keeps) in
    let after_it : AreNamed new.names old.rows = still-named result old new same known did.loaded in
    let told_as : said ≡ label_of names pending.job = looked ∙ named_by new.names after_it ∙ sym own in
    let short : IsLabel job_order.0 = (loaded s.reading names old.names job_order.0 _ old.rows s.jobs is.keeps.jobs is.numbers.named numbered.named is.orderly.labels is.fresh.0.1).short in
    let ordered = did.by_label names is.numbers in
    let fits : is_answer job_order e ≡ true = ap (λ (l : Label). is_same job_order.0 l && is_answer_to pending.answer job_order.1) own ∙ (λ i. same_self job_order.0 i && is.theirs.1 i) in
    let next = turning-step s job_order waits e (turning old s names (job_order ∷ waits) (pending ∷ rest) is) fits in
    record {
      orders = did.begins.orders;
      executed = did.begins.executed;
      ordered = ordered.1;
      waiting = λ made calls. record {
        keeps = did.begins.kept;
        orderly = orderly-next s (label_of names pending.job) (Answered pending.answer) is.orderly;
        fresh = next.0.fresh;
        heavy = next.0.heavy;
        numbers = ordered.0;
        theirs = theirs-append names waits (wanting (outcome s e).orders) rest (answers_in made) is.theirs.2
            (subst (λ (os : List JobOrder). AreTheirs names (wanting os) (answers_in made)) ordered.1 (made-theirs names did.begins.orders made ordered.2 calls));
      };
      noted = subst (λ (l : Label). Grows written written' (event_line (journaled_answer l pending.answer))) told_as noted;
      lighter = next.1;
      named = (subst IsLabel (sym own) short, subst IsUtf8 told_as text);
    }
