-- What holds in the middle of a launcher's turn, with some answers still to be made events.
use Rattle.std.proofs.Common.{◌≡◌, ℕ, suc, ◌+◌, ◌*◌, ◌<◌, ◌≤◌, List, [], ◌∷◌, ◌++◌, map, take, drop, length, get_or, Option, refl, sym, ap, subst, ◌∙◌, append_assoc, arith, add-one, length-append, length-drop, drop-cons}
use Rattle.std.specs.List.{AllByRecursion}
use Rattle.std.proofs.lemmas.List.{append-nil, map-append, take_more, take_all, take-append-le, drop-append-le}
use Rattle.history_model.specs.declared.Order.{Order}
use Rattle.history_model.specs.Machine.{State, Event}
use Rattle.history_model.specs.Step.{outcome, step, run, orders_in}
use Rattle.loaded_jobs.specs.Tables.{Table, Name}
use Rattle.loaded_jobs.specs.StandsFor.{KeepsState, labelled}
use Rattle.child_edge.specs.Calls.{Tells, ToldCall}
use Rattle.child_edge.proofs.CallsLemmas.{tells_append, tells_nothing}
use Rattle.outside.specs.declared.pending_answer.PendingAnswer.{PendingAnswer}
use Rattle.outside.specs.Orders.{call_of, calls_in, answer_in, answers_in, IsTellablePending}
use Rattle.std.proofs.lemmas.List.Elements.{filter_map-append}
use Rattle.std.proofs.lemmas.Grind.{flat_map-append}
use Rattle.history_model.specs.Turns.{JobOrder, wanting}
use Rattle.history_model.specs.AwaitedOrders.{weigh_orders}
use Rattle.history_model.proofs.TurnsLemmas.{weigh-append}
use Rattle.history_model.proofs.TurnBoundLemmas.{length-heavy}
use Rattle.launcher.specs.HostTurns.{IsNamedIn, answer_event, AreTheirs, IsWaiting, Handled, Settled, trace}
use Rattle.launcher.specs.Journals.{JournalState, Grows}
use Rattle.launcher.proofs.JournalsLemmas.{grows_nothing, grows_append}
use Rattle.launcher.specs.JournaledLines.{answer_text, answer_texts}
use Rattle.history_model.specs.declared.TheConstants.{MAX_JOBS}

-- ---- one more event of the machine

pub run-snoc : (es : List Event) (e : Event) (s : State) → run (es ++ e ∷ []) s ≡ step (run es s) e
run-snoc [] e s = refl
run-snoc (x ∷ es) e s = run-snoc es e (step s x)

pub orders-snoc : (es : List Event) (e : Event) (s : State) → orders_in (es ++ e ∷ []) s ≡ orders_in es s ++ (outcome (run es s) e).orders
orders-snoc [] e s = append-nil (outcome s e).orders
orders-snoc (x ∷ es) e s = ap (λ os. (outcome s x).orders ++ os) (orders-snoc es e (step s x)) ∙ sym (append_assoc (outcome s x).orders _ _)

pub same-length : (names : List Name) (waits : List JobOrder) (pending : List PendingAnswer) → AreTheirs names waits pending → length pending ≡ length waits
same-length names [] [] theirs = refl
same-length names [] (p ∷ ps) theirs = absurd theirs
same-length names (w ∷ ws) [] theirs = absurd theirs
same-length names (w ∷ ws) (p ∷ ps) theirs = ap (λ n. suc n) (same-length names ws ps theirs.2)

-- what holds of each, and of one more after them
all-more : {A : Type 0} (P : A → Type 0) (xs : List A) (x : A) → AllByRecursion P xs → P x → AllByRecursion P (xs ++ x ∷ [])
all-more P [] x all more = (more, tt)
all-more P (y ∷ ys) x all more = (all.0, all-more P ys x all.1 more)

-- ---- the loop

pub record IsSoFar (s : State) (names : List Name) (first answers : List PendingAnswer) (k : ℕ) (table : Table) (told told' : Option (List ToldCall)) (written written' : JournalState) : Type 0 where
  pub made : List ToldCall
  pub tells : Tells told made told'
  pub all : answers ≡ first ++ answers_in made
  pub orders : List Order
  pub calls : calls_in made ≡ map call_of orders
  pub by_label : labelled names orders ≡ orders_in (map (answer_event names) (take k answers)) s
  pub noted : Grows written written' (answer_texts names (take k answers))
  pub waits : List JobOrder
  pub waiting : IsWaiting table (run (map (answer_event names) (take k answers)) s) names waits (drop k answers)
  pub within : k ≤ length answers
  pub fits : k + weigh_orders waits ≤ 3 * MAX_JOBS
  pub named : AllByRecursion (IsNamedIn names) (take k answers)

pub so-far-start : (s : State) (names : List Name) (waits : List JobOrder) (first : List PendingAnswer) (table : Table) (told : Option (List ToldCall)) (written : JournalState) →
    IsWaiting table s names waits first → weigh_orders waits ≤ 3 * MAX_JOBS → IsSoFar s names first first 0 table told told written written
so-far-start s names waits first table told written waiting fits = record {
  made = [];
  tells = tells_nothing told;
  all = sym (append-nil first);
  orders = [];
  calls = refl;
  by_label = refl;
  noted = grows_nothing written;
  waits = waits;
  waiting = waiting;
  within = omega arith;
  fits = omega (arith, fits);
  named = tt;
}

pub so-far-end : (s : State) (names : List Name) (first answers : List PendingAnswer) (k : ℕ) (table : Table) (told told' : Option (List ToldCall)) (written written' : JournalState) →
    IsSoFar s names first answers k table told told' written written' → length answers ≤ k → AllByRecursion IsTellablePending answers → Settled s names first answers table (trace told written) (trace told' written')
so-far-end s names first answers k table told told' written written' far all tellable =
    let whole : take k answers ≡ answers = take_all k answers all in
    record {
      made = far.made;
      tells = far.tells;
      all = far.all;
      orders = far.orders;
      calls = far.calls;
      by_label = far.by_label ∙ ap (λ ps. orders_in (map (answer_event names) ps) s) whole;
      kept = subst (λ ps. KeepsState table (run (map (answer_event names) ps) s)) whole far.waiting.keeps;
      few = omega (arith, all, far.fits);
      noted = subst (λ ps. Grows written written' (answer_texts names ps)) whole far.noted;
      numbers = far.waiting.numbers;
      tellable = tellable;
      named = subst (AllByRecursion (IsNamedIn names)) whole far.named;
    }

-- one more answer
pub so-far-next : (s : State) (names : List Name) (first answers answers' : List PendingAnswer) (k : ℕ) (d : PendingAnswer) (table table' : Table) (told told' told'' : Option (List ToldCall)) (written written' written'' : JournalState) → k < length answers →
    IsSoFar s names first answers k table told told' written written' →
    ((t : State) (ns : List Name) (job_order : JobOrder) (waits : List JobOrder) (rest : List PendingAnswer) → IsWaiting table t ns (job_order ∷ waits) (get_or answers k d ∷ rest) →
    Handled t ns job_order waits (get_or answers k d) rest answers answers' table' (trace told' written') (trace told'' written'')) →
    IsSoFar s names first answers' (k + 1) table' told told'' written written''
so-far-next s names first answers answers' k d table table' told told' told'' written written' written'' in_range far handles = go far.waits far.fits (subst (IsWaiting table t names far.waits) here far.waiting) where
  t : State
  t = run (map (answer_event names) (take k answers)) s

  p : PendingAnswer
  p = get_or answers k d

  e : Event
  e = answer_event names p

  here : drop k answers ≡ p ∷ drop (suc k) answers
  here = drop-cons answers k d in_range

  go : (waits : List JobOrder) → k + weigh_orders waits ≤ 3 * MAX_JOBS → IsWaiting table t names waits (p ∷ drop (suc k) answers) → IsSoFar s names first answers' (k + 1) table' told told'' written written''
  go [] fits waiting = absurd waiting.theirs
  go (job_order ∷ waits) fits waiting =
      let did = handles t names job_order waits (drop (suc k) answers) waiting in
      let made : List ToldCall = did.executed.entries in
      let next = did.waiting made did.executed.calls in
      let new : List JobOrder = wanting (outcome t e).orders in
      let many : length (drop (suc k) answers ++ answers_in made) ≡ length (waits ++ new) = same-length names (waits ++ new) (drop (suc k) answers ++ answers_in made) next.theirs in
      let heavy : length (waits ++ new) ≤ weigh_orders (waits ++ new) = length-heavy (waits ++ new) next.heavy in
      let less : weigh_orders (waits ++ new) + 1 ≤ weigh_orders (job_order ∷ waits) = omega (arith, weigh-append waits new, did.lighter) in
      let left : length answers ≡ k + 1 + length (drop (suc k) answers) = omega (arith, length-drop (suc k) answers, in_range) in
      let enough : length answers + length (answers_in made) ≤ 3 * MAX_JOBS = omega (arith, many, heavy, less, fits, left, length-append (drop (suc k) answers) (answers_in made)) in
      let grown : answers' ≡ answers ++ answers_in made = did.executed.kept enough in
      let taken : take (k + 1) answers' ≡ take k answers ++ p ∷ [] =
      ap (take (k + 1)) grown ∙ take-append-le (k + 1) answers (answers_in made) (omega (arith, in_range)) ∙ take_more answers k d in_range in
      let events : map (answer_event names) (take (k + 1) answers') ≡ map (answer_event names) (take k answers) ++ e ∷ [] = ap (map (answer_event names)) taken ∙ map-append (answer_event names) (take k answers) (p ∷ []) in
      let texts : answer_texts names (take (k + 1) answers') ≡ answer_texts names (take k answers) ++ answer_text names p =
      ap (answer_texts names) taken ∙ flat_map-append (answer_text names) (take k answers) (p ∷ []) ∙ ap (λ xs. answer_texts names (take k answers) ++ xs) (append-nil (answer_text names p)) in
      let dropped : drop (k + 1) answers' ≡ drop (suc k) answers ++ answers_in made =
      ap (drop (k + 1)) grown ∙ drop-append-le (k + 1) answers (answers_in made) (omega (arith, in_range)) ∙ ap (λ n. drop n answers ++ answers_in made) (add-one k) in
      record {
        made = far.made ++ made;
        tells = tells_append told told' told'' far.made made far.tells did.executed.tells;
        all = grown ∙ ap (λ xs. xs ++ answers_in made) far.all ∙ append_assoc first (answers_in far.made) (answers_in made) ∙ ap (λ xs. first ++ xs) (sym (filter_map-append answer_in far.made made));
        orders = far.orders ++ did.orders;
        calls = map-append (λ x. x.0) far.made made ∙ (λ i. far.calls i ++ did.executed.calls i) ∙ sym (map-append call_of far.orders did.orders);
        by_label = map-append _ far.orders did.orders ∙ (λ i. far.by_label i ++ did.ordered i) ∙ sym (orders-snoc (map (answer_event names) (take k answers)) e s) ∙ ap (λ es. orders_in es s) (sym events);
        noted = subst (Grows written written'') (sym texts) (grows_append written written' written'' (answer_texts names (take k answers)) (answer_text names p) far.noted did.noted);
        waits = waits ++ new;
        waiting = subst (λ es. IsWaiting table' (run es s) names (waits ++ new) (drop (k + 1) answers')) (sym events)
            (subst (λ (u : State). IsWaiting table' u names (waits ++ new) (drop (k + 1) answers')) (sym (run-snoc (map (answer_event names) (take k answers)) e s))
            (subst (IsWaiting table' (step t e) names (waits ++ new)) (sym dropped) next));
        within = omega (arith, in_range, ap length grown, length-append answers (answers_in made));
        fits = omega (arith, less, fits);
        named = subst (AllByRecursion (IsNamedIn names)) (sym taken) (all-more (IsNamedIn names) (take k answers) p far.named did.named);
      }

abbrev pub Handles : Table → Table → List PendingAnswer → List PendingAnswer → Option (List ToldCall) → Option (List ToldCall) → JournalState → JournalState → PendingAnswer → Type 0
Handles table table' answers answers' told' told'' written' written'' p =
    (t : State) (ns : List Name) (job_order : JobOrder) (waits : List JobOrder) (rest : List PendingAnswer) → IsWaiting table t ns (job_order ∷ waits) (p ∷ rest) →
    Handled t ns job_order waits p rest answers answers' table' (trace told' written') (trace told'' written'')

pub so-far-turn : (s : State) (names : List Name) (first answers answers' : List PendingAnswer) (k : ℕ) (p : PendingAnswer) (table table' : Table) (told told' told'' : Option (List ToldCall)) (written written' written'' : JournalState) → k < length answers →
    p ≡ get_or answers k p → IsSoFar s names first answers k table told told' written written' → Handles table table' answers answers' told' told'' written' written'' p →
    IsSoFar s names first answers' (k + 1) table' told told'' written written''
so-far-turn s names first answers answers' k p table table' told told' told'' written written' written'' in_range is far handles =
    so-far-next s names first answers answers' k p table table' told told' told'' written written' written'' in_range far
    (subst (Handles table table' answers answers' told' told'' written' written'') is handles)
