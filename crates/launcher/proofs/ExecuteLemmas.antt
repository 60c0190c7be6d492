-- What holds once one more order was carried out on the outside.
use Rattle.std.proofs.Common.{◌≡◌, ℕ, zero, suc, ◌+◌, ◌*◌, ◌<◌, ◌≤◌, Bool, true, List, [], ◌∷◌, ◌++◌, map, take, length, get_or, Option, Some, None, refl, sym, ap, subst, ◌∙◌, append_assoc, arith, length-append}
use Rattle.std.specs.List.{list_all, cons_option}
use Rattle.std.proofs.lemmas.List.{append-nil, map-append, take_more}
use Rattle.std.proofs.lemmas.List.Elements.{filter_map-append}
use Rattle.history_model.specs.declared.Order.{Order}
use Rattle.child_edge.specs.Calls.{Tells, ToldCall}
use Rattle.child_edge.proofs.CallsLemmas.{tells_nothing, tells_append}
use Rattle.outside.specs.declared.pending_answer.PendingAnswer.{PendingAnswer}
use Rattle.outside.specs.Orders.{call_of, calls_in, answer_in, answers_in, Executes}
use Rattle.launcher.specs.HostTurns.{Executed}
use Rattle.history_model.proofs.BooleanLemmas.{and-both}
use Rattle.history_model.specs.declared.TheConstants.{MAX_JOBS}

pub none_carried : (old : List PendingAnswer) (told : Option (List ToldCall)) → Executed [] old old told told
none_carried old told = record { entries = []; tells = tells_nothing told; calls = refl; kept = λ fits. sym (append-nil old) }

-- the answer, if there is one, is kept if there is room
abbrev pub IsKept : Option PendingAnswer → List PendingAnswer → List PendingAnswer → Type 0
IsKept None old new = new ≡ old
IsKept (Some pending) old new = length old < 3 * MAX_JOBS → new ≡ old ++ pending ∷ []

kept-more : (o : Option PendingAnswer) (old mid new made : List PendingAnswer) → (length old + length made ≤ 3 * MAX_JOBS → mid ≡ old ++ made) → IsKept o mid new →
    length old + length (made ++ cons_option o []) ≤ 3 * MAX_JOBS → new ≡ old ++ (made ++ cons_option o [])
kept-more None old mid new made before is fits =
    let short : length old + length made ≤ 3 * MAX_JOBS = omega (arith, ap length (append-nil made), fits) in
    is ∙ before short ∙ ap (λ xs. old ++ xs) (sym (append-nil made))
kept-more (Some p) old mid new made before is fits =
    let long : length (made ++ p ∷ []) ≡ length made + 1 = length-append made (p ∷ []) in
    let short : length old + length made ≤ 3 * MAX_JOBS = omega (arith, long, fits) in
    let same : mid ≡ old ++ made = before short in
    let size : length mid ≡ length old + length made = ap length same ∙ length-append old made in
    let below : length mid < 3 * MAX_JOBS = omega (arith, size, long, fits) in
    is below ∙ ap (λ xs. xs ++ p ∷ []) same ∙ append_assoc old made (p ∷ [])

pub executed-more : (orders : List Order) (order : Order) (old mid new : List PendingAnswer) (pending : Option PendingAnswer) (a b c : Option (List ToldCall)) →
    Executed orders old mid a b → Executes order pending b c → IsKept pending mid new → Executed (orders ++ order ∷ []) old new a c
executed-more orders order old mid new pending a b c before one kept =
    let entry : ToldCall = (call_of order, one.answer) in
    let gives : answers_in (entry ∷ []) ≡ cons_option pending [] = ap (λ o. cons_option o []) (sym one.gives) in
    let all : answers_in (before.entries ++ entry ∷ []) ≡ answers_in before.entries ++ cons_option pending [] =
    filter_map-append answer_in before.entries (entry ∷ []) ∙ ap (λ xs. answers_in before.entries ++ xs) gives in
    record {
      entries = before.entries ++ entry ∷ [];
      tells = tells_append a b c before.entries (entry ∷ []) before.tells one.tells;
      calls = map-append (λ e. e.0) before.entries (entry ∷ []) ∙ ap (λ xs. xs ++ call_of order ∷ []) before.calls ∙ sym (map-append call_of orders (order ∷ []));
      kept = λ fits. kept-more pending old mid new (answers_in before.entries) before.kept kept (omega (arith, ap length all, fits)) ∙ ap (λ xs. old ++ xs) (sym all);
    }

pub turn-more : (orders : List Order) (i : ℕ) (d : Order) (old mid new : List PendingAnswer) (pending : Option PendingAnswer) (a b c : Option (List ToldCall)) → i < length orders →
    Executed (take i orders) old mid a b → Executes (get_or orders i d) pending b c → IsKept pending mid new → Executed (take (i + 1) orders) old new a c
turn-more orders i d old mid new pending a b c within before one kept =
    subst (λ os. Executed os old new a c) (sym (take_more orders i d within)) (executed-more (take i orders) (get_or orders i d) old mid new pending a b c before one kept)

-- between two orders nothing is called
pub turn-more-between : (orders : List Order) (i : ℕ) (d : Order) (old mid new : List PendingAnswer) (pending : Option PendingAnswer) (a b ready c : Option (List ToldCall)) → i < length orders →
    Executed (take i orders) old mid a b → ready ≡ b → Executes (get_or orders i d) pending ready c → IsKept pending mid new → Executed (take (i + 1) orders) old new a c
turn-more-between orders i d old mid new pending a b ready c within before same one kept =
    let from : Executes (get_or orders i d) pending b c = subst (λ calls. Executes (get_or orders i d) pending calls c) same one in
    turn-more orders i d old mid new pending a b c within before from kept

pub all-at : {X : Type 0} (p : X → Bool) (xs : List X) (i : ℕ) (d : X) → i < length xs → list_all p xs ≡ true → p (get_or xs i d) ≡ true
all-at p [] i d within all = absurd (omega (arith, within))
all-at p (x ∷ xs) zero d within all = (and-both (p x) (list_all p xs) all).0
all-at p (x ∷ xs) (suc i) d within all = all-at p xs i d (omega (arith, within)) (and-both (p x) (list_all p xs) all).1

-- no order, no call
pub none-called : (orders : List Order) (old new : List PendingAnswer) (told told' : Option (List ToldCall)) → orders ≡ [] → Executed orders old new told told' → Tells told [] told'
none-called orders old new told told' none executed = go executed.entries (executed.calls ∙ ap (map call_of) none) executed.tells where
  go : (entries : List ToldCall) → calls_in entries ≡ [] → Tells told entries told' → Tells told [] told'
  go [] is tells = tells
  go (entry ∷ entries) is tells = cc
