-- An event of one job: what its answer and its order come to for the table, and which place its number has.
use Rattle.std.proofs.Common.{◌≡◌, ℕ, ◌==◌, ◌<◌, ◌≤◌, ◌+◌, Bool, true, false, not, cond, List, [], ◌∷◌, map, length, Option, Some, None, refl, sym, ap, ◌∙◌, subst}
use Rattle.std.specs.Prelude.{nat_lt, Result, Ok, Err, OnOk, OnErr}
use Rattle.std.specs.List.{position, prefix_len, AllByRecursion}
use Rattle.std.specs.Option.{ForSome}
use Rattle.std.proofs.lemmas.Bool.{eqb-true, false≢true}
use Rattle.history_model.specs.declared.Refusal.{Refusal}
use Rattle.history_model.specs.declared.TheConstants.{MAX_UP}
use Rattle.history_model.specs.Items.{Item}
use Rattle.history_model.specs.FactsOfPast.{reply}
use Rattle.history_model.specs.Labels.{Label, is_label, is_same}
use Rattle.history_model.specs.Machine.{State, Event, past_of}
use Rattle.history_model.specs.Acceptance.{refusal_at, refusal_in}
use Rattle.history_model.specs.Step.{taken, received_one, with_orders}
use Rattle.history_model.specs.Texts.{text_after}
use Rattle.history_model.proofs.FreshOrdersLemmas.{differ-sym}
use Rattle.history_model.proofs.LabelOrderLemmas.{same_self}
use Rattle.loaded_jobs.specs.Tables.{Name, Table, IsOther, IsOnce, label_of}
use Rattle.loaded_jobs.specs.JobSlots.{row, name, rows, has_label, has_number}
use Rattle.loaded_jobs.specs.Alike.{IsAlike}
use Rattle.loaded_jobs.specs.Counts.{counts, Counts, IsCounted}
use Rattle.loaded_jobs.specs.Loads.{refused_with}
use Rattle.loaded_jobs.specs.Room.{HasSameRoom}
use Rattle.loaded_jobs.specs.Numbers.{row_names, KeepsNames}
use Rattle.loaded_jobs.specs.TableOutcomes.{plain_outcome, IsOrderedFrom}
use Rattle.loaded_jobs.specs.Sound.{seen_table}
use Rattle.loaded_jobs.specs.StandsFor.{KeepsState}
use Rattle.loaded_jobs.specs.Telling.{IsTold}
use Rattle.loaded_jobs.specs.declared.job_slot.JobSlot.{JobSlot}
use Rattle.loaded_jobs.specs.declared.jobs.Jobs.{Jobs}
use Rattle.loaded_jobs.proofs.EventsLemmas.{alike-both, alike-state}
use Rattle.loaded_jobs.proofs.FirstLemmas.{first-where, within-where}
use Rattle.loaded_jobs.proofs.NumbersLemmas.{swapped}
use Rattle.loaded_jobs.proofs.OutcomesLemmas.{IsDone, decides}

-- ---- the answer

pub refusal-reply : (o : Option Refusal) → refused_with (reply o) ≡ o
refusal-reply None = refl
refusal-reply (Some refusal) = refl

replied : (result : Result (Unit {0}) Refusal) (o : Option Refusal) → refused_with result ≡ o → result ≡ reply o
replied (Ok done) None is = refl
replied (Ok done) (Some refusal) is = cc
replied (Err refusal) None is = cc
replied (Err refusal) (Some other) is = let same : refusal ≡ other = cc in ap (λ r. Err r) same

on-ok : {P Q : Type 0} (result : Result (Unit {0}) Refusal) → (P → Q) → OnOk result P → OnOk result Q
on-ok (Ok done) so holds = so holds
on-ok (Err refusal) so holds = tt

on-err : {P Q : Type 0} (result : Result (Unit {0}) Refusal) → (P → Q) → OnErr result P → OnErr result Q
on-err (Ok done) so holds = tt
on-err (Err refusal) so holds = so holds

-- what the job was told is the machine's event
pub told-done : (old begun new : Jobs) (s : State) (e : Event) (label : Label) (item : Item) (result : Result (Unit {0}) Refusal) → IsAlike old begun → rows begun.job_slots.items ≡ rows old.job_slots.items →
    IsAlike begun new → old.reading.up ≤ MAX_UP → IsTold label item (seen_table begun) result (seen_table new) → taken s e ≡ record s { jobs = received_one label item s.jobs } →
    refusal_in s e ≡ refusal_at (past_of s label) item → text_after e (with_orders (taken s e)) ≡ [] → KeepsState (seen_table old) s → IsDone s e (seen_table new) (plain_outcome result (seen_table new))
told-done old begun new s e label item result begins same tells range told takes refusal quiet keeps =
    let start = alike-state old begun s begins keeps same in
    decides (seen_table old) (seen_table new) s e result range keeps (replied result (refusal_in s e) (told.answer s start ∙ sym refusal))
    (on-ok result (λ asked none. subst (IsOrderedFrom (seen_table new)) (sym takes) (asked s start)) told.asked)
    (on-err result (λ stays t before. alike-state old new t (alike-both begins tells) before (stays ∙ same)) told.same)
    quiet

pub counts-from : (result : Result (Unit {0}) Refusal) (old begun new : Table) → begun.rows ≡ old.rows → Counts result begun new → Counts result old new
counts-from (Ok done) old begun new same counted = subst (λ rs. IsCounted (counts rs) new.rows new.gone new.visited) same counted
counts-from (Err refusal) old begun new same counted = counted ∙ same

pub names-from : (result : Result (Unit {0}) Refusal) (old begun new : Table) → begun.rows ≡ old.rows → KeepsNames result begun new → KeepsNames result old new
names-from (Ok done) old begun new same named = named ∙ ap row_names same
names-from (Err refusal) old begun new same named = tt

pub same-room : {old begun new : Table} → HasSameRoom old begun → HasSameRoom begun new → HasSameRoom old new
same-room first then = record {
  jobs = then.jobs ∙ first.jobs;
  orders = then.orders ∙ first.orders;
  settings = then.settings ∙ first.settings;
  numbers = then.numbers ∙ first.numbers;
  moments = then.moments ∙ first.moments;
  marks = then.marks ∙ first.marks;
  places = then.places ∙ first.places;
  triggers = then.triggers ∙ first.triggers;
}

-- ---- the place

pub place-inside : {X : Type 0} (p : X → Bool) (xs : List X) (found : Option ℕ) → found ≡ position p xs → ForSome found (λ place. place < length xs)
place-inside p xs found at = λ place is. within-where p xs place (first-where p xs place (sym is ∙ at))

-- the number stands for this label, and no other does
abbrev Agrees : ℕ → Label → List Name → Type 0
Agrees number label names = AllByRecursion (λ (m : Name). (m.number == number) ≡ is_same label m.described.label) names

apart-from : (m : Name) (names : List Name) (number : ℕ) → m.number ≡ number → IsOther m names → Agrees number m.described.label names
apart-from m [] number is other = tt
apart-from m (one ∷ names) number is other =
    (ap (λ n. one.number == n) (sym is) ∙ swapped m.number one.number other.0 ∙ sym other.1, apart-from m names number is other.2)

other-known : (m : Name) (names : List Name) (number : ℕ) → IsOther m names → is_label (label_of names number) ≡ true → is_same (label_of names number) m.described.label ≡ false
other-known m [] number other is = absurd (false≢true is)
other-known m (one ∷ names) number other is = go (one.number == number) (other-known m names number other.2) is where
  go : (b : Bool) → (is_label (label_of names number) ≡ true → is_same (label_of names number) m.described.label ≡ false) →
      is_label (cond b one.described.label (label_of names number)) ≡ true → is_same (cond b one.described.label (label_of names number)) m.described.label ≡ false
  go true later is = differ-sym m.described.label one.described.label other.1
  go false later is = later is

agrees : (names : List Name) (number : ℕ) → IsOnce names → is_label (label_of names number) ≡ true → Agrees number (label_of names number) names
agrees [] number once is = tt
agrees (m ∷ names) number once is = go (m.number == number) refl (agrees names number once.1) is where
  go : (b : Bool) → (m.number == number) ≡ b → (is_label (label_of names number) ≡ true → Agrees number (label_of names number) names) →
      is_label (cond b m.described.label (label_of names number)) ≡ true → Agrees number (cond b m.described.label (label_of names number)) (m ∷ names)
  go true at later is = (at ∙ sym (same_self m.described.label), apart-from m names number (eqb-true m.number number at) once.0)
  go false at later is = (at ∙ sym (other-known m names number once.0 is), later is)

rows-agree : (number : ℕ) (label : Label) (es : List JobSlot) → Agrees number label (map name es) → Agrees number label (row_names (rows es))
rows-agree number label [] all = tt
rows-agree number label (e ∷ es) all = go e.has_gone (rows-agree number label es all.1) where
  go : (b : Bool) → Agrees number label (row_names (rows es)) → Agrees number label (row_names (cond b (rows es) (row e ∷ rows es)))
  go true rest = rest
  go false rest = (all.0, rest)

job_slots-agree : (number : ℕ) (label : Label) (es : List JobSlot) → Agrees number label (map name es) → AllByRecursion (λ e. has_number number e ≡ has_label label e) es
job_slots-agree number label [] all = tt
job_slots-agree number label (e ∷ es) all = (all.0, job_slots-agree number label es all.1)

prefix-same : {X : Type 0} (p q : X → Bool) (xs : List X) → AllByRecursion (λ x. p x ≡ q x) xs → prefix_len (λ x. not (p x)) xs ≡ prefix_len (λ x. not (q x)) xs
prefix-same p q [] each = refl
prefix-same p q (x ∷ xs) each = let rest = prefix-same p q xs each.1 in λ i. cond (not (each.0 i)) (1 + rest i) 0

position-same : {X : Type 0} (p q : X → Bool) (xs : List X) → AllByRecursion (λ x. p x ≡ q x) xs → position p xs ≡ position q xs
position-same p q xs each = ap (λ k. cond (nat_lt k (length xs)) (Some k) None) (prefix-same p q xs each)

-- once the jobs that left are dropped, the job of the number is where the job of its label is
pub number-label : (es later : List JobSlot) (number : ℕ) → IsOnce (map name es) → map name later ≡ row_names (rows es) → is_label (label_of (map name es) number) ≡ true →
    position (has_number number) later ≡ position (has_label (label_of (map name es) number)) later
number-label es later number once same is =
    let label = label_of (map name es) number in
    position-same (has_number number) (has_label label) later
    (job_slots-agree number label later (subst (Agrees number label) (sym same) (rows-agree number label es (agrees (map name es) number once is))))
