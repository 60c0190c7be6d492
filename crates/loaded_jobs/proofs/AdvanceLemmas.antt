-- A clock reading touches the jobs at the marked places; each other job has it though it did not hear it.
use Rattle.std.proofs.Common.{◌≡◌, ◌⊎◌, inl, inr, ℕ, zero, suc, ◌+◌, ◌==◌, ◌<◌, ◌≤◌, Bool, true, false, not, ◌||◌, ◌&&◌, cond, List, [], ◌∷◌, ◌++◌, map, length, Option, Some, None, is_some, refl, sym, ap, ◌∙◌, subst, arith, Bor}
use Rattle.std.specs.Prelude.{slice_get}
use Rattle.std.specs.List.{list_any, list_all, filter, flat_map, AllByRecursion}
use Rattle.std.proofs.lemmas.Bool.Decides.{nat_tests}
use Rattle.std.proofs.lemmas.Option.{slice_get_within}
use Rattle.place_set.specs.Places.{Places, has_place, place_room}
use Rattle.timer_heap.specs.Timers.{Timers, moment_in}
use Rattle.history_model.specs.declared.Reading.{Reading as Moment}
use Rattle.history_model.specs.declared.CivilMinute.{CivilMinute}
use Rattle.history_model.specs.declared.Entry.{Entry}
use Rattle.history_model.specs.declared.Order.{Order}
use Rattle.history_model.specs.Items.{Item, Read, History}
use Rattle.history_model.specs.Clock.{now}
use Rattle.history_model.specs.Calendar.{allows, matches}
use Rattle.history_model.specs.NextMomentByFacts.{next_by}
use Rattle.history_model.specs.FactsOfPast.{Keeps}
use Rattle.history_model.specs.Labels.{Label}
use Rattle.history_model.specs.Machine.{Job}
use Rattle.history_model.specs.Step.{acts_of, orders_of, received, with_item}
use Rattle.history_model.specs.LaterMoments.{IsLater}
use Rattle.loaded_jobs.proofs.SkippingLemmas.{skipped, skipped-due}
use Rattle.history_model.proofs.DueByFactsLemmas.{next-same}
use Rattle.loaded_jobs.specs.Tables.{Name, IsOnce, definition_of_number, label_of}
use Rattle.loaded_jobs.specs.StandsFor.{KeepsJob, KeepsJobs, IsAtRest, numbered_orders, numbered_all, labelled}
use Rattle.loaded_jobs.specs.Counts.{counts, count_in, next_count, went_up, is_near, IsCounted}
use Rattle.loaded_jobs.specs.JobSlots.{row, name, rows, gone, AllStay}
use Rattle.loaded_jobs.specs.AffectedJobs.{item_for}
use Rattle.loaded_jobs.specs.Receiving.{refusal_if, IsReceived, AreFor, IsAccepted}
use Rattle.loaded_jobs.specs.Visiting.{is_spared, AreSpared, AreAtRest, AreVisitedOnce, count_visited}
use Rattle.loaded_jobs.specs.Index.{moment_for, place_in, AreTimed, AreAlone, ArePlaced, is_minute_among, IsSpare}
use Rattle.loaded_jobs.specs.Marking.{HavePlaces, IsMarked, IsReachedAt, IsMinuteAt}
use Rattle.loaded_jobs.specs.declared.job_slot.JobSlot.{JobSlot}
use Rattle.loaded_jobs.specs.declared.job_slot.AffectedJobs.TheVariants as affected
use Rattle.loaded_jobs.proofs.TouchingLemmas.{IsReason}
use Rattle.loaded_jobs.proofs.ListLemmas.{map-append}
use Rattle.loaded_jobs.proofs.PlacesLemmas.{rows-all}
use Rattle.loaded_jobs.proofs.LabelledLemmas.{IsNamed, is-named, labelled-numbered}
use Rattle.loaded_jobs.proofs.ReceivingLemmas.{label-with}
use Rattle.loaded_jobs.proofs.CountsLemmas.{AreFor as HaveCounts, for-all, goes-up}
use Rattle.history_model.proofs.BooleanLemmas.{or-false, not-false}
use Rattle.history_model.proofs.LawfulLemmas.{eqb-self}

-- ---- slots by place and by number

pub holder : (es : List JobSlot) (number : ℕ) → is_some (definition_of_number (map name es) number) ≡ true → (k : ℕ) × (e : JobSlot) × (slice_get es k ≡ Some e) × (e.number ≡ number)
holder [] number named = cc
holder (x ∷ xs) number named = go (x.number == number) refl named (holder xs number) where
  go : (b : Bool) → (x.number == number) ≡ b → is_some (cond b (Some x.def) (definition_of_number (map name xs) number)) ≡ true →
      (is_some (definition_of_number (map name xs) number) ≡ true → (k : ℕ) × (e : JobSlot) × (slice_get xs k ≡ Some e) × (e.number ≡ number)) →
      (k : ℕ) × (e : JobSlot) × (slice_get (x ∷ xs) k ≡ Some e) × (e.number ≡ number)
  go true is named later = (0, x, refl, grind (arith, nat_tests, is))
  go false is named later = let found = later named in (suc found.0, found.1, found.2, found.3)

pub stay-get : (es : List JobSlot) (k : ℕ) (e : JobSlot) → AllStay es → slice_get es k ≡ Some e → e.has_gone ≡ false
stay-get [] zero e stay at = cc
stay-get [] (suc k) e stay at = cc
stay-get (x ∷ xs) zero e stay at = let same : x ≡ e = cc in ap (λ y. y.has_gone) (sym same) ∙ stay.0
stay-get (x ∷ xs) (suc k) e stay at = stay-get xs k e stay.1 at

-- the slot at the place of a list with the same names
pub name-get : (es later : List JobSlot) (k : ℕ) (e : JobSlot) → map name later ≡ map name es → slice_get later k ≡ Some e → (old : JobSlot) × (slice_get es k ≡ Some old) × (old.number ≡ e.number)
name-get es [] zero e same at = cc
name-get es [] (suc k) e same at = cc
name-get [] (y ∷ ys) k e same at = cc
name-get (x ∷ xs) (y ∷ ys) zero e same at =
    let is : y ≡ e = cc in let named : name y ≡ name x = cc in (x, refl, sym (ap (λ n. n.number) named) ∙ ap (λ z. z.number) is)
name-get (x ∷ xs) (y ∷ ys) (suc k) e same at = let rest : map name ys ≡ map name xs = cc in name-get xs ys k e rest at

-- ---- marks

pub have-places : (es : List JobSlot) (timers : Timers) (places : List ℕ) (marks : Places) → AreAlone timers (map name es) → ArePlaced places es → length es ≤ place_room marks → HavePlaces timers places marks
have-places es timers places marks alone placed fits = λ number moment there.
    let found = holder es number (alone number moment there) in
    let own = placed found.0 found.1 found.2 in
    let inside = slice_get_within es found.0 found.1 found.2 in
    (subst (λ n. n < length places) found.3 own.0, subst (λ n. place_in places n < place_room marks) found.3 (subst (λ p. p < place_room marks) (sym own.1) (omega (arith, inside, fits))))

-- what the two parts of the marking give, if all up to this moment was taken out
pub record AreMarked (es : List JobSlot) (at : Moment) (minutes : List CivilMinute) (up : ℕ) (timers fewer : Timers) (places : List ℕ) (ready1 ready : Places) : Type 0 where
  pub reaches : at.up ≤ up
  pub marked : (number : ℕ) → IsMarked up timers fewer places ready1 number
  pub reached : (place : ℕ) → has_place ready1 place ≡ true → IsReachedAt up timers places place
  pub spared : (place : ℕ) (job_slot : JobSlot) → slice_get es place ≡ Some job_slot → is_spared ready place ≡ true → (is_spared ready1 place ≡ true) × (is_minute_among job_slot.def.calendar minutes ≡ false)
  pub minute : (place : ℕ) → has_place ready place ≡ true → (has_place ready1 place ≡ true) ⊎ IsMinuteAt es minutes place

-- what is later than a moment is later than each before it
before-it : (up later : ℕ) (o : Option ℕ) → up ≤ later → IsLater later o → IsLater up o
before-it up later None order is = tt
before-it up later (Some moment) order is = omega (arith, order, is)

module _ (es : List JobSlot) (stay : AllStay es) (before at : Moment) (minutes : List CivilMinute) (up : ℕ) (timers fewer : Timers) (places : List ℕ) (ready1 ready : Places)
    (timed : AreTimed timers before.up es) (alone : AreAlone timers (map name es)) (placed : ArePlaced places es) (m : AreMarked es at minutes up timers fewer places ready1 ready)
  where
    -- a job that is spared has its moment, and that is later
    spare-moment : (k : ℕ) (e : JobSlot) → slice_get es k ≡ Some e → is_spared ready k ≡ true → IsLater up (moment_in timers e.number) × (moment_in fewer e.number ≡ moment_in timers e.number)
    spare-moment k e there spares = go (m.marked e.number) where
      go : IsMarked up timers fewer places ready1 e.number → IsLater up (moment_in timers e.number) × (moment_in fewer e.number ≡ moment_in timers e.number)
      go (inl both) = both
      go (inr mark) =
          let none : is_spared ready1 k ≡ true = (m.spared k e there spares).0 in
          let some : is_spared ready1 k ≡ false = ap (is_spared ready1) (sym (placed k e there).1) ∙ ap not mark.0 in
          let clash : true ≡ false = sym none ∙ some in absurd (cc clash)

    next-of : (k : ℕ) (e : JobSlot) → slice_get es k ≡ Some e → moment_in timers e.number ≡ next_by e.core.facts before.up
    next-of k e there = timed k e there ∙ ap (λ b. cond b None (next_by e.core.facts before.up)) (stay-get es k e stay there)

    pub is-spare : (k : ℕ) (e : JobSlot) → slice_get es k ≡ Some e → is_spared ready k ≡ true → IsSpare before at minutes e
    is-spare k e there spares = record {
      later = before-it at.up up _ m.reaches (subst (IsLater up) (next-of k e there) (spare-moment k e there spares).0);
      apart = (m.spared k e there spares).1;
    }

    pub spare-timed : before.up ≤ at.up → (k : ℕ) (e : JobSlot) → slice_get es k ≡ Some e → is_spared ready k ≡ true → moment_in fewer e.number ≡ moment_for e at.up
    spare-timed order k e there spares =
        (spare-moment k e there spares).1 ∙ next-of k e there ∙ sym (next-same before.up at.up order e.core.facts (is-spare k e there spares).later)
        ∙ sym (ap (λ b. cond b None (next_by e.core.facts at.up)) (stay-get es k e stay there))

    pub alone-still : AreAlone fewer (map name es)
    alone-still = λ number moment there. go number moment (m.marked number) there where
      go : (number moment : ℕ) → IsMarked up timers fewer places ready1 number → moment_in fewer number ≡ Some moment → is_some (definition_of_number (map name es) number) ≡ true
      go number moment (inl both) there = alone number moment (sym both.1 ∙ there)
      go number moment (inr mark) there = let clash : None ≡ Some moment = sym mark.1 ∙ there in absurd (cc clash)

    pub mark-at : (place : ℕ) → has_place ready place ≡ true → place < length es
    mark-at place there = go (m.minute place there) where
      go : (has_place ready1 place ≡ true) ⊎ IsMinuteAt es minutes place → place < length es
      go (inl first) =
          let reason = m.reached place first in
          let found = holder es reason.0 (alone reason.0 reason.1 reason.3) in
          let own = placed found.0 found.1 found.2 in
          let inside = slice_get_within es found.0 found.1 found.2 in
          let same : place ≡ found.0 = sym reason.2 ∙ ap (place_in places) (sym found.3) ∙ own.1 in
          subst (λ p. p < length es) (sym same) inside
      go (inr minute_at) = slice_get_within es place minute_at.0 minute_at.1

    -- a job with a mark has a moment that is reached, or a minute among these, if no more was taken out than the clock reading reaches
    pub mark-reason : up ≤ at.up → (k : ℕ) (e : JobSlot) → slice_get es k ≡ Some e → is_spared ready k ≡ false → IsReason before at minutes e
    mark-reason within k e there some = by_part (m.minute k (not-false (has_place ready k) some)) where
      by_part : (has_place ready1 k ≡ true) ⊎ IsMinuteAt es minutes k → IsReason before at minutes e
      by_part (inl first) =
          let reason = m.reached k first in
          let found = holder es reason.0 (alone reason.0 reason.1 reason.3) in
          let same_place : k ≡ found.0 = sym reason.2 ∙ ap (place_in places) (sym found.3) ∙ (placed found.0 found.1 found.2).1 in
          let same_entry : Some e ≡ Some found.1 = sym there ∙ ap (slice_get es) same_place ∙ found.2 in
          let job_slot : e ≡ found.1 = cc in
          let number : e.number ≡ reason.0 = ap (λ x. x.number) job_slot ∙ found.3 in
          let due = reason.4 in
          inl (reason.1, sym (next-of k e there) ∙ ap (moment_in timers) number ∙ reason.3, omega (arith, due, within))
      by_part (inr at_minute) =
          let found : Some e ≡ Some at_minute.0 = sym there ∙ at_minute.1 in
          let job_slot : e ≡ at_minute.0 = cc in
          inr (ap (λ x. is_minute_among x.def.calendar minutes) job_slot ∙ at_minute.2)

pub are-marked : (es lent : List JobSlot) (at : Moment) (minutes : List CivilMinute) (up : ℕ) (timers fewer : Timers) (places slice : List ℕ) (ready1 ready : Places) → slice ≡ places → lent ≡ es →
    ((number : ℕ) → IsMarked up timers fewer slice ready1 number) →
    ((place : ℕ) → has_place ready1 place ≡ true → IsReachedAt up timers slice place) →
    ((place : ℕ) (job_slot : JobSlot) → slice_get lent place ≡ Some job_slot → is_spared ready place ≡ true → (is_spared ready1 place ≡ true) × (is_minute_among job_slot.def.calendar minutes ≡ false)) →
    ((place : ℕ) → has_place ready place ≡ true → (has_place ready1 place ≡ true) ⊎ IsMinuteAt lent minutes place) →
    at.up ≤ up → AreMarked es at minutes up timers fewer places ready1 ready
are-marked es lent at minutes up timers fewer places slice ready1 ready same all marked reached spared minute reaches = record {
  reaches = reaches;
  marked = λ number. subst (λ ps. IsMarked up timers fewer ps ready1 number) same (marked number);
  reached = λ place there. subst (λ ps. IsReachedAt up timers ps place) same (reached place there);
  spared = λ place job_slot there none. spared place job_slot (ap (λ xs. slice_get xs place) all ∙ there) none;
  minute = λ place there. subst (λ xs. (has_place ready1 place ≡ true) ⊎ IsMinuteAt xs minutes place) all (minute place there);
}

-- ---- spared jobs

none-match : (calendar : List Entry) (minute : CivilMinute) → list_any (λ entry. allows entry.minute minute.minute) calendar ≡ false → list_any (λ entry. matches entry minute) calendar ≡ false
none-match [] minute none = refl
none-match (entry ∷ rest) minute none =
    let both = or-false (allows entry.minute minute.minute) (list_any (λ entry. allows entry.minute minute.minute) rest) none in
    rw (both.0, none-match rest minute both.1) refl

none-fires : (calendar : List Entry) (minutes : List CivilMinute) → is_minute_among calendar minutes ≡ false → list_any (λ minute. list_any (λ entry. matches entry minute) calendar) minutes ≡ false
none-fires calendar [] none = refl
none-fires calendar (minute ∷ rest) none =
    let both = or-false (list_any (λ entry. allows entry.minute minute.minute) calendar) (is_minute_among calendar rest) none in
    rw (none-match calendar minute both.0, none-fires calendar rest both.1) refl

module _ (before at : Moment) (minutes : Bor (List CivilMinute)) (order : before.up ≤ at.up) where
  kept-flag : (e : JobSlot) (b : Bool) → b ≡ false → IsLater at.up (next_by e.core.facts before.up) → (past : History) → Keeps e.core.facts past → before ≡ now past →
      refusal_if (Some (Read at b)) past ≡ None → Keeps e.core.facts (Read at b ∷ past)
  kept-flag e true none later past keeps present fine = cc
  kept-flag e false none later past keeps present fine =
      skipped e.core.facts past at keeps (subst (λ r. r.up ≤ at.up) present order) fine (subst (λ r. IsLater at.up (next_by e.core.facts r.up)) present later)

  pub received-spare : (e : JobSlot) → IsSpare before at minutes.now e → IsReceived before (item_for (affected.Reading at minutes) e.def) e e
  received-spare e spare = record {
    name = refl;
    going = refl;
    decided = refl;
    kept = kept-flag e (list_any (λ minute. list_any (λ entry. matches entry minute) e.def.calendar) minutes.now) (none-fires e.def.calendar minutes.now spare.apart) spare.later;
  }

  rest-flag : (e : JobSlot) (job : Job) (b : Bool) → b ≡ false → IsLater at.up (next_by e.core.facts before.up) → Keeps e.core.facts job.past → before ≡ now job.past →
      refusal_if (Some (Read at b)) job.past ≡ None → IsAtRest job → IsAtRest (with_item job (Some (Read at b)))
  rest-flag e job true none later keeps present fine rest = cc
  rest-flag e job false none later keeps present fine rest =
      (skipped-due e.core.facts job.past at keeps (subst (λ r. r.up ≤ at.up) present order) fine (subst (λ r. IsLater at.up (next_by e.core.facts r.up)) present later) ∙ rest.0, rest.1)

  rest-spare : (e : JobSlot) (job : Job) (o : Option Item) → item_for (affected.Reading at minutes) e.def ≡ o → IsSpare before at minutes.now e → KeepsJob before (row e) job →
      refusal_if o job.past ≡ None → IsAtRest job → IsAtRest (with_item job o)
  rest-spare e job o same spare keeps fine rest =
      subst (λ p. IsAtRest (with_item job p)) same
      (rest-flag e job (list_any (λ minute. list_any (λ entry. matches entry minute) e.def.calendar) minutes.now) (none-fires e.def.calendar minutes.now spare.apart) spare.later keeps.keeps keeps.present
      (ap (λ p. refusal_if p job.past) same ∙ fine) rest)

  module _ (ready : Places) where
    pub spared-all : (place : ℕ) (es : List JobSlot) → ((k : ℕ) (e : JobSlot) → slice_get es k ≡ Some e → is_spared ready (place + k) ≡ true → IsSpare before at minutes.now e) →
        AreSpared (is_spared ready) before (item_for (affected.Reading at minutes)) place es
    spared-all place [] spares = tt
    spared-all place (e ∷ es) spares = (
      λ none. received-spare e (spares 0 e refl (subst (λ p. is_spared ready p ≡ true) (omega arith) none)),
      spared-all (suc place) es (λ k x there none. spares (suc k) x there (subst (λ p. is_spared ready p ≡ true) (omega arith) none)),
    )

    pub rest-all : (item : Job → Option Item) → IsAccepted before item → (place : ℕ) (es : List JobSlot) (jobs : List Job) →
        ((k : ℕ) (e : JobSlot) → slice_get es k ≡ Some e → is_spared ready (place + k) ≡ true → IsSpare before at minutes.now e) →
        AreFor (item_for (affected.Reading at minutes)) item (map row es) jobs → KeepsJobs before (map row es) jobs → AllByRecursion IsAtRest jobs → AreAtRest (is_spared ready) place (received item jobs)
    rest-all item accepted place [] [] spares for keeps rests = tt
    rest-all item accepted place [] (job ∷ jobs) spares for keeps rests = absurd keeps
    rest-all item accepted place (e ∷ es) [] spares for keeps rests = tt
    rest-all item accepted place (e ∷ es) (job ∷ jobs) spares for keeps rests = (
      λ none. rest-spare e job (item job) for.0 (spares 0 e refl (subst (λ p. is_spared ready p ≡ true) (omega arith) none)) keeps.0 (accepted job keeps.0.present) rests.0,
      rest-all item accepted (suc place) es jobs (λ k x there none. spares (suc k) x there (subst (λ p. is_spared ready p ≡ true) (omega arith) none)) for.1 keeps.1 rests.1,
    )

-- ---- orders by label

labels-received : (before : Moment) (item : Job → Option Item) (names : List Name) (es : List JobSlot) (jobs : List Job) → IsNamed names es → KeepsJobs before (map row es) jobs →
    labelled names (numbered_all (map row es) (received item jobs)) ≡ flat_map orders_of (received item jobs)
labels-received before item names [] [] named keeps = refl
labels-received before item names [] (job ∷ jobs) named keeps = absurd keeps
labels-received before item names (e ∷ es) [] named keeps = absurd keeps
labels-received before item names (e ∷ es) (job ∷ jobs) named keeps =
    let next = with_item job (item job) in
    map-append (λ order. (label_of names order.job, order.act)) (numbered_orders e.number (acts_of next.past)) (numbered_all (map row es) (received item jobs))
    ∙ (λ i. labelled-numbered names e.number (acts_of next.past) i ++ labels-received before item names es jobs named.1 keeps.1 i)
    ∙ ap (λ l. map (λ act. (l, act)) (acts_of next.past) ++ flat_map orders_of (received item jobs)) (named.0 ∙ keeps.0.label ∙ label-with job (item job))

pub received-labelled : (before : Moment) (item : Job → Option Item) (names : List Name) (es : List JobSlot) (orders : List Order) (jobs : List Job) →
    names ≡ map name es → AllStay es → IsOnce (map name es) → KeepsJobs before (rows es) jobs → orders ≡ numbered_all (rows es) (received item jobs) →
    labelled names orders ≡ flat_map orders_of (received item jobs)
received-labelled before item names es orders jobs same stay once keeps wanted =
    (λ i. labelled (same i) (wanted i)) ∙ ap (λ rs. labelled (map name es) (numbered_all rs (received item jobs))) (rows-all es stay)
    ∙ labels-received before item (map name es) es jobs (is-named es once) (subst (λ rs. KeepsJobs before rs jobs) (rows-all es stay) keeps)

-- ---- counts

module _ (is_passed : ℕ → Bool) where
  stays-put : (all : List (Label × ℕ)) (e new : JobSlot) → name new ≡ name e → count_in all e.def.label ≡ e.core.decided → new.core.decided ≡ e.core.decided →
      (went_up all (row new) ≡ false) × (is_near all (row new) ≡ true)
  stays-put all e new named before still =
      let at : count_in all new.def.label ≡ e.core.decided = ap (λ n. count_in all n.described.label) named ∙ before in
      let same : (new.core.decided == count_in all new.def.label) ≡ true = (λ i. still i == at i) ∙ eqb-self e.core.decided in
      (ap not same, λ i. not (not (same i)) || (new.core.decided == next_count (count_in all new.def.label)))

  visits : (all : List (Label × ℕ)) (place : ℕ) (es later : List JobSlot) → HaveCounts all es → AreVisitedOnce is_passed place es later →
      (list_all (is_near all) (rows later) ≡ true) × (count_visited is_passed place later ≡ length (filter (went_up all) (rows later))) × (list_any (went_up all) (gone later) ≡ false)
  visits all place [] [] is visited_once = (refl, refl, refl)
  visits all place [] (n ∷ ns) is visited_once = absurd visited_once
  visits all place (e ∷ es) [] is visited_once = absurd visited_once
  visits all place (e ∷ es) (n ∷ ns) is visited_once = go n.has_gone (is_passed place) visited_once.1 (visits all (suc place) es ns is.1 visited_once.3)
    where
      go : (b s : Bool) → n.core.decided ≡ cond (b || s) e.core.decided (next_count e.core.decided) →
          (list_all (is_near all) (rows ns) ≡ true) × (count_visited is_passed (suc place) ns ≡ length (filter (went_up all) (rows ns))) × (list_any (went_up all) (gone ns) ≡ false) →
          (list_all (is_near all) (cond b (rows ns) (row n ∷ rows ns)) ≡ true)
          × (cond (b || s) (count_visited is_passed (suc place) ns) (suc (count_visited is_passed (suc place) ns)) ≡ length (filter (went_up all) (cond b (rows ns) (row n ∷ rows ns))))
          × (list_any (went_up all) (cond b (row n ∷ gone ns) (gone ns)) ≡ false)
      go true s up later =
          let one = stays-put all e n visited_once.0 is.0 up in (later.0, later.1, λ i. one.0 i || later.2 i)
      go false true up later =
          let one = stays-put all e n visited_once.0 is.0 up in (
            (λ i. one.1 i && later.0 i),
            later.1 ∙ ap (λ b. length (cond b (row n ∷ filter (went_up all) (rows ns)) (filter (went_up all) (rows ns)))) (sym one.0),
            later.2,
          )
      go false false up later =
          let one = goes-up all e n visited_once.0 is.0 up in (
            (λ i. one.1 i && later.0 i),
            ap suc later.1 ∙ ap (λ b. length (cond b (row n ∷ filter (went_up all) (rows ns)) (filter (went_up all) (rows ns)))) (sym one.0),
            later.2,
          )

  pub visits-counted : (es later : List JobSlot) (visited : ℕ) → AllStay es → IsOnce (map name es) → AreVisitedOnce is_passed 0 es later → visited ≡ count_visited is_passed 0 later → IsCounted (counts (rows es)) (rows later) (gone later) visited
  visits-counted es later visited stay once visited_once many =
      let done = visits (counts (map row es)) 0 es later (for-all es once) visited_once in
      subst (λ rs. IsCounted (counts rs) (rows later) (gone later) visited) (sym (rows-all es stay)) (record { each = done.0; visited = many ∙ done.1; unasked = done.2 })
