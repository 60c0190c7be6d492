-- The jobs that an event does not reach have nothing to do, and are left as they are.
use Rattle.std.proofs.Common.{◌≡◌, ◌≢◌, ℕ, zero, suc, ◌+◌, ◌==◌, ◌<◌, Bool, true, false, not, cond, List, [], ◌∷◌, map, length, get_or, Option, Some, None, refl, sym, ap, ◌∙◌, subst, arith, Bor}
use Rattle.std.specs.Prelude.{slice_get, slice_set, if◌then◌else◌}
use Rattle.std.specs.List.{position, filter, filter_map, flat_map, AllByRecursion}
use Rattle.std.proofs.lemmas.Bool.Decides.{nat_tests}
use Rattle.std.proofs.lemmas.Option.{slice_get_within}
use Rattle.timer_heap.specs.Timers.{moment_in}
use Rattle.history_model.specs.declared.Reading.{Reading as Moment}
use Rattle.history_model.specs.Items.{Item, Saw, History}
use Rattle.history_model.specs.declared.Obs.{Obs}
use Rattle.history_model.specs.Clock.{definition_of}
use Rattle.history_model.specs.Labels.{Label, is_same}
use Rattle.history_model.specs.Search.{first}
use Rattle.history_model.specs.Machine.{State, Job, is_of, past_in}
use Rattle.history_model.specs.Step.{lists, received, received as received_of, received_one, with_item, stays, orders_of}
use Rattle.history_model.specs.Definitions.{definition}
use Rattle.history_model.specs.Described.{Described}
use Rattle.loaded_jobs.specs.Tables.{Row, Name, IsOther, IsOnce}
use Rattle.loaded_jobs.specs.StandsFor.{KeepsJobs, KeepsState, IsAtRest, labelled}
use Rattle.loaded_jobs.specs.Sound.{seen_table}
use Rattle.loaded_jobs.specs.Alike.{IsAlike}
use Rattle.loaded_jobs.specs.Index.{moment_for, place_in, ArePlaced, IsIndexed}
use Rattle.loaded_jobs.specs.Counts.{counts, count_in}
use Rattle.loaded_jobs.specs.JobSlots.{row, name, rows, AllStay, has_label}
use Rattle.loaded_jobs.specs.AffectedJobs.{item_for, reaches, nothing_for, is_at}
use Rattle.loaded_jobs.specs.Receiving.{AreFor, IsAccepted}
use Rattle.loaded_jobs.specs.Touched.{IsChangedAt, IsHandedAt, AreTimedBut, RestBut, SparesBut}
use Rattle.loaded_jobs.specs.Visiting.{AreSpared, AreAtRest, AreVisitedOnce}
use Rattle.loaded_jobs.specs.declared.job_slot.AffectedJobs.{AffectedJobs}
use Rattle.loaded_jobs.specs.declared.job_slot.AffectedJobs.TheVariants.{Shutdown, Reading, Observation}
use Rattle.loaded_jobs.proofs.ReceivingLemmas.{received-as, received-nothing}
use Rattle.loaded_jobs.specs.declared.job_slot.JobSlot.{JobSlot}
use Rattle.loaded_jobs.specs.declared.jobs.Jobs.{Jobs}
use Rattle.loaded_jobs.proofs.MomentsLemmas.{set-same, set-other}
use Rattle.loaded_jobs.proofs.FirstLemmas.{IsFirstWhere, first-where, within-where}
use Rattle.loaded_jobs.proofs.PlacesLemmas.{IsFirstAt, rows-all}
use Rattle.loaded_jobs.proofs.AdvanceLemmas.{name-get}
use Rattle.loaded_jobs.specs.TableOutcomes.{IsOrderedFrom}
use Rattle.loaded_jobs.proofs.EventsLemmas.{IsHead, own-jobs, with_orders-so}
use Rattle.loaded_jobs.proofs.SettingLemmas.{is-label}
use Rattle.history_model.proofs.LabelOrderLemmas.{same_self}
use Rattle.history_model.proofs.FreshOrdersLemmas.{differ-sym}

-- ---- a job that the event does not reach

pub none-for : (affected : AffectedJobs) (place : ℕ) (d : Described) → reaches affected place d ≡ false → item_for affected d ≡ None
none-for Shutdown place d apart = cc
none-for (Reading at minutes) place d apart = cc
none-for (Observation path obs) place d apart = ap (λ b. if b then Some (Saw path.now obs) else None) apart

pub not-true : (s b : Bool) → s ≡ not b → s ≡ true → b ≡ false
not-true s true is held = let clash : true ≡ false = sym held ∙ is in absurd (cc clash)
not-true s false is held = refl

module _ (reached : ℕ → Described → Bool) (is_passed : ℕ → Bool) where
  -- from this place on: the jobs that are reached are visited, and no other
  abbrev pub AreMarked : ℕ → List JobSlot → Type 0
  AreMarked place es = (k : ℕ) (e : JobSlot) → slice_get es k ≡ Some e → is_passed (place + k) ≡ not (reached (place + k) e.def)

  at-head : (place : ℕ) (e : JobSlot) (es : List JobSlot) → AreMarked place (e ∷ es) → is_passed place ≡ true → reached place e.def ≡ false
  at-head place e es marked none =
      not-true (is_passed place) (reached place e.def) (subst (λ p. is_passed p ≡ not (reached p e.def)) (omega arith) (marked 0 e refl)) none

  at-tail : (place : ℕ) (e : JobSlot) (es : List JobSlot) → AreMarked place (e ∷ es) → AreMarked (suc place) es
  at-tail place e es marked = λ k x there. subst (λ p. is_passed p ≡ not (reached p x.def)) (omega arith) (marked (suc k) x there)

  module _ (receives : Described → Option Item) (none : (place : ℕ) (d : Described) → reached place d ≡ false → receives d ≡ None) where
    pub spared-all : (at : Moment) (place : ℕ) (es : List JobSlot) → AreMarked place es → AreSpared is_passed at receives place es
    spared-all at place [] marked = tt
    spared-all at place (e ∷ es) marked =
        (λ passed. received-as (sym (none place e.def (at-head place e es marked passed))) received-nothing, spared-all at (suc place) es (at-tail place e es marked))

    pub rest-all : (at : Moment) (item : Job → Option Item) (place : ℕ) (es : List JobSlot) (jobs : List Job) → AreMarked place es → AreFor receives item (map row es) jobs → KeepsJobs at (map row es) jobs →
        RestBut reached place (map row es) jobs → AreAtRest is_passed place (received item jobs)
    rest-all at item place [] [] marked for keeps rests = tt
    rest-all at item place [] (job ∷ jobs) marked for keeps rests = absurd keeps
    rest-all at item place (e ∷ es) [] marked for keeps rests = tt
    rest-all at item place (e ∷ es) (job ∷ jobs) marked for keeps rests = (
      λ passed. (let apart = at-head place e es marked passed in subst (λ o. IsAtRest (with_item job o)) (sym (none place e.def apart) ∙ for.0) (rests.0 apart)),
      rest-all at item (suc place) es jobs (at-tail place e es marked) for.1 keeps.1 rests.1,
    )

pub marked-at : (reached : ℕ → Described → Bool) (is_passed : ℕ → Bool) (lent es : List JobSlot) → lent ≡ es →
    ((k : ℕ) (e : JobSlot) → slice_get lent k ≡ Some e → is_passed k ≡ not (reached k e.def)) → AreMarked reached is_passed 0 es
marked-at reached is_passed lent es same marked k e there =
    subst (λ p. is_passed p ≡ not (reached p e.def)) (omega arith) (marked k e (ap (λ xs. slice_get xs k) same ∙ there))

-- ---- the count of a label that no visited job has

pub spared-count : (is_passed : ℕ → Bool) (place : ℕ) (es later : List JobSlot) (label : Label) → AllStay es → AreVisitedOnce is_passed place es later →
    ((k : ℕ) (e : JobSlot) → slice_get es k ≡ Some e → has_label label e ≡ true → is_passed (place + k) ≡ true) →
    count_in (counts (rows later)) label ≡ count_in (counts (map row es)) label
spared-count is_passed place [] [] label stay visits spared = refl
spared-count is_passed place [] (n ∷ ns) label stay visits spared = absurd visits
spared-count is_passed place (e ∷ es) [] label stay visits spared = absurd visits
spared-count is_passed place (e ∷ es) (n ∷ ns) label stay visits spared =
    go (is_same label e.def.label) refl
    (spared-count is_passed (suc place) es ns label stay.1 visits.3 (λ k x there has. subst (λ p. is_passed p ≡ true) (omega arith) (spared (suc k) x there has))) where
      go : (b : Bool) → is_same label e.def.label ≡ b → count_in (counts (rows ns)) label ≡ count_in (counts (map row es)) label →
          count_in (counts (cond n.has_gone (rows ns) (row n ∷ rows ns))) label ≡ (if is_same label e.def.label then e.core.decided else count_in (counts (map row es)) label)
      go true is rest =
          let kept : n ≡ e = visits.2 (subst (λ p. is_passed p ≡ true) (omega arith) (spared 0 e refl is)) in
          let staying : n.has_gone ≡ false = ap (λ x. x.has_gone) kept ∙ stay.0 in
          ap (λ b. count_in (counts (cond b (rows ns) (row n ∷ rows ns))) label) staying
          ∙ ap (λ x. if is_same label x.def.label then x.core.decided else count_in (counts (rows ns)) label) kept
          ∙ ap (λ b. if b then e.core.decided else count_in (counts (rows ns)) label) is ∙ sym (ap (λ b. if b then e.core.decided else count_in (counts (map row es)) label) is)
      go false is rest = head n.has_gone ∙ rest ∙ sym (ap (λ b. if b then e.core.decided else count_in (counts (map row es)) label) is) where
        head : (b : Bool) → count_in (counts (cond b (rows ns) (row n ∷ rows ns))) label ≡ count_in (counts (rows ns)) label
        head true = refl
        head false = ap (λ l. if is_same label l then n.core.decided else count_in (counts (rows ns)) label) (ap (λ m. m.described.label) visits.0)
            ∙ ap (λ b. if b then n.core.decided else count_in (counts (rows ns)) label) is

-- ---- the one job that an event was handed to

first-passes : {X : Type 0} (p : X → Bool) (xs : List X) (k : ℕ) (d : X) → IsFirstWhere p xs k → p (get_or xs k d) ≡ true
first-passes p [] k d here = absurd here
first-passes p (x ∷ xs) zero d here = here
first-passes p (x ∷ xs) (suc k) d here = first-passes p xs k d here.1

pub changed-at : (es : List JobSlot) (k : ℕ) (new : JobSlot) → k < length es → IsChangedAt k es (slice_set es k new)
changed-at es k new within =
    record {
      inside = slice_get_within (slice_set es k new) k new (set-same es k new within);
      others = λ j x there differ. sym (set-other es k j new (λ same. differ (sym same))) ∙ there;
    }

pub handed-at : (label : Label) (es : List JobSlot) (k : ℕ) (e new : JobSlot) → Some k ≡ position (has_label label) es → e ≡ get_or es k e → name new ≡ name e →
    IsHandedAt label k es (slice_set es k new)
handed-at label es k e new at is named =
    let first = first-where (has_label label) es k at in
    let here : slice_get (slice_set es k new) k ≡ Some new = set-same es k new (within-where (has_label label) es k first) in
    record {
      at = at;
      own = λ x there. (
          let same : Some new ≡ Some x = sym here ∙ there in
          let job_slot : new ≡ x = cc in
          ap (λ n. is_same label n.described.label) (sym (ap name job_slot) ∙ named) ∙ ap (has_label label) is ∙ first-passes (has_label label) es k e first
          );
    }

pub placed-names : (places : List ℕ) (es later : List JobSlot) → map name later ≡ map name es → ArePlaced places es → ArePlaced places later
placed-names places es later names placed k e there =
    let found = name-get es later k e names there in
    let own = placed k found.0 found.1 in
    (subst (λ n. n < length places) found.2 own.0, ap (place_in places) (sym found.2) ∙ own.1)

pub differs : (place k : ℕ) → (place == k) ≡ false → place ≢ k
differs place k other same = let clash : ⊥ = grind (arith, nat_tests, other, same) in clash

pub timed-but : (begun received : Jobs) (place : ℕ) → IsChangedAt place begun.job_slots.items received.job_slots.items → IsIndexed begun → received.index ≡ begun.index → received.reading ≡ begun.reading →
    AreTimedBut (is_at place) received
timed-but begun received place changed indexed index reading k e there apart =
    ap (λ i. moment_in i.timers e.number) index ∙ indexed.timed k e (changed.others k e there (differs place k apart)) ∙ ap (λ r. moment_for e r.up) (sym reading)

-- nothing is heard, so the jobs stay those that they were
pub received-none : (jobs : List Job) → received (λ job. None) jobs ≡ jobs
received-none [] = refl
received-none (job ∷ jobs) = ap (λ rest. job ∷ rest) (received-none jobs)

pub for-none : (rs : List Row) (jobs : List Job) → AreFor nothing_for (λ job. None) rs jobs
for-none [] jobs = tt
for-none (row ∷ rs) [] = tt
for-none (row ∷ rs) (job ∷ jobs) = (refl, for-none rs jobs)

pub rest-each : (reached : ℕ → Described → Bool) (place : ℕ) (rs : List Row) (jobs : List Job) → AllByRecursion IsAtRest jobs → RestBut reached place rs jobs
rest-each reached place [] jobs rests = tt
rest-each reached place (row ∷ rs) [] rests = tt
rest-each reached place (row ∷ rs) (job ∷ jobs) rests = ((λ apart. rests.0), rest-each reached (suc place) rs jobs rests.1)

-- the others rest as they did
pub rest-handed : (at : Moment) (label : Label) (item : Item) (received : ℕ) (rs : List Row) (es : List JobSlot) (k place : ℕ) (jobs : List Job) → KeepsJobs at (map row es) jobs → IsFirstAt label es k →
    received ≡ place + k → AllByRecursion IsAtRest jobs → RestBut (is_at received) place rs (received_one label item jobs)
rest-handed at label item received [] es k place jobs keeps here is rests = tt
rest-handed at label item received (row ∷ rs) [] k place jobs keeps here is rests = absurd here
rest-handed at label item received (row ∷ rs) (e ∷ es) k place [] keeps here is rests = absurd keeps
rest-handed at label item received (row ∷ rs) (e ∷ es) zero place (job ∷ jobs) keeps here is rests =
    let of : is_of label job ≡ true = ap (is_same label) (sym keeps.0.label) ∙ here in
    subst (RestBut (is_at received) place (row ∷ rs)) (ap (λ b. cond b (with_item job (Some item) ∷ jobs) (job ∷ received_one label item jobs)) (sym of))
    ((λ apart. (let clash : ⊥ = grind (arith, nat_tests, apart, is) in absurd clash)), rest-each (is_at received) (suc place) rs jobs rests.1)
rest-handed at label item received (row ∷ rs) (e ∷ es) (suc k) place (job ∷ jobs) keeps here is rests =
    let of : is_of label job ≡ false = ap (is_same label) (sym keeps.0.label) ∙ here.0 in
    subst (RestBut (is_at received) place (row ∷ rs)) (ap (λ b. cond b (with_item job (Some item) ∷ jobs) (job ∷ received_one label item jobs)) (sym of))
    ((λ apart. rests.0), rest-handed at label item received rs es k (suc place) jobs keeps.1 here.1 (omega (arith, is)) rests.1)

-- the table once the one job is visited, which heard already
pub received-already : (received new : Jobs) (t : State) (place : ℕ) → IsAlike received new → IsHead received t → KeepsJobs received.reading (rows received.job_slots.items) t.jobs →
    RestBut (is_at place) 0 (rows received.job_slots.items) t.jobs →
    ((jobs : List Job) (what : Job → Option Item) → AreFor nothing_for what (rows received.job_slots.items) jobs → IsAccepted received.reading what → RestBut (is_at place) 0 (rows received.job_slots.items) jobs →
    KeepsJobs received.reading (rows received.job_slots.items) jobs → KeepsJobs received.reading (rows new.job_slots.items) (filter_map stays (received_of what jobs))) →
    ((jobs : List Job) (what : Job → Option Item) → AreFor nothing_for what (rows received.job_slots.items) jobs → IsAccepted received.reading what → RestBut (is_at place) 0 (rows received.job_slots.items) jobs →
    KeepsJobs received.reading (rows received.job_slots.items) jobs → labelled (map name new.job_slots.items) new.orders.items ≡ flat_map orders_of (received_of what jobs)) →
    IsOrderedFrom (seen_table new) t
received-already received new t place asks is keeps rests kept orders =
    let none = received-none t.jobs in
    with_orders-so received new t asks is
    (subst (λ js. KeepsJobs received.reading (rows new.job_slots.items) (filter_map stays js)) none (kept t.jobs (λ job. None) (for-none (rows received.job_slots.items) t.jobs) (λ job present. refl) rests keeps))
    (orders t.jobs (λ job. None) (for-none (rows received.job_slots.items) t.jobs) (λ job present. refl) rests keeps ∙ ap (flat_map orders_of) none)

-- the table once the one job has the item and is asked
pub handed-on : (begun received new : Jobs) (s t : State) (label : Label) (item : Item) (place : ℕ) → KeepsState (seen_table begun) s →
    AllStay begun.job_slots.items → IsAlike begun received → IsAlike received new → IsHead received t → received_one label item s.jobs ≡ t.jobs →
    IsHandedAt label place begun.job_slots.items received.job_slots.items →
    ((jobs : List Job) → KeepsJobs begun.reading (rows begun.job_slots.items) jobs → KeepsJobs begun.reading (rows received.job_slots.items) (received_one label item jobs)) →
    ((jobs : List Job) (what : Job → Option Item) → AreFor nothing_for what (rows received.job_slots.items) jobs → IsAccepted received.reading what → RestBut (is_at place) 0 (rows received.job_slots.items) jobs →
    KeepsJobs received.reading (rows received.job_slots.items) jobs → KeepsJobs received.reading (rows new.job_slots.items) (filter_map stays (received_of what jobs))) →
    ((jobs : List Job) (what : Job → Option Item) → AreFor nothing_for what (rows received.job_slots.items) jobs → IsAccepted received.reading what → RestBut (is_at place) 0 (rows received.job_slots.items) jobs →
    KeepsJobs received.reading (rows received.job_slots.items) jobs → labelled (map name new.job_slots.items) new.orders.items ≡ flat_map orders_of (received_of what jobs)) →
    IsOrderedFrom (seen_table new) t
handed-on begun received new s t label item place keeps stay hands asks is jobs handed received_kept kept orders =
    let start = own-jobs begun s keeps in
    let with_it : KeepsJobs received.reading (rows received.job_slots.items) t.jobs =
    subst (λ at. KeepsJobs at (rows received.job_slots.items) t.jobs) (sym hands.reading) (subst (KeepsJobs begun.reading (rows received.job_slots.items)) jobs (received_kept s.jobs start)) in
    let rests : RestBut (is_at place) 0 (rows received.job_slots.items) t.jobs =
    subst (RestBut (is_at place) 0 (rows received.job_slots.items)) jobs
    (rest-handed begun.reading label item place (rows received.job_slots.items) begun.job_slots.items place 0 s.jobs (subst (λ rs. KeepsJobs begun.reading rs s.jobs) (rows-all begun.job_slots.items stay) start)
    (first-where (has_label label) begun.job_slots.items place handed.at) (omega arith) keeps.rests) in
    received-already received new t place asks is with_it rests kept orders

-- no job of another label was asked
pub others-spared : (begun received new : Jobs) (label : Label) (place : ℕ) → IsHandedAt label place begun.job_slots.items received.job_slots.items → SparesBut (is_at place) received.job_slots.items new.job_slots.items →
    counts (rows received.job_slots.items) ≡ counts (rows begun.job_slots.items) → (other : Label) → is_same other label ≡ false →
    count_in (counts (rows new.job_slots.items)) other ≡ count_in (counts (rows begun.job_slots.items)) other
others-spared begun received new label place handed spares same other differ = spares other apart ∙ ap (λ cs. count_in cs other) same where
  apart : (k : ℕ) (e : JobSlot) → slice_get received.job_slots.items k ≡ Some e → has_label other e ≡ true → is_at place k e.def ≡ false
  apart k e there has = go (place == k) refl where
    go : (b : Bool) → (place == k) ≡ b → (place == k) ≡ false
    go false is = is
    go true is =
        let here : place ≡ k = grind (arith, nat_tests, is) in
        let own : has_label label e ≡ true = handed.own e (ap (slice_get received.job_slots.items) here ∙ there) in
        let mine : label ≡ e.def.label = is-label label e.def.label own in
        let theirs : other ≡ e.def.label = is-label other e.def.label has in
        let clash : true ≡ false = sym (same_self label) ∙ ap (λ l. is_same l label) (mine ∙ sym theirs) ∙ differ in
        absurd (cc clash)

-- ---- a label's definition is that of its past

other-label : (n : Name) (es : List JobSlot) (k : ℕ) (e : JobSlot) → IsOther n (map name es) → slice_get es k ≡ Some e → is_same n.described.label e.def.label ≡ false
other-label n [] zero e other at = cc
other-label n [] (suc k) e other at = cc
other-label n (x ∷ xs) zero e other at = let same : x ≡ e = cc in ap (λ y. is_same n.described.label y.def.label) (sym same) ∙ other.1
other-label n (x ∷ xs) (suc k) e other at = other-label n xs k e other.2 at

pub definition-at : (at : Moment) (label : Label) (past : History) (es : List JobSlot) (jobs : List Job) (k : ℕ) (e : JobSlot) → KeepsJobs at (map row es) jobs → IsOnce (map name es) →
    past_in (first (filter (is_of label) jobs)) ≡ Some past → slice_get es k ≡ Some e → has_label label e ≡ true → definition e.def ≡ definition_of past
definition-at at label past [] jobs zero e keeps once found there has = cc
definition-at at label past [] jobs (suc k) e keeps once found there has = cc
definition-at at label past (x ∷ xs) [] k e keeps once found there has = absurd keeps
definition-at at label past (x ∷ xs) (job ∷ jobs) zero e keeps once found there has =
    let same : x ≡ e = cc in
    let of : is_of label job ≡ true = ap (is_same label) (sym keeps.0.label ∙ ap (λ y. y.def.label) same) ∙ has in
    let here : Some job.past ≡ Some past = ap (λ b. past_in (first (cond b (job ∷ filter (is_of label) jobs) (filter (is_of label) jobs)))) (sym of) ∙ found in
    let is : job.past ≡ past = cc in
    ap (λ y. definition y.def) (sym same) ∙ keeps.0.definition ∙ ap definition_of is
definition-at at label past (x ∷ xs) (job ∷ jobs) (suc k) e keeps once found there has =
    let mine : label ≡ e.def.label = is-label label e.def.label has in
    let differ : is_same x.def.label label ≡ false = ap (is_same x.def.label) mine ∙ other-label (name x) xs k e once.0 there in
    let of : is_of label job ≡ false = ap (is_same label) (sym keeps.0.label) ∙ differ-sym x.def.label label differ in
    let rest : past_in (first (filter (is_of label) jobs)) ≡ Some past = ap (λ b. past_in (first (cond b (job ∷ filter (is_of label) jobs) (filter (is_of label) jobs)))) (sym of) ∙ found in
    definition-at at label past xs jobs k e keeps.1 once.1 rest there has

-- no job that does not list the path was asked
pub unlisted-spared : (path : Bor (List ℕ)) (obs : Obs) (begun new : Jobs) (s : State) (label : Label) (past : History) → KeepsJobs begun.reading (rows begun.job_slots.items) s.jobs →
    AllStay begun.job_slots.items → IsOnce (map name begun.job_slots.items) → SparesBut (reaches (Observation path obs)) begun.job_slots.items new.job_slots.items →
    past_in (first (filter (is_of label) s.jobs)) ≡ Some past → lists (definition_of past) path.now ≡ false →
    count_in (counts (rows new.job_slots.items)) label ≡ count_in (counts (rows begun.job_slots.items)) label
unlisted-spared path obs begun new s label past keeps stay once spares found apart =
    spares label (λ k e there has. ap (λ d. lists d path.now)
    (definition-at begun.reading label past begun.job_slots.items s.jobs k e (subst (λ rs. KeepsJobs begun.reading rs s.jobs) (rows-all begun.job_slots.items stay) keeps) once found there has)
    ∙ apart)
