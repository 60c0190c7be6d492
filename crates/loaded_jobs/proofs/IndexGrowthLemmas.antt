-- The index goes by names, by rows, and grows.
use Rattle.std.proofs.Common.{◌≡◌, ◌⊎◌, inl, inr, ℕ, zero, suc, ◌+◌, ◌==◌, ◌<◌, ◌≤◌, Bool, true, false, not, cond, List, [], ◌∷◌, ◌++◌, map, take, drop, length, Some, None, is_some, refl, sym, ap, ◌∙◌, subst, arith}
use Rattle.std.specs.Prelude.{slice_get, slice_index_or, get_or, unwrap_or}
use Rattle.std.specs.List.{filter}
use Rattle.std.proofs.lemmas.Bool.Decides.{nat_tests}
use Rattle.place_set.specs.Places.{KeepsPlaces, has_place, place_room}
use Rattle.timer_heap.specs.Timers.{Timers, moment_in, room, KeepsMoments}
use Rattle.history_model.specs.NextMomentByFacts.{next_by}
use Rattle.loaded_jobs.specs.Tables.{definition_of_number}
use Rattle.loaded_jobs.specs.JobSlots.{row, rows, name, job_slot_stays, AllStay}
use Rattle.loaded_jobs.specs.Index.{moment_for, AreTimed, ArePlaced, IsNamed, IsIndexOf}
use Rattle.loaded_jobs.specs.declared.job_slot.JobSlot.{JobSlot}
use Rattle.loaded_jobs.specs.declared.jobs.Index.{Index}
use Rattle.loaded_jobs.proofs.GoneLemmas.{stay-but}
use Rattle.loaded_jobs.proofs.PlacesLemmas.{rows-all}
use Rattle.loaded_jobs.proofs.AdvanceLemmas.{holder, stay-get}
use Rattle.loaded_jobs.specs.Sound.{IsSound, IsWhole}
use Rattle.loaded_jobs.specs.declared.jobs.Jobs.{Jobs}
use Rattle.std.proofs.lemmas.List.{length-map}
use Rattle.loaded_jobs.specs.Numbers.{row_name}
use Rattle.history_model.proofs.LawfulLemmas.{eqb-self}

-- an index beside its slots has what goes by their names
pub named-of : (index : Index) (up : ℕ) (es : List JobSlot) → IsIndexOf index up es → IsNamed index (map name es)
named-of index up es is = record {
  alone = is.alone;
  space = is.space;
  fits = λ number named. (let found = holder es number named in subst (λ n. n < length index.places.items) found.3 (is.placed found.0 found.1 found.2).0);
  empty = is.empty;
  marks = let marks = is.marks in let long = length-map es name in omega (arith, marks, long);
}

pub indexed-of : (index : Index) (up : ℕ) (es : List JobSlot) → IsNamed index (map name es) → AreTimed index.timers up es → ArePlaced index.places.items es → IsIndexOf index up es
indexed-of index up es is timed placed = record {
  timed = timed;
  alone = is.alone;
  space = is.space;
  placed = placed;
  empty = is.empty;
  marks = let marks = is.marks in let long = length-map es name in omega (arith, marks, long);
}

-- ---- growth

pub grown-index : (old new : Index) (up : ℕ) (es : List JobSlot) → KeepsMoments old.timers new.timers → KeepsPlaces old.marked new.marked → new.places ≡ old.places → IsIndexOf old up es → IsIndexOf new up es
grown-index old new up es timers ready places is = record {
  timed = λ k e at. timers.moments e.number ∙ is.timed k e at;
  alone = λ number moment there. is.alone number moment (sym (timers.moments number) ∙ there);
  space = λ number named. (let more = timers.room in let fits = is.space number named in omega (arith, more, fits));
  placed = subst (λ ps. ArePlaced ps.items es) (sym places) is.placed;
  empty = λ place. ready.places place ∙ is.empty place;
  marks = let more = ready.room in let fits = is.marks in omega (arith, more, fits);
}

-- ---- the jobs that left have no moment, so none is left by them

named-stays : (es : List JobSlot) (k : ℕ) (e : JobSlot) → slice_get es k ≡ Some e → e.has_gone ≡ false → is_some (definition_of_number (map name (filter job_slot_stays es)) e.number) ≡ true
named-stays [] zero e at stay = cc
named-stays [] (suc k) e at stay = cc
named-stays (x ∷ xs) zero e at stay =
    let same : x ≡ e = cc in
    let here : x.has_gone ≡ false = ap (λ y. y.has_gone) same ∙ stay in
    subst (λ b. is_some (definition_of_number (map name (cond (not b) (x ∷ filter job_slot_stays xs) (filter job_slot_stays xs))) e.number) ≡ true) (sym here)
    (subst (λ y. is_some (definition_of_number (map name (x ∷ filter job_slot_stays xs)) y.number) ≡ true) same
    (ap (λ b. is_some (cond b (Some x.def) (definition_of_number (map name (filter job_slot_stays xs)) x.number))) (eqb-self x.number)))
named-stays (x ∷ xs) (suc k) e at stay = go x.has_gone (named-stays xs k e at stay)
  where
    later : (b : Bool) → is_some (definition_of_number (map name (filter job_slot_stays xs)) e.number) ≡ true → is_some (cond b (Some x.def) (definition_of_number (map name (filter job_slot_stays xs)) e.number)) ≡ true
    later true is = refl
    later false is = is

    go : (b : Bool) → is_some (definition_of_number (map name (filter job_slot_stays xs)) e.number) ≡ true →
        is_some (definition_of_number (map name (cond (not b) (x ∷ filter job_slot_stays xs) (filter job_slot_stays xs))) e.number) ≡ true
    go true is = is
    go false is = later (x.number == e.number) is

named-before : (es : List JobSlot) (number : ℕ) → is_some (definition_of_number (map name (filter job_slot_stays es)) number) ≡ true → is_some (definition_of_number (map name es) number) ≡ true
named-before [] number named = named
named-before (x ∷ xs) number named = go x.has_gone named (named-before xs number)
  where
    more : (b : Bool) → is_some (definition_of_number (map name xs) number) ≡ true → is_some (cond b (Some x.def) (definition_of_number (map name xs) number)) ≡ true
    more true is = refl
    more false is = is

    first : (b : Bool) → is_some (cond b (Some x.def) (definition_of_number (map name (filter job_slot_stays xs)) number)) ≡ true →
        (is_some (definition_of_number (map name (filter job_slot_stays xs)) number) ≡ true → is_some (definition_of_number (map name xs) number) ≡ true) →
        is_some (cond b (Some x.def) (definition_of_number (map name xs) number)) ≡ true
    first true is later = refl
    first false is later = later is

    go : (b : Bool) → is_some (definition_of_number (map name (cond (not b) (x ∷ filter job_slot_stays xs) (filter job_slot_stays xs))) number) ≡ true →
        (is_some (definition_of_number (map name (filter job_slot_stays xs)) number) ≡ true → is_some (definition_of_number (map name xs) number) ≡ true) →
        is_some (definition_of_number (map name (x ∷ xs)) number) ≡ true
    go true is later = more (x.number == number) (later is)
    go false is later = first (x.number == number) is later

fewer : (es : List JobSlot) → length (filter job_slot_stays es) ≤ length es
fewer [] = omega arith
fewer (e ∷ es) = go e.has_gone (fewer es)
  where
    go : (b : Bool) → length (filter job_slot_stays es) ≤ length es → length (cond (not b) (e ∷ filter job_slot_stays es) (filter job_slot_stays es)) ≤ suc (length es)
    go true later = omega (arith, later)
    go false later = omega (arith, later)

pub tidy-named : (index : Index) (up : ℕ) (es : List JobSlot) → IsIndexOf index up es → IsNamed index (map name (filter job_slot_stays es))
tidy-named index up es is = record {
  alone = λ number moment there. (let found = holder es number (is.alone number moment there) in
      let own : moment_in index.timers found.1.number ≡ Some moment = ap (moment_in index.timers) found.3 ∙ there in
      subst (λ n. is_some (definition_of_number (map name (filter job_slot_stays es)) n) ≡ true) found.3
      (named-stays es found.0 found.1 found.2 (kept found.1 moment (sym (is.timed found.0 found.1 found.2) ∙ own))));
  space = λ number named. is.space number (named-before es number named);
  fits = λ number named. (named-of index up es is).fits number (named-before es number named);
  empty = is.empty;
  marks = let marks = is.marks in let less = fewer es in let long = length-map (filter job_slot_stays es) name in omega (arith, marks, less, long);
}
  where
    kept : (e : JobSlot) (moment : ℕ) → moment_for e up ≡ Some moment → e.has_gone ≡ false
    kept e moment there = go e.has_gone refl there where
      go : (b : Bool) → e.has_gone ≡ b → cond b None (next_by e.core.facts up) ≡ Some moment → e.has_gone ≡ false
      go true is there = cc
      go false is there = is

-- the jobs that stay keep their moments
pub tidy-timed : (timers : Timers) (up : ℕ) (es : List JobSlot) → AreTimed timers up es → AreTimed timers up (filter job_slot_stays es)
tidy-timed timers up [] is = is
tidy-timed timers up (x ∷ xs) is = go x.has_gone (tidy-timed timers up xs (λ k e at. is (suc k) e at))
  where
    before : AreTimed timers up (filter job_slot_stays xs) → (k : ℕ) (e : JobSlot) → slice_get (x ∷ filter job_slot_stays xs) k ≡ Some e → moment_in timers e.number ≡ moment_for e up
    before later zero e at = is zero e at
    before later (suc k) e at = later k e at

    go : (b : Bool) → AreTimed timers up (filter job_slot_stays xs) → AreTimed timers up (cond (not b) (x ∷ filter job_slot_stays xs) (filter job_slot_stays xs))
    go true later = later
    go false later = before later

-- ---- the index goes by rows, if all stay

module _ {A B : Type 0} (f : A → B) where
  map-get : (es later : List A) (k : ℕ) (e : A) → map f later ≡ map f es → slice_get later k ≡ Some e → (old : A) × (slice_get es k ≡ Some old) × (f old ≡ f e)
  map-get es [] zero e same at = cc
  map-get es [] (suc k) e same at = cc
  map-get [] (y ∷ ys) k e same at = cc
  map-get (x ∷ xs) (y ∷ ys) zero e same at =
      (x, refl, sym (ap (λ bs. get_or bs 0 (f x)) same) ∙ ap (λ o. f (unwrap_or o e)) at)
  map-get (x ∷ xs) (y ∷ ys) (suc k) e same at = map-get xs ys k e (ap (drop 1) same) at

names-rows : (es : List JobSlot) → map name es ≡ map row_name (map row es)
names-rows [] = refl
names-rows (e ∷ es) = ap (λ rest. name e ∷ rest) (names-rows es)

pub by-rows : (index : Index) (up : ℕ) (es later : List JobSlot) → AllStay es → AllStay later → rows later ≡ rows es → IsIndexOf index up es → IsIndexOf index up later
by-rows index up es later stay after same is =
    let all : map row later ≡ map row es = sym (rows-all later after) ∙ same ∙ rows-all es stay in
    let names : map name later ≡ map name es = names-rows later ∙ ap (map row_name) all ∙ sym (names-rows es) in
    let before = named-of index up es is in
    indexed-of index up later (subst (IsNamed index) (sym names) before)
    (λ k e at. (let found = map-get row es later k e all at in
    ap (λ r. moment_in index.timers r.number) (sym found.2) ∙ is.timed k found.0 found.1
    ∙ ap (λ b. cond b None (next_by found.0.core.facts up)) (stay-get es k found.0 stay found.1)
    ∙ ap (λ r. next_by r.facts up) found.2
    ∙ sym (ap (λ b. cond b None (next_by e.core.facts up)) (stay-get later k e after at))))
    (λ k e at. (let found = map-get row es later k e all at in
    let own = is.placed k found.0 found.1 in
    subst (λ r. (r.number < length index.places.items) × (slice_index_or index.places.items r.number 0 ≡ k)) found.2 own))

-- ---- one more name

more-names : (new : JobSlot) (es : List JobSlot) (k number : ℕ) → is_some (definition_of_number (map name es) number) ≡ true →
    is_some (definition_of_number (map name (take k es ++ new ∷ drop k es)) number) ≡ true
more-names new es zero number named = go (new.number == number) named
  where
    go : (b : Bool) → is_some (definition_of_number (map name es) number) ≡ true → is_some (cond b (Some new.def) (definition_of_number (map name es) number)) ≡ true
    go true is = refl
    go false is = is
more-names new [] (suc k) number named = cc
more-names new (e ∷ es) (suc k) number named = go (e.number == number) named (more-names new es k number)
  where
    go : (b : Bool) → is_some (cond b (Some e.def) (definition_of_number (map name es) number)) ≡ true →
        (is_some (definition_of_number (map name es) number) ≡ true → is_some (definition_of_number (map name (take k es ++ new ∷ drop k es)) number) ≡ true) →
        is_some (cond b (Some e.def) (definition_of_number (map name (take k es ++ new ∷ drop k es)) number)) ≡ true
    go true is later = refl
    go false is later = later is

-- a number that is named is the new one or was named before
is-new-or-named : (new : JobSlot) (es : List JobSlot) (k number : ℕ) → is_some (definition_of_number (map name (take k es ++ new ∷ drop k es)) number) ≡ true →
    (new.number ≡ number) ⊎ (is_some (definition_of_number (map name es) number) ≡ true)
is-new-or-named new es zero number named = go (new.number == number) refl named
  where
    go : (b : Bool) → (new.number == number) ≡ b → is_some (cond b (Some new.def) (definition_of_number (map name es) number)) ≡ true →
        (new.number ≡ number) ⊎ (is_some (definition_of_number (map name es) number) ≡ true)
    go true is named = inl (grind (arith, nat_tests, is))
    go false is named = inr named
is-new-or-named new [] (suc k) number named = go (new.number == number) refl named
  where
    go : (b : Bool) → (new.number == number) ≡ b → is_some (cond b (Some new.def) None) ≡ true →
        (new.number ≡ number) ⊎ (is_some (definition_of_number [] number) ≡ true)
    go true is named = inl (grind (arith, nat_tests, is))
    go false is named = cc
is-new-or-named new (e ∷ es) (suc k) number named = go (e.number == number) named (is-new-or-named new es k number)
  where
    go : (b : Bool) → is_some (cond b (Some e.def) (definition_of_number (map name (take k es ++ new ∷ drop k es)) number)) ≡ true →
        (is_some (definition_of_number (map name (take k es ++ new ∷ drop k es)) number) ≡ true → (new.number ≡ number) ⊎ (is_some (definition_of_number (map name es) number) ≡ true)) →
        (new.number ≡ number) ⊎ (is_some (cond b (Some e.def) (definition_of_number (map name es) number)) ≡ true)
    go true named later = inr refl
    go false named later = later named

-- what holds of the new number and of those named holds of all
one-more-name : {P : ℕ → Type 0} (new : JobSlot) (es : List JobSlot) (k : ℕ) → P new.number → ((number : ℕ) → is_some (definition_of_number (map name es) number) ≡ true → P number) →
    (number : ℕ) → is_some (definition_of_number (map name (take k es ++ new ∷ drop k es)) number) ≡ true → P number
one-more-name {P} new es k own others number named = go (is-new-or-named new es k number named)
  where
    go : (new.number ≡ number) ⊎ (is_some (definition_of_number (map name es) number) ≡ true) → P number
    go (inl same) = subst P same own
    go (inr before) = others number before

placed-length : (new : JobSlot) (es : List JobSlot) (k : ℕ) → length (map name (take k es ++ new ∷ drop k es)) ≡ suc (length es)
placed-length new es zero = ap suc (length-map es name)
placed-length new [] (suc k) = refl
placed-length new (e ∷ es) (suc k) = ap suc (placed-length new es k)

pub index-placed : (index : Index) (new : JobSlot) (es : List JobSlot) (k : ℕ) → new.number < room index.timers → new.number < length index.places.items → length es + 1 ≤ place_room index.marked →
    IsNamed index (map name es) → IsNamed index (map name (take k es ++ new ∷ drop k es))
index-placed index new es k timed placed marks is = record {
  alone = λ number moment there. more-names new es k number (is.alone number moment there);
  space = one-more-name {P = λ number. number < room index.timers} new es k timed is.space;
  fits = one-more-name {P = λ number. number < length index.places.items} new es k placed is.fits;
  empty = is.empty;
  marks = let long = placed-length new es k in omega (arith, long, marks);
}

-- the index of which the places alone were made again
pub replaced : (old new : Index) (up : ℕ) (es : List JobSlot) → IsNamed old (map name es) → AreTimed old.timers up es → ArePlaced new.places.items es →
    new.timers ≡ old.timers → new.marked ≡ old.marked → IsIndexOf new up es
replaced old new up es is timed placed timers ready = record {
  timed = λ k e at. ap (λ t. moment_in t e.number) timers ∙ timed k e at;
  alone = λ number moment there. is.alone number moment (sym (ap (λ t. moment_in t number) timers) ∙ there);
  space = λ number named. (let space = is.space number named in let same = ap room timers in omega (arith, space, same));
  placed = placed;
  empty = λ place. ap (λ r. has_place r place) ready ∙ is.empty place;
  marks = let marks = is.marks in let long = length-map es name in let same = ap place_room ready in omega (arith, marks, long, same);
}

-- a refused event leaves the index right
pub refused-whole : (begun received : Jobs) → IsWhole begun → AllStay begun.job_slots.items → IsSound received → AllStay received.job_slots.items → rows received.job_slots.items ≡ rows begun.job_slots.items →
    received.index ≡ begun.index → received.reading ≡ begun.reading → IsWhole received
refused-whole begun received whole stay sound after same index reading = record {
  sound = sound;
  indexed = subst (λ i. IsIndexOf i received.reading.up received.job_slots.items) (sym index) (subst (λ at. IsIndexOf begun.index at.up received.job_slots.items) (sym reading)
      (by-rows begun.index begun.reading.up begun.job_slots.items received.job_slots.items stay after same whole.indexed));
  stay = stay-but received.gone received.job_slots.items after;
}
