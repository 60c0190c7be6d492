-- The places up to the next mark are passed, then the job with the mark is visited.
use Rattle.std.proofs.Common.{◌≡◌, ◌⊎◌, inl, inr, ◌≤◌, ◌<◌, ◌+◌, ◌-◌, ℕ, suc, Bool, true, false, not, nat_lt, cond, map, length, get_or, refl, sym, ap, ◌∙◌, subst, add-one, arith}
use Rattle.std.proofs.lemmas.Bool.Decides.{nat_tests}
use Rattle.std.specs.Prelude.{is_some, slice_set, []}
use Rattle.place_set.specs.Places.{Places, Pops, has_place, place_room}
use Rattle.loaded_jobs.specs.JobSlots.{name}
use Rattle.loaded_jobs.specs.AffectedJobs.{item_for}
use Rattle.loaded_jobs.specs.Visiting.{is_spared}
use Rattle.loaded_jobs.specs.declared.job_slot.JobSlot.{JobSlot}
use Rattle.loaded_jobs.proofs.ListLemmas.{set-map}
use Rattle.loaded_jobs.specs.Leaving.{StayBut}
use Rattle.loaded_jobs.proofs.GoneLemmas.{stayed-more, went-more}
use Rattle.loaded_jobs.proofs.KnownNumbersLemmas.{named-at, all-named}
use Rattle.loaded_jobs.proofs.MomentsLemmas.{retimed, alone-after}
use Rattle.loaded_jobs.specs.Tables.{IsOnce, definition_of_number}
use Rattle.loaded_jobs.specs.Index.{moment_for}
use Rattle.loaded_jobs.proofs.VisitingLemmas.{IsWalked, skip-to, visit-one, walk-over}
use Rattle.loaded_jobs.proofs.visits.visit_ready.Goals as goal
use Rattle.loaded_jobs.proofs.visits.visit_ready.Goals.{then-not-has_gone, else-not-has_gone}

-- the marks that are left are those of the beginning
going-marks : (now first : Places) (front : ℕ) → ((place : ℕ) → place < front → has_place now place ≡ false) → ((place : ℕ) → front ≤ place → has_place now place ≡ has_place first place) →
    (place : ℕ) → has_place now place ≡ true → (front ≤ place) × (has_place first place ≡ true)
going-marks now first front taken behind place there = go (nat_lt place front) refl where
  go : (b : Bool) → nat_lt place front ≡ b → (front ≤ place) × (has_place first place ≡ true)
  go true is = let clash : false ≡ true = sym (taken place (grind (arith, nat_tests, is))) ∙ there in absurd (cc clash)
  go false is = let after : front ≤ place = grind (arith, nat_tests, is) in (after, sym (behind place after) ∙ there)

taken-next : (old new : Places) (number k : ℕ) → Pops old new number → k < number + 1 → (b : Bool) → nat_lt k number ≡ b → has_place new k ≡ false
taken-next old new number k popped below true is =
    let less : k < number = grind (arith, nat_tests, is) in popped.others k (λ same. (let clash : ⊥ = omega (arith, less, same) in clash)) ∙ popped.least k less
taken-next old new number k popped below false is =
    let same : number ≡ k = grind (arith, nat_tests, is, below) in subst (λ j. has_place new j ≡ false) same popped.own

at-first : {P : Type 0} (k : ℕ) (b : Bool) → (k < 0) ⊎ (b ≡ true) → (b ≡ true → P) → P
at-first k b (inl low) then_so = let clash : ⊥ = omega (arith, low) in absurd clash
at-first k b (inr spares) then_so = then_so spares

pub loop-number-init : goal.loop-number-init
loop-number-init c = record {
  front = omega arith;
  taken = λ place below. (let clash : ⊥ = omega (arith, below) in absurd clash);
  behind = λ place above. refl;
  names = refl;
  fits = omega arith;
  capacity = refl;
  few = omega arith;
  known = λ names all before. before;
  timed = λ k e at reached. at-first k (is_spared c.args.ready.now k) reached (λ spares. c.requires.can.timed k e at spares);
  alone = c.requires.can.alone;
  marks = refl;
  space = refl;
  stays = c.requires.can.stay;
  walked = record {
    untouched = refl;
    spared = c.requires.can.spared;
    once = tt;
    count = refl;
    way = λ jobs item for accepted rests keeps. record { past = []; rest = jobs; kept = tt; waits = keeps; for = for; rests = rests; leads = refl; gives = refl };
  };
}

pub retime-requires-clause-room : goal.retime-requires-clause-room
retime-requires-clause-room c =
    let inv = c.loop-number.invariant in
    let es = c.loop-number.job_slots in
    let number = c.in-Some.number in
    let popped = c.in-Some.ensures in
    let here = going-marks c.loop-number.ready c.args.ready.now c.loop-number.front inv.taken inv.behind number popped.there in
    let within : number < length c.args.job_slots.now = c.requires.can.inside number (ap not here.1) in
    let long : length es ≡ length c.args.job_slots.now = omega arith in
    let inside : number < length es = omega (arith, within, long) in
    let e : JobSlot = get_or es number c.index-job_slots-place.result in
    let is : e ≡ get_or es number e = ap (get_or es number) c.index-job_slots-place.is in
    subst (λ r. c.visit.new.self.number < r) (sym inv.space)
    (c.requires.can.numbers c.visit.new.self.number
    (ap (λ n. is_some (definition_of_number (map name c.args.job_slots.now) n.number)) c.visit.ensures.name
    ∙ subst (λ ns. is_some (definition_of_number ns e.number) ≡ true) inv.names (named-at (map name es) es es number e inside refl is (all-named es))))

pub loop-number-preserved : goal.loop-number-preserved
loop-number-preserved c =
    let inv = c.loop-number.invariant in
    let es0 = c.args.job_slots.now in
    let es = c.loop-number.job_slots in
    let front = c.loop-number.front in
    let ready0 = c.args.ready.now in
    let ready = c.loop-number.ready in
    let number = c.in-Some.number in
    let popped = c.in-Some.ensures in
    let new = c.visit.new.self in
    let here = going-marks ready ready0 front inv.taken inv.behind number popped.there in
    let after : front ≤ number = here.0 in
    let within : number < length es0 = c.requires.can.inside number (ap not here.1) in
    let long : length es ≡ length es0 = omega arith in
    let inside : number < length es = omega (arith, within, long) in
    let e : JobSlot = get_or es number c.index-job_slots-place.result in
    let is : e ≡ get_or es number e = ap (get_or es number) c.index-job_slots-place.is in
    let between : (k : ℕ) → front ≤ k → k < front + (number - front) → is_spared ready0 k ≡ true =
    λ k low high. ap not (sym (inv.behind k low) ∙ popped.least k (omega (arith, high, after))) in
    let passed : IsWalked c.args.before c.args.now (item_for c.args.affected) (is_spared ready0) es0 c.args.orders.now.items es number c.loop-number.orders.items c.loop-number.visited =
    subst (λ k. IsWalked c.args.before c.args.now (item_for c.args.affected) (is_spared ready0) es0 c.args.orders.now.items es k c.loop-number.orders.items c.loop-number.visited) (omega (arith, after))
    (skip-to c.args.before c.args.now (item_for c.args.affected) (is_spared ready0) c.requires.can.brings es0 c.args.orders.now.items es (number - front) front c.loop-number.orders.items c.loop-number.visited
    c.requires.can.stay (omega (arith, within, after)) between inv.walked) in
    let counts : c.if-not-has_gone.visited ≡ cond new.has_gone c.loop-number.visited (suc c.loop-number.visited) = elim c.if-not-has_gone.branch [
      | then-not-has_gone w ↦ w.visited-is ∙ add-one c.loop-number.visited ∙ ap (λ b. cond b c.loop-number.visited (suc c.loop-number.visited)) (sym (sym c.has_gone.ensures ∙ w.if-not-has_gone.true))
      | else-not-has_gone w ↦ w.visited-is ∙ ap (λ b. cond b c.loop-number.visited (suc c.loop-number.visited)) (sym (sym c.has_gone.ensures ∙ w.if-not-has_gone.false))
    ] in
    record {
      front = omega (arith, within);
      taken = λ k below. taken-next ready c.pop_least.new.self number k popped below (nat_lt k number) refl;
      behind = λ k above. popped.others k (λ same. (let clash : ⊥ = omega (arith, above, same) in clash)) ∙ inv.behind k (omega (arith, above, after));
      names = set-map name es number e new inside is c.visit.ensures.name ∙ inv.names;
      fits = omega arith;
      capacity = c.visit.ensures.capacity ∙ inv.capacity;
      few = elim c.if-not-has_gone.branch [ then-not-has_gone w ↦ omega arith | else-not-has_gone w ↦ omega arith ];
      known = λ names all before. c.visit.ensures.known names (named-at names es0 es number e inside passed.untouched is all) (inv.known names all before);
      timed = retimed es number e new c.loop-number.timers c.retime.new.timers c.args.now.up front (is_spared ready0) (subst IsOnce (sym inv.names) c.requires.can.once) inside is c.visit.ensures.name c.retime.ensures
          (λ k low high. between k low (omega (arith, high, after))) inv.timed;
      alone = alone-after c.loop-number.timers c.retime.new.timers (map name es0) new.number (moment_for new c.args.now.up) c.retime.ensures
          (ap (λ n. is_some (definition_of_number (map name es0) n.number)) c.visit.ensures.name ∙ named-at (map name es0) es0 es number e inside passed.untouched is (all-named es0)) inv.alone;
      marks = popped.room ∙ inv.marks;
      space = c.retime.ensures.room ∙ inv.space;
      stays = elim c.if-not-has_gone.branch [
        | then-not-has_gone w ↦ subst (λ g. StayBut g (slice_set es number new)) (sym w.gone-is) (stayed-more c.loop-number.gone number es new inv.stays (sym c.has_gone.ensures ∙ w.if-not-has_gone.true))
        | else-not-has_gone w ↦ subst (λ g. StayBut g (slice_set es number new)) (sym (w.gone-is ∙ w.and-gone.ensures)) (went-more c.loop-number.gone number es new inv.stays)
      ];
      walked = subst (λ k. IsWalked c.args.before c.args.now (item_for c.args.affected) (is_spared ready0) es0 c.args.orders.now.items (slice_set es number new) k c.visit.new.orders.items c.if-not-has_gone.visited) (sym (add-one number))
          (visit-one c.args.before c.args.now (item_for c.args.affected) (is_spared ready0) c.requires.can.brings es0 c.args.orders.now.items es number e new c.loop-number.orders.items c.visit.new.orders.items c.loop-number.visited c.if-not-has_gone.visited
          c.requires.can.stay within inside is (ap not here.1) c.visit.ensures.visit c.visit.ensures.decided counts passed);
    }

-- no mark is left
none-marked : (now first : Places) (front : ℕ) → ((place : ℕ) → front ≤ place → has_place now place ≡ has_place first place) → ((place : ℕ) → has_place now place ≡ false) →
    (k : ℕ) → front ≤ k → is_spared first k ≡ true
none-marked now first front behind none k after = ap not (sym (behind k after) ∙ none k)

pub returns-clause-visits : goal.returns-clause-visits
returns-clause-visits c =
    let inv = c.loop-number.invariant in
    let rest = none-marked c.loop-number.ready c.args.ready.now c.loop-number.front inv.behind c.in_default.ensures.1 in
    let whole = walk-over c.args.before c.args.now (item_for c.args.affected) (is_spared c.args.ready.now) c.requires.can.brings c.args.job_slots.now c.args.orders.now.items c.loop-number.job_slots c.loop-number.front c.loop-number.orders.items c.loop-number.visited
    c.requires.can.stay (omega arith) inv.front rest inv.walked in
    record {
      kept = whole.kept;
      orders = whole.orders;
      visited = whole.counted;
      stay = inv.stays;
      visits = whole.visits;
      known = inv.known;
      names = inv.names;
      timed = λ k e at. inv.timed k e at (reached k c.loop-number.front (is_spared c.args.ready.now) rest (nat_lt k c.loop-number.front) refl);
      alone = inv.alone;
    }
  where
    reached : (k front : ℕ) (spared : ℕ → Bool) → ((j : ℕ) → front ≤ j → spared j ≡ true) → (b : Bool) → nat_lt k front ≡ b → (k < front) ⊎ (spared k ≡ true)
    reached k front spared rest true is = inl (grind (arith, nat_tests, is))
    reached k front spared rest false is = let above : front ≤ k = grind (arith, nat_tests, is) in inr (rest k above)

pub returns-clause-unmarked : goal.returns-clause-unmarked
returns-clause-unmarked c = record {
  done = λ place. ap (λ places. has_place places place) c.in_default.ensures.0 ∙ c.in_default.ensures.1 place;
  marks = ap place_room c.in_default.ensures.0 ∙ c.loop-number.invariant.marks;
  space = c.loop-number.invariant.space;
}
