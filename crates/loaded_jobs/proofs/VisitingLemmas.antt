-- The walk passes some jobs by as they are, and comes one place further at each job that it visits.
use Rattle.std.proofs.Common.{◌≡◌, ◌≢◌, ℕ, zero, suc, ◌+◌, ◌-◌, ◌<◌, ◌≤◌, Bool, true, false, ◌||◌, cond, List, [], ◌∷◌, ◌++◌, map, take, drop, length, get_or, Option, Some, None, refl, sym, ap, ◌∙◌, subst, append_assoc, append-nil, arith}
use Rattle.std.specs.Prelude.{slice_set}
use Rattle.std.proofs.lemmas.List.{length-set}
use Rattle.std.specs.List.{filter_map, cons_option}
use Rattle.history_model.specs.declared.Reading.{Reading}
use Rattle.history_model.specs.declared.Order.{Order}
use Rattle.history_model.specs.declared.Act.TheVariants.{Close, Gone}
use Rattle.history_model.specs.Demands.{waiting}
use Rattle.history_model.specs.Items.{Item}
use Rattle.history_model.specs.Clock.{now}
use Rattle.history_model.specs.Runs.{is_gone}
use Rattle.history_model.specs.Due.{due}
use Rattle.history_model.specs.FactsOfPast.{Keeps, ordered}
use Rattle.history_model.specs.Machine.{Job}
use Rattle.history_model.specs.Step.{acts_of, listed, stays, received, with_item}
use Rattle.history_model.proofs.BooleanLemmas.{or-second}
use Rattle.history_model.specs.Definitions.{definition}
use Rattle.history_model.specs.Described.{Described}
use Rattle.loaded_jobs.specs.Tables.{Row}
use Rattle.loaded_jobs.specs.StandsFor.{KeepsJob, KeepsJobs, IsAtRest, numbered_orders, numbered_all}
use Rattle.loaded_jobs.specs.Counts.{next_count}
use Rattle.loaded_jobs.specs.JobSlots.{row, name, rows, AllStay}
use Rattle.loaded_jobs.specs.Receiving.{followed, refusal_if, IsReceived, AreFor, IsAccepted, Brings}
use Rattle.loaded_jobs.specs.Visiting.{IsVisit, AreSpared, AreAtRest, IsOnWay, AreVisitedOnce, count_visited}
use Rattle.loaded_jobs.specs.declared.job_slot.JobSlot.{JobSlot}
use Rattle.loaded_jobs.proofs.ListLemmas.{at-drop, set-drop, set-take, drop-suc}
use Rattle.loaded_jobs.proofs.ScanLemmas.{KeepsJobs-append, now-ordered, definition-ordered, rows-append, rows-stay}
use Rattle.loaded_jobs.proofs.ReceivingLemmas.{received-rows, label-with, past-with, definition-with, present-with, take-of-drop}

-- ---- a job that rests gives nothing and stays as it is

rest-stays : (job : Job) → IsAtRest job → stays job ≡ Some job
rest-stays job rest = λ i. cond (rest.1 i) None (Some (record job { past = ordered (rest.0 i) job.past }))

rest-acts : (job : Job) → IsAtRest job → acts_of job.past ≡ []
rest-acts job rest = λ i. cond (rest.1 i) (map Close (waiting job.past) ++ Gone ∷ []) (listed (rest.0 i))

module _ (before at : Reading) (receives : Described → Option Item) (item : Job → Option Item) (is_passed : ℕ → Bool) (brings : Brings receives before at) (accepted : IsAccepted before item) where
  skip-head : (place : ℕ) (e : JobSlot) (done todo : List Row) (earlier all : List Order) (after : List Job) → is_passed place ≡ true → IsReceived before (receives e.def) e e →
      IsOnWay before at receives item is_passed place done (row e ∷ todo) earlier all after → IsOnWay before at receives item is_passed (suc place) (done ++ row e ∷ []) todo earlier all after
  skip-head place e done todo earlier all after spared received_self way = go way.rest way.waits way.for way.rests way.leads way.gives where
    go : (rest : List Job) → KeepsJobs before (row e ∷ todo) rest → AreFor receives item (row e ∷ todo) rest → AreAtRest is_passed place (received item rest) →
        way.past ++ filter_map stays (received item rest) ≡ after → earlier ++ numbered_all (row e ∷ todo) (received item rest) ≡ all →
        IsOnWay before at receives item is_passed (suc place) (done ++ row e ∷ []) todo earlier all after
    go [] waits for rests leads gives = absurd waits
    go (job ∷ rest) waits for rests leads gives =
        let next = with_item job (item job) in
        let idle : IsAtRest next = rests.0 spared in
        let keeps : KeepsJob at (row e) next =
        (received-rows receives before at brings item (e ∷ []) (e ∷ []) (job ∷ []) (received_self, tt) (for.0, tt) accepted (waits.0, tt)).0 in
        record {
          past = way.past ++ next ∷ [];
          rest = rest;
          kept = KeepsJobs-append at done (row e ∷ []) way.past (next ∷ []) way.kept (keeps, tt);
          waits = waits.1;
          for = for.1;
          rests = rests.1;
          leads = append_assoc way.past (next ∷ []) (filter_map stays (received item rest)) ∙ ap (λ o. way.past ++ cons_option o (filter_map stays (received item rest))) (sym (rest-stays next idle)) ∙ leads;
          gives = ap (λ acts. earlier ++ (numbered_orders e.number acts ++ numbered_all todo (received item rest))) (sym (rest-acts next idle)) ∙ gives;
        }

  visit-head : (place : ℕ) (e new : JobSlot) (done todo : List Row) (earlier later all : List Order) (after : List Job) → IsVisit before at (receives e.def) e new earlier later →
      IsOnWay before at receives item is_passed place done (row e ∷ todo) earlier all after → IsOnWay before at receives item is_passed (suc place) (done ++ rows (new ∷ [])) todo later all after
  visit-head place e new done todo earlier later all after visit way = go way.rest way.waits way.for way.rests way.leads way.gives where
    end : (b : Bool) (job : Job) (rest : List Job) → KeepsJob before (row e) job → KeepsJobs before todo rest → AreFor receives item todo rest → AreAtRest is_passed (suc place) (received item rest) →
        receives e.def ≡ item job → Keeps e.core.facts job.past →
        is_gone (with_item job (item job)).past ≡ b → new.has_gone ≡ b →
        (is_gone (with_item job (item job)).past ≡ false → Keeps new.core.facts (ordered (due (with_item job (item job)).past) (with_item job (item job)).past)) →
        way.past ++ cons_option (cond b None (Some (record (with_item job (item job)) { past = ordered (due (with_item job (item job)).past) (with_item job (item job)).past }))) (filter_map stays (received item rest)) ≡ after →
        later ++ numbered_all todo (received item rest) ≡ all →
        IsOnWay before at receives item is_passed (suc place) (done ++ cond b [] (row new ∷ [])) todo later all after
    end true job rest this waits for rests same keeps gone going kept leads gives = record {
      past = way.past;
      rest = rest;
      kept = rw append-nil way.kept;
      waits = waits;
      for = for;
      rests = rests;
      leads = leads;
      gives = gives;
    }
    end false job rest this waits for rests same keeps gone going kept leads gives =
        let received_job = with_item job (item job) in
        let next : Job = record received_job { past = ordered (due received_job.past) received_job.past } in
        let stays_on : KeepsJob at (row new) next = record {
          label = ap (λ n. n.described.label) visit.name ∙ this.label ∙ label-with job (item job);
          definition = ap (λ n. definition n.described) visit.name ∙ this.definition ∙ definition-with receives before at brings job e.def (item job) same ∙ sym (definition-ordered (due received_job.past) received_job.past);
          keeps = kept gone;
          present = present-with receives before at brings job e.def (item job) same this.present ∙ sym (now-ordered (due received_job.past) received_job.past);
        } in
        record {
          past = way.past ++ next ∷ [];
          rest = rest;
          kept = KeepsJobs-append at done (row new ∷ []) way.past (next ∷ []) way.kept (stays_on, tt);
          waits = waits;
          for = for;
          rests = rests;
          leads = append_assoc way.past (next ∷ []) (filter_map stays (received item rest)) ∙ leads;
          gives = gives;
        }

    go : (rest : List Job) → KeepsJobs before (row e ∷ todo) rest → AreFor receives item (row e ∷ todo) rest → AreAtRest is_passed place (received item rest) →
        way.past ++ filter_map stays (received item rest) ≡ after → earlier ++ numbered_all (row e ∷ todo) (received item rest) ≡ all →
        IsOnWay before at receives item is_passed (suc place) (done ++ rows (new ∷ [])) todo later all after
    go [] waits for rests leads gives = absurd waits
    go (job ∷ rest) waits for rests leads gives =
        let this = waits.0 in
        let same : receives e.def ≡ item job = for.0 in
        let next = with_item job (item job) in
        let past : followed (receives e.def) job.past ≡ next.past = ap (λ o. followed o job.past) same ∙ past-with job (item job) in
        let fine : refusal_if (receives e.def) job.past ≡ None = ap (λ o. refusal_if o job.past) same ∙ accepted job this.present in
        let is : at ≡ now (followed (receives e.def) job.past) = brings.present e.def job.past this.present in
        let going : new.has_gone ≡ is_gone next.past = visit.going job.past this.keeps this.present fine is ∙ ap is_gone past in
        let orders : later ≡ earlier ++ numbered_orders e.number (acts_of next.past) =
        visit.orders job.past this.keeps this.present fine is ∙ ap (λ t. earlier ++ numbered_orders e.number (acts_of t)) past in
        let kept : is_gone next.past ≡ false → Keeps new.core.facts (ordered (due next.past) next.past) =
        λ staying. subst (λ t. Keeps new.core.facts (ordered (due t) t)) past (visit.kept job.past this.keeps this.present fine is (ap is_gone past ∙ staying)) in
        rw going
        (end (is_gone next.past) job rest this waits.1 for.1 rests.1 same this.keeps refl going kept leads
        (ap (λ os. os ++ numbered_all todo (received item rest)) orders ∙ append_assoc earlier (numbered_orders e.number (acts_of next.past)) (numbered_all todo (received item rest)) ∙ gives))

-- ---- along the slots

stay-drop : (es : List JobSlot) (i : ℕ) → AllStay es → AllStay (drop i es)
stay-drop [] zero stay = tt
stay-drop [] (suc i) stay = tt
stay-drop (e ∷ es) zero stay = stay
stay-drop (e ∷ es) (suc i) stay = stay-drop es i stay.1

head-at : (es : List JobSlot) (i : ℕ) → i < length es → (e : JobSlot) × (drop i es ≡ e ∷ drop (suc i) es)
head-at [] i within = let clash : ⊥ = omega (arith, within) in absurd clash
head-at (e ∷ es) zero within = (e, refl)
head-at (e ∷ es) (suc i) within = head-at es i (omega (arith, within))

take-none : {X : Type 0} (xs : List X) → length (take 0 xs) ≡ 0
take-none [] = refl
take-none (x ∷ xs) = refl

take-length : {X : Type 0} (xs : List X) (i : ℕ) → i ≤ length xs → length (take i xs) ≡ i
take-length xs zero within = take-none xs
take-length [] (suc i) within = let clash : ⊥ = omega (arith, within) in absurd clash
take-length (x ∷ xs) (suc i) within = ap suc (take-length xs i (omega (arith, within)))

drop-some : (es : List JobSlot) (i : ℕ) (e : JobSlot) (rest : List JobSlot) → drop i es ≡ e ∷ rest → i ≤ length es
drop-some [] zero e rest is = cc
drop-some [] (suc i) e rest is = cc
drop-some (x ∷ xs) zero e rest is = omega arith
drop-some (x ∷ xs) (suc i) e rest is = let less = drop-some xs i e rest is in omega (arith, less)

take-whole : {X : Type 0} (xs : List X) → take (length xs) xs ≡ xs
take-whole [] = refl
take-whole (x ∷ xs) = ap (λ ys. x ∷ ys) (take-whole xs)

drop-whole : {X : Type 0} (xs : List X) → drop (length xs) xs ≡ []
drop-whole [] = refl
drop-whole (x ∷ xs) = drop-whole xs

or-left : (a b : Bool) → b ≡ false → (a || b) ≡ a
or-left true b is = refl
or-left false b is = is

module _ (is_passed : ℕ → Bool) where
  once-snoc : (place : ℕ) (es later : List JobSlot) (e new : JobSlot) → AreVisitedOnce is_passed place es later → name new ≡ name e →
      new.core.decided ≡ cond (new.has_gone || is_passed (place + length es)) e.core.decided (next_count e.core.decided) → (is_passed (place + length es) ≡ true → new ≡ e) → AreVisitedOnce is_passed place (es ++ e ∷ []) (later ++ new ∷ [])
  once-snoc place [] [] e new all named up same = (named, subst (λ p. new.core.decided ≡ cond (new.has_gone || is_passed p) e.core.decided (next_count e.core.decided)) (omega arith) up, subst (λ p. is_passed p ≡ true → new ≡ e) (omega arith) same, tt)
  once-snoc place [] (n ∷ ns) e new all named up same = absurd all
  once-snoc place (x ∷ xs) [] e new all named up same = absurd all
  once-snoc place (x ∷ xs) (n ∷ ns) e new all named up same = (
    all.0,
    all.1,
    all.2,
    once-snoc (suc place) xs ns e new all.3 named
        (subst (λ p. new.core.decided ≡ cond (new.has_gone || is_passed p) e.core.decided (next_count e.core.decided)) (omega arith) up)
        (subst (λ p. is_passed p ≡ true → new ≡ e) (omega arith) same),
  )

  count-snoc : (place : ℕ) (es : List JobSlot) (e : JobSlot) (b : Bool) → (e.has_gone || is_passed (place + length es)) ≡ b →
      count_visited is_passed place (es ++ e ∷ []) ≡ cond b (count_visited is_passed place es) (suc (count_visited is_passed place es))
  count-snoc place [] e b is = ap (λ v. cond v 0 1) (subst (λ p. (e.has_gone || is_passed p) ≡ b) (omega arith) is)
  count-snoc place (x ∷ xs) e b is = go (x.has_gone || is_passed place) b (count-snoc (suc place) xs e b (subst (λ p. (e.has_gone || is_passed p) ≡ b) (omega arith) is)) where
    go : (v b : Bool) → count_visited is_passed (suc place) (xs ++ e ∷ []) ≡ cond b (count_visited is_passed (suc place) xs) (suc (count_visited is_passed (suc place) xs)) →
        cond v (count_visited is_passed (suc place) (xs ++ e ∷ [])) (suc (count_visited is_passed (suc place) (xs ++ e ∷ [])))
        ≡ cond b (cond v (count_visited is_passed (suc place) xs) (suc (count_visited is_passed (suc place) xs))) (suc (cond v (count_visited is_passed (suc place) xs) (suc (count_visited is_passed (suc place) xs))))
    go true true is = is
    go true false is = is
    go false true is = ap suc is
    go false false is = ap suc is

module _ (before at : Reading) (receives : Described → Option Item) (is_passed : ℕ → Bool) (es0 : List JobSlot) (first : List Order) where
  -- the walk has come so far
  pub record IsWalked (es : List JobSlot) (front : ℕ) (earlier : List Order) (visited : ℕ) : Type 0 where
    pub untouched : drop front es ≡ drop front es0
    pub spared : AreSpared is_passed before receives front (drop front es0)
    pub once : AreVisitedOnce is_passed 0 (take front es0) (take front es)
    pub count : visited ≡ count_visited is_passed 0 (take front es)
    pub way : (jobs : List Job) (item : Job → Option Item) → AreFor receives item (rows es0) jobs → IsAccepted before item → AreAtRest is_passed 0 (received item jobs) → KeepsJobs before (rows es0) jobs →
        IsOnWay before at receives item is_passed front (rows (take front es)) (rows (drop front es0)) earlier (first ++ numbered_all (rows es0) (received item jobs)) (filter_map stays (received item jobs))

module _ (before at : Reading) (receives : Described → Option Item) (is_passed : ℕ → Bool) (brings : Brings receives before at) (es0 : List JobSlot) (first : List Order) where
  abbrev IsWalkedHere : List JobSlot → ℕ → List Order → ℕ → Type 0
  IsWalkedHere es front earlier visited = IsWalked before at receives is_passed es0 first es front earlier visited

  pub skip-one : (es : List JobSlot) (i : ℕ) (earlier : List Order) (visited : ℕ) → AllStay es0 → i < length es0 → is_passed i ≡ true → IsWalkedHere es i earlier visited → IsWalkedHere es (suc i) earlier visited
  skip-one es i earlier visited stay within spared walked =
      let found = head-at es0 i within in
      let e = found.0 in
      let rest0 = drop (suc i) es0 in
      let here0 : drop i es0 ≡ e ∷ rest0 = found.1 in
      let here : drop i es ≡ e ∷ rest0 = walked.untouched ∙ here0 in
      let staying : AllStay (e ∷ rest0) = subst AllStay here0 (stay-drop es0 i stay) in
      let spares : AreSpared is_passed before receives i (e ∷ rest0) = subst (AreSpared is_passed before receives i) here0 walked.spared in
      let taken0 : take (suc i) es0 ≡ take i es0 ++ e ∷ [] = take-of-drop es0 i e rest0 here0 in
      let taken : take (suc i) es ≡ take i es ++ e ∷ [] = take-of-drop es i e rest0 here in
      let done : rows (take (suc i) es) ≡ rows (take i es) ++ row e ∷ [] = ap rows taken ∙ rows-append (take i es) (e ∷ []) ∙ ap (λ rs. rows (take i es) ++ rs) (rows-stay e [] staying.0) in
      let todo : rows (drop i es0) ≡ row e ∷ rows rest0 = ap rows here0 ∙ rows-stay e rest0 staying.0 in
      let at-front : (v : Bool) → (v || is_passed (0 + length (take i es0))) ≡ true =
      let long = take-length es0 i (omega (arith, within)) in λ v. or-second v _ (subst (λ p. is_passed p ≡ true) (omega (arith, long)) spared) in
      let at-done : (v : Bool) → (v || is_passed (0 + length (take i es))) ≡ true =
      let long = take-length es i (drop-some es i e rest0 here) in λ v. or-second v _ (subst (λ p. is_passed p ≡ true) (omega (arith, long)) spared) in
      record {
        untouched = drop-suc es es0 i walked.untouched;
        spared = spares.1;
        once = subst (λ xs. AreVisitedOnce is_passed 0 xs (take (suc i) es)) (sym taken0) (subst (λ ys. AreVisitedOnce is_passed 0 (take i es0 ++ e ∷ []) ys) (sym taken)
            (once-snoc is_passed 0 (take i es0) (take i es) e e walked.once refl (ap (λ b. cond b e.core.decided (next_count e.core.decided)) (sym (at-front e.has_gone))) (λ none. refl)));
        count = walked.count ∙ sym (ap (count_visited is_passed 0) taken ∙ count-snoc is_passed 0 (take i es) e true (at-done e.has_gone));
        way = λ jobs item for accepted rests keeps.
            subst (λ d. IsOnWay before at receives item is_passed (suc i) d (rows rest0) earlier (first ++ numbered_all (rows es0) (received item jobs)) (filter_map stays (received item jobs))) (sym done)
            (skip-head before at receives item is_passed brings accepted i e (rows (take i es)) (rows rest0) earlier _ _ spared (spares.0 spared)
            (subst (λ t. IsOnWay before at receives item is_passed i (rows (take i es)) t earlier (first ++ numbered_all (rows es0) (received item jobs)) (filter_map stays (received item jobs))) todo
            (walked.way jobs item for accepted rests keeps)));
      }

  pub skip-to : (es : List JobSlot) (n i : ℕ) (earlier : List Order) (visited : ℕ) → AllStay es0 → i + n ≤ length es0 → ((k : ℕ) → i ≤ k → k < i + n → is_passed k ≡ true) →
      IsWalkedHere es i earlier visited → IsWalkedHere es (i + n) earlier visited
  skip-to es zero i earlier visited stay within spared walked = subst (λ k. IsWalkedHere es k earlier visited) (omega arith) walked
  skip-to es (suc n) i earlier visited stay within spared walked =
      subst (λ k. IsWalkedHere es k earlier visited) (omega arith)
      (skip-to es n (suc i) earlier visited stay (omega (arith, within)) (λ k low high. spared k (omega (arith, low)) (omega (arith, high)))
      (skip-one es i earlier visited stay (omega (arith, within)) (spared i (omega arith) (omega arith)) walked))

  pub visit-one : (es : List JobSlot) (i : ℕ) (e new : JobSlot) (earlier later : List Order) (visited more : ℕ) → AllStay es0 → i < length es0 → i < length es → e ≡ get_or es i e → is_passed i ≡ false →
      IsVisit before at (receives e.def) e new earlier later → new.core.decided ≡ cond new.has_gone e.core.decided (next_count e.core.decided) → more ≡ cond new.has_gone visited (suc visited) →
      IsWalkedHere es i earlier visited → IsWalkedHere (slice_set es i new) (suc i) later more
  visit-one es i e new earlier later visited more stay within inside is marked visit decided counts walked =
      let here : drop i es ≡ e ∷ drop (suc i) es = at-drop es i e inside is in
      let here0 : drop i es0 ≡ e ∷ drop (suc i) es = sym walked.untouched ∙ here in
      let rest0 : drop (suc i) es0 ≡ drop (suc i) es = sym (drop-suc es es0 i walked.untouched) in
      let staying : AllStay (e ∷ drop (suc i) es) = subst AllStay here0 (stay-drop es0 i stay) in
      let spares : AreSpared is_passed before receives i (e ∷ drop (suc i) es) = subst (AreSpared is_passed before receives i) here0 walked.spared in
      let taken0 : take (suc i) es0 ≡ take i es0 ++ e ∷ [] = take-of-drop es0 i e (drop (suc i) es) here0 in
      let taken : take (suc i) (slice_set es i new) ≡ take i es ++ new ∷ [] = set-take es i new inside in
      let done : rows (take (suc i) (slice_set es i new)) ≡ rows (take i es) ++ rows (new ∷ []) = ap rows taken ∙ rows-append (take i es) (new ∷ []) in
      let todo : rows (drop i es0) ≡ row e ∷ rows (drop (suc i) es0) = ap rows here0 ∙ rows-stay e (drop (suc i) es) staying.0 ∙ ap (λ r. row e ∷ rows r) (sym rest0) in
      let front : (v : Bool) → (v || is_passed (0 + length (take i es0))) ≡ v =
      let long = take-length es0 i (omega (arith, within)) in λ v. or-left v _ (subst (λ p. is_passed p ≡ false) (omega (arith, long)) marked) in
      let front_done : (v : Bool) → (v || is_passed (0 + length (take i es))) ≡ v =
      let long = take-length es i (omega (arith, inside)) in λ v. or-left v _ (subst (λ p. is_passed p ≡ false) (omega (arith, long)) marked) in
      record {
        untouched = set-drop es i new ∙ drop-suc es es0 i walked.untouched;
        spared = subst (AreSpared is_passed before receives (suc i)) (sym rest0) spares.1;
        once = subst (λ xs. AreVisitedOnce is_passed 0 xs (take (suc i) (slice_set es i new))) (sym taken0) (subst (λ ys. AreVisitedOnce is_passed 0 (take i es0 ++ e ∷ []) ys) (sym taken)
            (once-snoc is_passed 0 (take i es0) (take i es) e new walked.once visit.name (decided ∙ ap (λ b. cond b e.core.decided (next_count e.core.decided)) (sym (front new.has_gone))) (λ none. (let clash : true ≡ false = sym none ∙ front false in absurd (cc clash)))));
        count = counts ∙ ap (λ n. cond new.has_gone n (suc n)) walked.count ∙ sym (ap (count_visited is_passed 0) taken ∙ count-snoc is_passed 0 (take i es) new new.has_gone (front_done new.has_gone));
        way = λ jobs item for accepted rests keeps.
            subst (λ d. IsOnWay before at receives item is_passed (suc i) d (rows (drop (suc i) es0)) later (first ++ numbered_all (rows es0) (received item jobs)) (filter_map stays (received item jobs))) (sym done)
            (visit-head before at receives item is_passed brings accepted i e new (rows (take i es)) (rows (drop (suc i) es0)) earlier later _ _ visit
            (subst (λ t. IsOnWay before at receives item is_passed i (rows (take i es)) t earlier (first ++ numbered_all (rows es0) (received item jobs)) (filter_map stays (received item jobs))) todo
            (walked.way jobs item for accepted rests keeps)));
      }

  pub record IsThrough (es : List JobSlot) (earlier : List Order) (visited : ℕ) : Type 0 where
    pub kept : (jobs : List Job) (item : Job → Option Item) → AreFor receives item (rows es0) jobs → IsAccepted before item → AreAtRest is_passed 0 (received item jobs) → KeepsJobs before (rows es0) jobs →
        KeepsJobs at (rows es) (filter_map stays (received item jobs))
    pub orders : (jobs : List Job) (item : Job → Option Item) → AreFor receives item (rows es0) jobs → IsAccepted before item → AreAtRest is_passed 0 (received item jobs) → KeepsJobs before (rows es0) jobs →
        earlier ≡ first ++ numbered_all (rows es0) (received item jobs)
    pub counted : visited ≡ count_visited is_passed 0 es
    pub visits : AreVisitedOnce is_passed 0 es0 es

  -- the walk is over
  pub walk-end : (es : List JobSlot) (earlier : List Order) (visited : ℕ) → length es ≡ length es0 → IsWalkedHere es (length es0) earlier visited → IsThrough es earlier visited
  walk-end es earlier visited long walked =
      let whole : take (length es0) es ≡ es = ap (λ n. take n es) (sym long) ∙ take-whole es in
      let whole0 : take (length es0) es0 ≡ es0 = take-whole es0 in
      record {
        kept = λ jobs item for accepted rests keeps.
            end-kept (filter_map stays (received item jobs)) (first ++ numbered_all (rows es0) (received item jobs)) item
            (subst (λ d. IsOnWay before at receives item is_passed (length es0) d (rows (drop (length es0) es0)) earlier (first ++ numbered_all (rows es0) (received item jobs)) (filter_map stays (received item jobs))) (ap rows whole)
            (walked.way jobs item for accepted rests keeps));
        orders = λ jobs item for accepted rests keeps.
            end-orders (filter_map stays (received item jobs)) (first ++ numbered_all (rows es0) (received item jobs)) item (walked.way jobs item for accepted rests keeps);
        counted = walked.count ∙ ap (count_visited is_passed 0) whole;
        visits = subst (λ xs. AreVisitedOnce is_passed 0 xs es) whole0 (subst (AreVisitedOnce is_passed 0 (take (length es0) es0)) whole walked.once);
      } where
        end-kept : (after : List Job) (all : List Order) (item : Job → Option Item) → IsOnWay before at receives item is_passed (length es0) (rows es) (rows (drop (length es0) es0)) earlier all after → KeepsJobs at (rows es) after
        end-kept after all item way = go way.rest (subst (λ t. KeepsJobs before (rows t) way.rest) (drop-whole es0) way.waits) way.leads where
          go : (rest : List Job) → KeepsJobs before [] rest → way.past ++ filter_map stays (received item rest) ≡ after → KeepsJobs at (rows es) after
          go [] waits leads = subst (KeepsJobs at (rows es)) (sym (append-nil way.past) ∙ leads) way.kept
          go (job ∷ rest) waits leads = absurd waits

        end-orders : (after : List Job) (all : List Order) (item : Job → Option Item) → IsOnWay before at receives item is_passed (length es0) (rows (take (length es0) es)) (rows (drop (length es0) es0)) earlier all after → earlier ≡ all
        end-orders after all item way = go way.rest (rows (drop (length es0) es0)) (ap rows (drop-whole es0)) way.gives where
          go : (rest : List Job) (todo : List Row) → todo ≡ [] → earlier ++ numbered_all todo (received item rest) ≡ all → earlier ≡ all
          go rest [] none gives = sym (append-nil earlier) ∙ gives
          go rest (r ∷ rs) none gives = cc

  pub walk-over : (es : List JobSlot) (front : ℕ) (earlier : List Order) (visited : ℕ) → AllStay es0 → length es ≡ length es0 → front ≤ length es0 → ((k : ℕ) → front ≤ k → is_passed k ≡ true) →
      IsWalkedHere es front earlier visited → IsThrough es earlier visited
  walk-over es front earlier visited stay long within spared walked =
      walk-end es earlier visited long (subst (λ k. IsWalkedHere es k earlier visited) (omega (arith, within))
      (skip-to es (length es0 - front) front earlier visited stay (omega (arith, within)) (λ k low high. spared k low) walked))

  -- the walk that visits the job at one place, and passes each other one by
  pub visit-alone : (place : ℕ) (e new : JobSlot) (later : List Order) (count : ℕ) → AllStay es0 → AreSpared is_passed before receives 0 es0 → place < length es0 → e ≡ get_or es0 place e →
      is_passed place ≡ false → ((k : ℕ) → place ≢ k → is_passed k ≡ true) → IsVisit before at (receives e.def) e new first later →
      new.core.decided ≡ cond new.has_gone e.core.decided (next_count e.core.decided) → count ≡ cond new.has_gone 0 1 → IsThrough (slice_set es0 place new) later count
  visit-alone place e new later count stay spared within is own others visit decided counts =
      let begun : IsWalkedHere es0 0 first 0 = record {
        untouched = refl;
        spared = spared;
        once = tt;
        count = refl;
        way = λ jobs item for accepted rests keeps. record { past = []; rest = jobs; kept = tt; waits = keeps; for = for; rests = rests; leads = refl; gives = refl };
      } in
      let there : IsWalkedHere es0 place first 0 = subst (λ k. IsWalkedHere es0 k first 0) (omega arith)
      (skip-to es0 place 0 first 0 stay (omega (arith, within)) (λ k low high. others k (λ same. (let clash : ⊥ = omega (arith, high, same) in clash))) begun) in
      walk-over (slice_set es0 place new) (suc place) later count stay (length-set es0 place new) (omega (arith, within)) (λ k low. others k (λ same. (let clash : ⊥ = omega (arith, low, same) in clash)))
      (visit-one es0 place e new first later 0 count stay within within is own visit decided counts there)
