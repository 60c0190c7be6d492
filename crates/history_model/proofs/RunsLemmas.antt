-- One run is running at a time, and a spawn is awaited only if none is running.
use Rattle.std.proofs.Common.{◌≡◌, ◌⊎◌, inl, inr, ◌==◌, ◌+◌, ◌<◌, ℕ, suc, true, false, ◌||◌, cond, Option, Some, None, List, [], ◌∷◌, refl, sym, ◌∙◌, arith}
use Rattle.std.proofs.lemmas.Bool.{eqb-true}
use Rattle.std.specs.List.{filter_map, list_any}
use Rattle.history_model.specs.declared.Ended.{Ended}
use Rattle.history_model.specs.declared.Act.{Act}
use Rattle.history_model.specs.declared.Act.TheVariants.{Spawn, Term, Kill, Close, Gone}
use Rattle.history_model.specs.declared.Answer.{Answer}
use Rattle.history_model.specs.declared.Answer.TheVariants.{Spawned, SpawnRefused, Termed, Killed}
use Rattle.history_model.specs.Items.{Item, Loaded, Read, Saw, Asked, Came, Left, Ordered, Answered, RunEnded, WaitRefused, History}
use Rattle.history_model.specs.Search.{first, latest, since}
use Rattle.history_model.specs.Runs.{is_answer_to, runs, living, child, awaited, unless_settled, settles, has_ended, has_spawned}
use Rattle.history_model.specs.Kinds.{is_order, order_in, is_end_of, is_spawned_answer, spawned_in}
use Rattle.history_model.specs.Refusals.{IsLawful}
use Rattle.history_model.specs.ByFacts.{settle}
use Rattle.history_model.proofs.SearchLemmas.{filter-or, list_any-implied}
use Rattle.history_model.proofs.LawfulLemmas.{eqb-self, names_act, names_run, due-Term, due-Kill, due-rest, ended-named, spawned-named, due-Spawn, Answers, Answers-from, IsChild-from, unnamed}
use Rattle.history_model.specs.declared.Child.{Child}

pub unless_settled-more : (x : Item) (s : History) (o : Option Act) → unless_settled (x ∷ s) o ≡ settle x (unless_settled s o)
unless_settled-more x s None = refl
unless_settled-more x s (Some act) =
    elim (list_any (λ y. settles y act) s) as (λ v. cond (settles x act || v) None (Some act) ≡ settle x (cond v None (Some act))) [
      | true ↦ elim (settles x act) as (λ w. cond (w || true) None (Some act) ≡ None) [ true ↦ refl | false ↦ refl ]
      | false ↦ elim (settles x act) as (λ w. cond (w || false) None (Some act) ≡ cond w None (Some act)) [ true ↦ refl | false ↦ refl ]
    ]

-- an accepted answer settles the awaited order
pub answered-settles : (t : History) (answer : Answer) → Answers t answer → awaited (Answered answer ∷ t) ≡ None
answered-settles t answer fact =
    rw (unless_settled-more (Answered answer) (since is_order t) (latest order_in t), fact.stands, fact.fits) refl

-- no run is running, or the present one does
abbrev pub IsAlone : History → Type 0
IsAlone t = (living t ≡ []) ⊎ ((pid : ℕ) × (living t ≡ (record { run = runs t; pid = pid }) ∷ []))

-- the awaited spawn is that of the present run, which did nothing yet
abbrev pub IsSpawning : History → ℕ → Type 0
IsSpawning t n = (n ≡ runs t) × (has_spawned n t ≡ false) × (has_ended n t ≡ false) × (living t ≡ [])

abbrev pub IsSound : History → Type 0
IsSound t = IsAlone t × ((n : ℕ) (conn : Option ℕ) → awaited t ≡ Some (Spawn n conn) → IsSpawning t n)

pub childless : (t : History) → child t ≡ None → living t ≡ []
childless t e = go (living t) refl e where
  go : (l : List Child) → living t ≡ l → first l ≡ None → living t ≡ []
  go [] el e = el
  go (c ∷ l) el e = cc

-- the child is the present run, and the only one
pub child-present : (t : History) (c : Child) → IsAlone t → child t ≡ Some c → (c.run ≡ runs t) × (living t ≡ c ∷ [])
child-present t c (inl none) e = let h : first (living t) ≡ None = rw none refl in cc
child-present t c (inr (pid, one)) e =
    let h : first (living t) ≡ Some (record { run = runs t; pid = pid }) = rw one refl in
    let same : (record { run = runs t; pid = pid }) ≡ c = cc in
    (rw (← same) refl, rw (← same) one)

pub spawned-living : (t : History) (run pid : ℕ) → IsSpawning t run → living (Answered (Spawned run pid) ∷ t) ≡ (record { run = run; pid = pid }) ∷ []
spawned-living t run pid fact = rw (fact.2, fact.3) refl

pub ended-living : (t : History) (run : ℕ) (how : Ended) (c : Child) → c.run ≡ run → living t ≡ c ∷ [] → living (RunEnded run how ∷ t) ≡ []
ended-living t run how c same one =
    rw (filter-or (λ (d : Child). run == d.run) (λ (d : Child). has_ended d.run t) (filter_map spawned_in t), one, same, eqb-self run) refl

answer_spawn : (run pid : ℕ) (act : Act) → is_answer_to (Spawned run pid) act ≡ true → (conn : Option ℕ) × (act ≡ Spawn run conn)
answer_spawn run pid (Spawn n conn) e = (conn, let same : n ≡ run = eqb-true n run e in rw same refl)
answer_spawn run pid _ e = cc

-- the order that an accepted spawn answers
pub spawned-awaited : (t : History) (run pid : ℕ) → Answers t (Spawned run pid) → (conn : Option ℕ) × (awaited t ≡ Some (Spawn run conn))
spawned-awaited t run pid fact =
    let act = answer_spawn run pid fact.act fact.fits in
    (act.0, rw (← act.1) fact.stands)

still_spawn : (run : ℕ) (how : Ended) (o : Option Act) (n : ℕ) (c : Option ℕ) → settle (RunEnded run how) o ≡ Some (Spawn n c) → o ≡ Some (Spawn n c)
still_spawn run how None n c e = cc
still_spawn run how (Some (Spawn m d)) n c e = e
still_spawn run how (Some (Term m)) n c e = elim (m == run) as (λ v. cond v None (Some (Term m)) ≡ Some (Spawn n c) → Some (Term m) ≡ Some (Spawn n c)) [ true ↦ λ h. cc | false ↦ λ h. cc ] e
still_spawn run how (Some (Kill m)) n c e = elim (m == run) as (λ v. cond v None (Some (Kill m)) ≡ Some (Spawn n c) → Some (Kill m) ≡ Some (Spawn n c)) [ true ↦ λ h. cc | false ↦ λ h. cc ] e
still_spawn run how (Some (Close m)) n c e = e
still_spawn run how (Some Gone) n c e = e

answer_no_spawn : (run : ℕ) (act : Act) → is_answer_to (SpawnRefused run) act ≡ true → (conn : Option ℕ) × (act ≡ Spawn run conn)
answer_no_spawn run (Spawn n conn) e = (conn, let same : n ≡ run = eqb-true n run e in rw same refl)
answer_no_spawn run _ e = cc

pub refused-awaited : (t : History) (run : ℕ) → Answers t (SpawnRefused run) → (conn : Option ℕ) × (awaited t ≡ Some (Spawn run conn))
refused-awaited t run fact =
    let act = answer_no_spawn run fact.act fact.fits in
    (act.0, rw (← act.1) fact.stands)

pub sound : (t : History) → IsLawful t → IsSound t
sound [] lawful = (inl refl, λ n conn e. cc)
sound (Ordered (Spawn run conn) ∷ t) (follows, lawful) =
    let fact = due-Spawn t run conn follows.1 in
    let empty = childless t fact.childless in (
      inl empty,
      λ n c e.
          let same : run ≡ n = cc in
          let number : n ≡ suc (runs t) = (let next : run ≡ runs t + 1 = fact.next in omega (arith, same)) in
          let above : runs t < n = omega (arith, number) in
          let none = unnamed t lawful n above in
          (number, list_any-implied (is_spawned_answer n) (names_run n) (spawned-named n) t none, list_any-implied (is_end_of n) (names_run n) (ended-named n) t none, empty),
    )
sound (Ordered (Term run) ∷ t) (follows, lawful) = ((sound t lawful).0, λ n c e. cc)
sound (Ordered (Kill run) ∷ t) (follows, lawful) = ((sound t lawful).0, λ n c e. cc)
sound (Ordered (Close run) ∷ t) (follows, lawful) = ((sound t lawful).0, λ n c e. cc)
sound (Ordered Gone ∷ t) (follows, lawful) = ((sound t lawful).0, λ n c e. cc)
sound (Answered (Spawned run pid) ∷ t) (follows, lawful) =
    let fact = Answers-from t (Spawned run pid) follows.1 in
    let order = spawned-awaited t run pid fact in
    let fresh = (sound t lawful).1 run order.0 order.1 in
    (inr (pid, rw (← fresh.0) (spawned-living t run pid fresh)), λ n c e. let settled = answered-settles t (Spawned run pid) fact in cc)
sound (Answered (SpawnRefused run) ∷ t) (follows, lawful) =
    ((sound t lawful).0, λ n c e. let settled = answered-settles t (SpawnRefused run) (Answers-from t (SpawnRefused run) follows.1) in cc)
sound (Answered (Termed run ok) ∷ t) (follows, lawful) =
    ((sound t lawful).0, λ n c e. let settled = answered-settles t (Termed run ok) (Answers-from t (Termed run ok) follows.1) in cc)
sound (Answered (Killed run ok) ∷ t) (follows, lawful) =
    ((sound t lawful).0, λ n c e. let settled = answered-settles t (Killed run ok) (Answers-from t (Killed run ok) follows.1) in cc)
sound (RunEnded run how ∷ t) (follows, lawful) =
    let before = sound t lawful in
    let fact = IsChild-from t run follows.1 in
    let one = child-present t (record { run = run; pid = fact.pid }) before.0 fact.stands in (
      inl (ended-living t run how (record { run = run; pid = fact.pid }) refl one.1),
      λ n c e.
          let more = unless_settled-more (RunEnded run how) (since is_order t) (latest order_in t) in
          let still : awaited t ≡ Some (Spawn n c) = still_spawn run how (awaited t) n c (sym more ∙ e) in
          let empty : living t ≡ [] = (before.1 n c still).3 in
          let full : living t ≡ (record { run = run; pid = fact.pid }) ∷ [] = one.1 in
          cc,
    )
sound (Loaded d at ∷ t) (follows, lawful) = sound t lawful
sound (Read at calendar ∷ t) (follows, lawful) = sound t lawful
sound (Saw path obs ∷ t) (follows, lawful) = sound t lawful
sound (Asked ask ∷ t) (follows, lawful) = sound t lawful
sound (Came conn ∷ t) (follows, lawful) = sound t lawful
sound (Left conn ∷ t) (follows, lawful) = sound t lawful
sound (WaitRefused run ∷ t) (follows, lawful) = sound t lawful

pub kept_awaited : (x : Item) (o : Option Act) (act : Act) → settle x o ≡ Some act → o ≡ Some act
kept_awaited x None act e = cc
kept_awaited x (Some a) act e = elim (settles x a) as (λ v. cond v None (Some a) ≡ Some act → Some a ≡ Some act) [ true ↦ λ h. cc | false ↦ λ h. h ] e

-- what is awaited is an order for the present run
pub awaited-present : (t : History) → IsLawful t → (act : Act) → awaited t ≡ Some act → names_act (runs t) act ≡ true
awaited-present [] lawful act e = cc
awaited-present (Ordered (Spawn run conn) ∷ t) (follows, lawful) act e =
    let fact = due-Spawn t run conn follows.1 in
    let same : Spawn run conn ≡ act = cc in
    let number : run ≡ suc (runs t) = (let next : run ≡ runs t + 1 = fact.next in omega arith) in
    rw (← same, number) (eqb-self (suc (runs t)))
awaited-present (Ordered (Term run) ∷ t) (follows, lawful) act e =
    let fact = due-Term t run follows.1 in
    let same : Term run ≡ act = cc in
    let number : run ≡ runs t = (child-present t (record { run = run; pid = fact.pid }) (sound t lawful).0 fact.present).0 in
    rw (← same, number) (eqb-self (runs t))
awaited-present (Ordered (Kill run) ∷ t) (follows, lawful) act e =
    let fact = due-Kill t run follows.1 in
    let same : Kill run ≡ act = cc in
    let number : run ≡ runs t = (child-present t (record { run = run; pid = fact.pid }) (sound t lawful).0 fact.present).0 in
    rw (← same, number) (eqb-self (runs t))
awaited-present (Ordered (Close conn) ∷ t) (follows, lawful) act e = absurd (due-rest t (Close conn) follows.1 (λ r c h. cc) (λ r h. cc) (λ r h. cc))
awaited-present (Ordered Gone ∷ t) (follows, lawful) act e = absurd (due-rest t Gone follows.1 (λ r c h. cc) (λ r h. cc) (λ r h. cc))
awaited-present (Answered answer ∷ t) (follows, lawful) act e =
    let settled = answered-settles t answer (Answers-from t answer follows.1) in cc
awaited-present (RunEnded run how ∷ t) (follows, lawful) act e =
    let more = unless_settled-more (RunEnded run how) (since is_order t) (latest order_in t) in
    awaited-present t lawful act (kept_awaited (RunEnded run how) (awaited t) act (sym more ∙ e))
awaited-present (Loaded d at ∷ t) (follows, lawful) act e = awaited-present t lawful act e
awaited-present (Read at calendar ∷ t) (follows, lawful) act e = awaited-present t lawful act e
awaited-present (Saw path obs ∷ t) (follows, lawful) act e = awaited-present t lawful act e
awaited-present (Asked ask ∷ t) (follows, lawful) act e = awaited-present t lawful act e
awaited-present (Came conn ∷ t) (follows, lawful) act e = awaited-present t lawful act e
awaited-present (Left conn ∷ t) (follows, lawful) act e = awaited-present t lawful act e
awaited-present (WaitRefused run ∷ t) (follows, lawful) act e = awaited-present t lawful act e
