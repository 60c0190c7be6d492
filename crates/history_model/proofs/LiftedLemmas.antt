-- From one load's laws to each past of a run.
use Rattle.std.proofs.Common.{◌≡◌, ℕ, ◌+◌, ◌^◌, ◌==◌, ◌≤◌, Bool, true, false, not, ◌||◌, ◌&&◌, cond, Option, Some, None, is_some, List, [], ◌∷◌, ◌++◌, refl, ◌∙◌, length, nat_lt, arith, append-nil}
use Rattle.std.proofs.lemmas.Bool.{eqb-true}
use Rattle.std.specs.List.{filter, flat_map, list_any, AllByRecursion}
use Rattle.history_model.specs.declared.Reading.{Reading}
use Rattle.history_model.specs.declared.Act.{Act}
use Rattle.history_model.specs.declared.Act.TheVariants.{Spawn, Term, Kill, Close, Gone}
use Rattle.history_model.specs.Items.{Item, Loaded, Read, Saw, Asked, Came, Left, Ordered, Answered, RunEnded, WaitRefused, History}
use Rattle.history_model.specs.Search.{first, in_order}
use Rattle.history_model.specs.Clock.{definition_of}
use Rattle.history_model.specs.Runs.{is_gone, is_removed, living, child, awaited, awaits_spawn, runs}
use Rattle.history_model.specs.Demands.{came_in, is_left, is_carrying, waiting, fires, fired_since, is_pending, is_spawned_order}
use Rattle.history_model.specs.Due.{due, due_beside, is_wanted, is_throttled, has_ever_spawned}
use Rattle.history_model.specs.Refusals.{IsLawful}
use Rattle.history_model.specs.Machine.{Job}
use Rattle.history_model.specs.MachineLaws.{IsSpaced, IsPatient, is_held_back, is_here, is_carried, is_waiting}
use Rattle.history_model.proofs.BooleanLemmas.{and-false}
use Rattle.history_model.proofs.RunsLemmas.{childless}
use Rattle.history_model.proofs.StepLemmas.{Rests, all-implied}
use Rattle.history_model.proofs.OneLoadLemmas.{far, overdue}
use Rattle.history_model.specs.declared.Child.{Child}

pub spaced : (t : History) → IsLawful t → IsSpaced t
spaced [] lawful = tt
spaced (Ordered (Spawn run conn) ∷ t) (follows, lawful) = let apart = far t run conn (follows, lawful) in (apart.0, apart.1, spaced t lawful)
spaced (Ordered (Term run) ∷ t) (follows, lawful) = spaced t lawful
spaced (Ordered (Kill run) ∷ t) (follows, lawful) = spaced t lawful
spaced (Ordered (Close conn) ∷ t) (follows, lawful) = spaced t lawful
spaced (Ordered Gone ∷ t) (follows, lawful) = spaced t lawful
spaced (Answered answer ∷ t) (follows, lawful) = spaced t lawful
spaced (RunEnded run how ∷ t) (follows, lawful) = spaced t lawful
spaced (Loaded d at ∷ t) (follows, lawful) = spaced t lawful
spaced (Read at calendar ∷ t) (follows, lawful) = spaced t lawful
spaced (Saw path obs ∷ t) (follows, lawful) = spaced t lawful
spaced (Asked ask ∷ t) (follows, lawful) = spaced t lawful
spaced (Came conn ∷ t) (follows, lawful) = spaced t lawful
spaced (Left conn ∷ t) (follows, lawful) = spaced t lawful
spaced (WaitRefused run ∷ t) (follows, lawful) = spaced t lawful

pub patient : (t : History) → IsLawful t → IsPatient t
patient [] lawful = tt
patient (Ordered (Kill run) ∷ t) (follows, lawful) = (overdue t run (follows, lawful), patient t lawful)
patient (Ordered (Spawn run conn) ∷ t) (follows, lawful) = patient t lawful
patient (Ordered (Term run) ∷ t) (follows, lawful) = patient t lawful
patient (Ordered (Close conn) ∷ t) (follows, lawful) = patient t lawful
patient (Ordered Gone ∷ t) (follows, lawful) = patient t lawful
patient (Answered answer ∷ t) (follows, lawful) = patient t lawful
patient (RunEnded run how ∷ t) (follows, lawful) = patient t lawful
patient (Loaded d at ∷ t) (follows, lawful) = patient t lawful
patient (Read at calendar ∷ t) (follows, lawful) = patient t lawful
patient (Saw path obs ∷ t) (follows, lawful) = patient t lawful
patient (Asked ask ∷ t) (follows, lawful) = patient t lawful
patient (Came conn ∷ t) (follows, lawful) = patient t lawful
patient (Left conn ∷ t) (follows, lawful) = patient t lawful
patient (WaitRefused run ∷ t) (follows, lawful) = patient t lawful

-- what follows from being lawful holds of each past
pub lifted : (P : History → Type 0) → ((t : History) → IsLawful t → P t) → (at : Reading) (jobs : List Job) → AllByRecursion (Rests at) jobs → AllByRecursion (λ (job : Job). P job.past) jobs
lifted P holds at jobs all = all-implied (Rests at) (λ (job : Job). P job.past) (λ job rests. holds job.past rests.stands.lawful) jobs all

-- one job of the label, with one living run
pub one-living : (jobs : List Job) → length jobs ≤ 1 → AllByRecursion (λ (job : Job). length (living job.past) ≤ 1) jobs → length (flat_map (λ (job : Job). living job.past) jobs) ≤ 1
one-living [] few all = omega arith
one-living (job ∷ []) few all = rw append-nil all.0
one-living (job ∷ other ∷ jobs) few all = absurd (omega (arith, few))

-- a job that is gone has no run
pub gone-living : (t : History) → is_gone t ≡ true → living t ≡ []
gone-living t gone = go (is_removed t) (child t) refl gone where
  go : (r : Bool) (c : Option Child) → child t ≡ c → (r && not (is_some c || awaits_spawn t)) ≡ true → living t ≡ []
  go false c e gone = cc
  go true None e gone = childless t e
  go true (Some c) e gone = cc

-- a job that is wanted and has no spawn due is held back
pub held-back : (t : History) → due t ≡ None → is_wanted t ≡ true → is_held_back t ≡ true
held-back t idle wanted = go (awaited t) (child t) idle where
  held : (r w h o n : Bool) → w ≡ true → cond (not r && w && not h && not o && n) (Some (Spawn (runs t + 1) (first (waiting t)))) None ≡ None → (h || r || o || not n) ≡ true
  held r false h o n e none = cc
  held true true true o n e none = refl
  held true true false o n e none = refl
  held false true true o n e none = refl
  held false true false true n e none = refl
  held false true false false true e none = cc
  held false true false false false e none = refl

  go : (a : Option Act) (c : Option Child) → cond (is_some a) None (due_beside c t) ≡ None →
      (is_some c || is_some a || is_throttled t || is_removed t || ((definition_of t).launch_only_once && has_ever_spawned t) || not (nat_lt (runs t) (2 ^ 63))) ≡ true
  go a (Some c) none = refl
  go (Some act) None none = refl
  go None None none = held (is_removed t) (is_wanted t) (is_throttled t) ((definition_of t).launch_only_once && has_ever_spawned t) (nat_lt (runs t) (2 ^ 63)) wanted none

-- an order does not make a demand
no_order-fires : (t : History) (x : Item) (before : History) → fires x before ≡ true → is_spawned_order t x ≡ false
no_order-fires t (Ordered act) before fired = cc
no_order-fires t _ before fired = refl

-- a demand is pending, or a later order was answered ok
fired-pending : (p : Item → Bool) (later : History) (x : Item) (before : History) → p x ≡ false → fires x before ≡ true →
    (fired_since p (later ++ x ∷ before) || list_any p later) ≡ true
fired-pending p [] x before no_order fired = rw (no_order, fired) refl
fired-pending p (y ∷ later) x before no_order fired =
    go (p y) (fires y (later ++ x ∷ before)) (fired_since p (later ++ x ∷ before)) (list_any p later) (fired-pending p later x before no_order fired) where
      go : (b f s l : Bool) → (s || l) ≡ true → ((not b && (f || s)) || (b || l)) ≡ true
      go true f s l e = refl
      go false true s l e = refl
      go false false s l e = e

pub stays-fired : (later : History) (x : Item) (before : History) → fires x before ≡ true →
    (is_pending (later ++ x ∷ before) || list_any (is_spawned_order (later ++ x ∷ before)) later) ≡ true
stays-fired later x before fired =
    fired-pending (is_spawned_order (later ++ x ∷ before)) later x before (no_order-fires (later ++ x ∷ before) x before fired) fired

-- who passes a filter was there and passes its test
pub any-filter : (p : ℕ → Bool) (conn : ℕ) (xs : List ℕ) → list_any (λ c. c == conn) (filter p xs) ≡ (list_any (λ c. c == conn) xs && p conn)
any-filter p conn [] = refl
any-filter p conn (x ∷ xs) = go (any-filter p conn xs) (p x) (x == conn) refl refl where
  go : list_any (λ c. c == conn) (filter p xs) ≡ (list_any (λ c. c == conn) xs && p conn) → (b v : Bool) → p x ≡ b → (x == conn) ≡ v →
      list_any (λ c. c == conn) (cond b (x ∷ filter p xs) (filter p xs)) ≡ ((v || list_any (λ c. c == conn) xs) && p conn)
  go rest true true eb ev = rw (ev, ← eqb-true x conn ev, eb) refl
  go rest true false eb ev = rw ev rest
  go rest false true eb ev = let fails : p conn ≡ false = rw (← eqb-true x conn ev) eb in rw (rest, fails) (and-false (list_any (λ c. c == conn) xs))
  go rest false false eb ev = rest

and-assoc : (a b c : Bool) → (a && (b && c)) ≡ ((a && b) && c)
and-assoc true b c = refl
and-assoc false b c = refl

pub waits : (t : History) (conn : ℕ) → is_waiting t conn ≡ (is_here t conn && not (is_carried t conn))
waits t conn =
    any-filter (λ c. not (list_any (is_left c) t) && not (list_any (is_carrying t c) t)) conn (in_order came_in t)
    ∙ and-assoc (list_any (λ c. c == conn) (in_order came_in t)) (not (list_any (is_left conn) t)) (not (is_carried t conn))
