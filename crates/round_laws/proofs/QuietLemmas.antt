-- What a pass spares its launcher may be left out, and what it delivers comes in time.
use Rattle.std.proofs.Common.{◌≡◌, inr, ◌≤◌, Bool, true, false, ◌||◌, List, [], ◌∷◌, ◌++◌, map, Option, Some, None, refl, sym, ap, subst, ◌∙◌, nat_lt, append_assoc, arith}
use Rattle.std.specs.Prelude.{Ok, Err, if◌then◌else◌, ⊤}
use Rattle.std.specs.List.{AllByRecursion}
use Rattle.std.proofs.lemmas.Bool.Decides.{nat_tests}
use Rattle.history_model.specs.declared.Reading.{Reading}
use Rattle.history_model.specs.declared.Refusal.{Refusal}
use Rattle.history_model.specs.declared.Refusal.TheVariants.{ClockRefused}
use Rattle.history_model.specs.declared.TheConstants.{MAX_UP, MAX_WALL}
use Rattle.history_model.specs.Refusals.{is_clock_refused}
use Rattle.history_model.specs.Machine.{State, Event, Unreadable, Load, UnloadJob, Set, ListJobs, PrintJob, ShutDown, Tick, Observation, OfJob}
use Rattle.history_model.specs.Acceptance.{refused_if, refusal_in}
use Rattle.history_model.specs.Step.{taken, step_by, step, run, outcome, outcomes}
use Rattle.history_model.specs.LeftOut.{Line, Delivered, LeftOut, HaveSeen, all_of, delivered, last_read, last_read_in, IsInTime, MayBeLeftOut}
use Rattle.job_table.specs.Taking.{machine_event}
use Rattle.launcher_laws.specs.TurnRuns.{Part, AreParts}
use Rattle.history_model.proofs.BooleanLemmas.{or-false}
use Rattle.round_laws.specs.Marks.{Mark, Turned, Spared, turns_in}
use Rattle.round_laws.specs.Receiving.{lines_of, ReceivedReadings}

-- ---- lists of lines in two parts

pub run-both : (xs ys : List Event) (s : State) → run (xs ++ ys) s ≡ run ys (run xs s)
run-both [] ys s = refl
run-both (x ∷ xs) ys s = run-both xs ys (step s x)

pub outcomes-both : (xs ys : List Event) (s : State) → outcomes (xs ++ ys) s ≡ outcomes xs s ++ outcomes ys (run xs s)
outcomes-both [] ys s = refl
outcomes-both (x ∷ xs) ys s = ap (λ l. outcome s x ∷ l) (outcomes-both xs ys (step s x))

pub all-both : (xs ys : List Line) → all_of (xs ++ ys) ≡ all_of xs ++ all_of ys
all-both [] ys = refl
all-both (Delivered e ∷ xs) ys = ap (λ es. e ∷ es) (all-both xs ys)
all-both (LeftOut e ∷ xs) ys = ap (λ es. e ∷ es) (all-both xs ys)

pub all-map : (es : List Event) → all_of (map Delivered es) ≡ es
all-map [] = refl
all-map (e ∷ es) = ap (λ es. e ∷ es) (all-map es)

pub last-both : (last : Reading) (xs ys : List Event) → last_read_in last (xs ++ ys) ≡ last_read_in (last_read_in last xs) ys
last-both last [] ys = refl
last-both last (x ∷ xs) ys = last-both (last_read last x) xs ys

pub may-both : (last : Reading) (s : State) (xs ys : List Line) → MayBeLeftOut last s xs → MayBeLeftOut (last_read_in last (all_of xs)) (run (delivered xs) s) ys → MayBeLeftOut last s (xs ++ ys)
may-both last s [] ys first second = second
may-both last s (Delivered e ∷ xs) ys first second = (first.0, may-both (last_read last e) (step s e) xs ys first.1 second)
may-both last s (LeftOut e ∷ xs) ys first second = (first.0, may-both (last_read last e) s xs ys first.1 second)

-- of each observation that the launcher was spared, each job which lists the path saw it so last
abbrev pub HadSeen : State → List Line → Type 0
HadSeen s [] = ⊤
HadSeen s (Delivered e ∷ lines) = HadSeen (step s e) lines
HadSeen s (LeftOut (Observation path obs) ∷ lines) = HaveSeen path obs s.jobs × HadSeen s lines
HadSeen s (LeftOut e ∷ lines) = HadSeen s lines

-- the observations of both
seen-left : (s : State) (e : Event) (xs ys : List Line) → (HadSeen s (xs ++ ys) → HadSeen s xs × HadSeen (run (delivered xs) s) ys) →
    HadSeen s (LeftOut e ∷ (xs ++ ys)) → HadSeen s (LeftOut e ∷ xs) × HadSeen (run (delivered xs) s) ys
seen-left s (Observation path obs) xs ys more seen = let both = more seen.1 in ((seen.0, both.0), both.1)
seen-left s Unreadable xs ys more seen = more seen
seen-left s (Load given w f b st) xs ys more seen = more seen
seen-left s (UnloadJob label w st) xs ys more seen = more seen
seen-left s (Set label d st) xs ys more seen = more seen
seen-left s ListJobs xs ys more seen = more seen
seen-left s (PrintJob label) xs ys more seen = more seen
seen-left s ShutDown xs ys more seen = more seen
seen-left s (Tick at) xs ys more seen = more seen
seen-left s (OfJob label item) xs ys more seen = more seen

pub seen-both : (s : State) (xs ys : List Line) → HadSeen s (xs ++ ys) → HadSeen s xs × HadSeen (run (delivered xs) s) ys
seen-both s [] ys seen = (tt, seen)
seen-both s (Delivered e ∷ xs) ys seen = seen-both (step s e) xs ys seen
seen-both s (LeftOut e ∷ xs) ys seen = seen-left s e xs ys (seen-both s xs ys) seen

join-left : (s : State) (e : Event) (xs ys : List Line) → (HadSeen s xs → HadSeen s (xs ++ ys)) → HadSeen s (LeftOut e ∷ xs) → HadSeen s (LeftOut e ∷ (xs ++ ys))
join-left s (Observation path obs) xs ys more seen = (seen.0, more seen.1)
join-left s Unreadable xs ys more seen = more seen
join-left s (Load given w f b st) xs ys more seen = more seen
join-left s (UnloadJob label w st) xs ys more seen = more seen
join-left s (Set label d st) xs ys more seen = more seen
join-left s ListJobs xs ys more seen = more seen
join-left s (PrintJob label) xs ys more seen = more seen
join-left s ShutDown xs ys more seen = more seen
join-left s (Tick at) xs ys more seen = more seen
join-left s (OfJob label item) xs ys more seen = more seen

pub seen-join : (s : State) (xs ys : List Line) → HadSeen s xs → HadSeen (run (delivered xs) s) ys → HadSeen s (xs ++ ys)
seen-join s [] ys first second = second
seen-join s (Delivered e ∷ xs) ys first second = seen-join (step s e) xs ys first second
seen-join s (LeftOut e ∷ xs) ys first second = join-left s e xs ys (λ seen. seen-join s xs ys seen second) first

-- what is delivered is not an observation that was spared
pub seen-handed : (s : State) (es : List Event) → HadSeen s (map Delivered es)
seen-handed s [] = tt
seen-handed s (e ∷ es) = seen-handed (step s e) es

module _ {T : Type 0} where
  pub parts-both : (xs ys : List (Mark T)) (ps qs : List Part) → AreParts (turns_in xs) ps → AreParts (turns_in ys) qs → AreParts (turns_in (xs ++ ys)) (ps ++ qs)
  parts-both [] ys [] qs first second = second
  parts-both [] ys (p ∷ ps) qs first second = absurd first
  parts-both (Spared event ∷ xs) ys ps qs first second = parts-both xs ys ps qs first second
  parts-both (Turned turn ∷ xs) ys [] qs first second = absurd first
  parts-both (Turned turn ∷ xs) ys (p ∷ ps) qs first second = (first.0, parts-both xs ys ps qs first.1 second)

  pub lines-both : (xs ys : List (Mark T)) (ps qs : List Part) → AreParts (turns_in xs) ps → lines_of (xs ++ ys) (ps ++ qs) ≡ lines_of xs ps ++ lines_of ys qs
  lines-both [] ys [] qs first = refl
  lines-both [] ys (p ∷ ps) qs first = absurd first
  lines-both (Spared event ∷ xs) ys ps qs first = ap (λ ls. LeftOut (machine_event event) ∷ ls) (lines-both xs ys ps qs first)
  lines-both (Turned turn ∷ xs) ys [] qs first = absurd first
  lines-both (Turned turn ∷ xs) ys (p ∷ ps) qs first =
      ap (λ ls. map Delivered (map machine_event p.0) ++ ls) (lines-both xs ys ps qs first.1)
      ∙ sym (append_assoc (map Delivered (map machine_event p.0)) (lines_of xs ps) (lines_of ys qs))

  pub memory-both : (xs ys : List (Mark T)) → ReceivedReadings (xs ++ ys) → ReceivedReadings xs × ReceivedReadings ys
  memory-both [] ys had = (tt, had)
  memory-both (Spared event ∷ xs) ys had = memory-both xs ys had
  memory-both (Turned turn ∷ xs) ys had = let both = memory-both xs ys had.1 in ((had.0, both.0), both.1)

-- ---- events that are not clock readings

abbrev pub is_tick : Event → Bool
is_tick (Tick at) = true
is_tick _ = false

taken-reading : (s : State) (e : Event) → is_tick e ≡ false → (taken s e).reading ≡ s.reading
taken-reading s Unreadable apart = refl
taken-reading s (Load (Ok given) w f b st) apart = refl
taken-reading s (Load (Err fault) w f b st) apart = refl
taken-reading s (UnloadJob label w st) apart = refl
taken-reading s (Set label d st) apart = refl
taken-reading s ListJobs apart = refl
taken-reading s (PrintJob label) apart = refl
taken-reading s ShutDown apart = refl
taken-reading s (Tick at) apart = cc
taken-reading s (Observation path obs) apart = refl
taken-reading s (OfJob label item) apart = refl

step-reading : (s : State) (e : Event) → is_tick e ≡ false → (step s e).reading ≡ s.reading
step-reading s e apart = go (refusal_in s e) where
  go : (o : Option Refusal) → (step_by o s e).reading ≡ s.reading
  go (Some refusal) = refl
  go None = taken-reading s e apart

-- such an event changes no reading, and is in time at the last one
plain : (last : Reading) (s : State) (e : Event) → is_tick e ≡ false → (last_read last e ≡ last) × (s.reading ≡ last → IsInTime last s e)
plain last s Unreadable apart = (refl, λ is. is)
plain last s (Load given w f b st) apart = (refl, λ is. is)
plain last s (UnloadJob label w st) apart = (refl, λ is. is)
plain last s (Set label d st) apart = (refl, λ is. is)
plain last s ListJobs apart = (refl, λ is. is)
plain last s (PrintJob label) apart = (refl, λ is. is)
plain last s ShutDown apart = (refl, λ is. is)
plain last s (Tick at) apart = cc
plain last s (Observation path obs) apart = (refl, λ is. is)
plain last s (OfJob label item) apart = (refl, λ is. is)

abbrev pub ArePlain : List Event → Type 0
ArePlain es = AllByRecursion (λ (e : Event). is_tick e ≡ false) es

-- what a list of events is from s on, at this last clock reading
pub record Comes (last : Reading) (s : State) (es : List Event) (next : Reading) : Type 0 where
  pub may : MayBeLeftOut last s (map Delivered es)
  pub reading : (run es s).reading ≡ next
  pub read : last_read_in last es ≡ next

pub plain-list : (es : List Event) → ArePlain es → (s : State) (last : Reading) → s.reading ≡ last → Comes last s es last
plain-list [] all s last is = record { may = tt; reading = is; read = refl }
plain-list (e ∷ es) all s last is =
    let p = plain last s e all.0 in
    let rest = plain-list es all.1 (step s e) last (step-reading s e all.0 ∙ is) in
    record {
      may = (p.1 is, subst (λ (l : Reading). MayBeLeftOut l (step s e) (map Delivered es)) (sym p.0) rest.may);
      reading = rest.reading;
      read = ap (λ l. last_read_in l es) p.0 ∙ rest.read;
    }

-- a clock reading that is accepted, and what follows it
pub tick-list : (at : Reading) (es : List Event) → ArePlain es → (s : State) (last : Reading) → is_clock_refused s.reading at ≡ false → last.up ≤ at.up → last_read last (Tick at) ≡ at → Comes last s (Tick at ∷ es) at
tick-list at es all s last allowed less again =
    let accepted : refusal_in s (Tick at) ≡ None = ap (λ b. refused_if b ClockRefused None) allowed in
    let moved : (step s (Tick at)).reading ≡ at = ap (λ o. (step_by o s (Tick at)).reading) accepted in
    let rest = plain-list es all (step s (Tick at)) at moved in
    record {
      may = (inr less, subst (λ (l : Reading). MayBeLeftOut l (step s (Tick at)) (map Delivered es)) (sym again) rest.may);
      reading = rest.reading;
      read = ap (λ l. last_read_in l es) again ∙ rest.read;
    }

-- ---- clock readings that are taken

pub read-self : (last : Reading) → last_read last (Tick last) ≡ last
read-self last = go (is_clock_refused last last) where
  go : (b : Bool) → (if b then last else last) ≡ last
  go true = refl
  go false = refl

pub read-again : (last at : Reading) → last_read last (Tick (last_read last (Tick at))) ≡ last_read last (Tick at)
read-again last at = go (is_clock_refused last at) refl where
  stays : (b : Bool) → (if b then last else last) ≡ last
  stays true = refl
  stays false = refl

  go : (b : Bool) → is_clock_refused last at ≡ b → (if is_clock_refused last (if b then last else at) then last else (if b then last else at)) ≡ (if b then last else at)
  go true is = stays (is_clock_refused last last)
  go false is = ap (λ c. if c then last else at) is

-- a clock reading that is accepted after another, by its three tests
record NotRefused (before at : Reading) : Type 0 where
  up : nat_lt at.up before.up ≡ false
  most_up : nat_lt MAX_UP at.up ≡ false
  most_wall : nat_lt MAX_WALL at.wall ≡ false

refused-parts : (before at : Reading) → is_clock_refused before at ≡ false → NotRefused before at
refused-parts before at is =
    let outer = or-false (nat_lt at.up before.up || nat_lt MAX_UP at.up) (nat_lt MAX_WALL at.wall) is in
    let inner = or-false (nat_lt at.up before.up) (nat_lt MAX_UP at.up) outer.0 in
    record { up = inner.0; most_up = inner.1; most_wall = outer.1 }

pub not-refused : (before at : Reading) → nat_lt at.up before.up ≡ false → nat_lt MAX_UP at.up ≡ false → nat_lt MAX_WALL at.wall ≡ false → is_clock_refused before at ≡ false
not-refused before at up most_up most_wall = rw (up, most_up, most_wall) refl

later-allowed : (s last at : Reading) → is_clock_refused s last ≡ false → is_clock_refused last at ≡ false → is_clock_refused s at ≡ false
later-allowed s last at first second =
    let old = (refused-parts s last first).up in
    let parts = refused-parts last at second in
    let new = parts.up in
    not-refused s at (grind (arith, nat_tests, old, new)) parts.most_up parts.most_wall

pub allowed-on : (s last at : Reading) → is_clock_refused s last ≡ false → is_clock_refused s (last_read last (Tick at)) ≡ false
allowed-on s last at allowed = go (is_clock_refused last at) refl where
  go : (b : Bool) → is_clock_refused last at ≡ b → is_clock_refused s (if b then last else at) ≡ false
  go true is = allowed
  go false is = later-allowed s last at allowed is

pub not-before : (last at : Reading) → last.up ≤ (last_read last (Tick at)).up
not-before last at = go (is_clock_refused last at) refl where
  go : (b : Bool) → is_clock_refused last at ≡ b → last.up ≤ (if b then last else at).up
  go true is = omega arith
  go false is = let new = (refused-parts last at is).up in grind (arith, nat_tests, new)

pub own-again : (s at : Reading) → is_clock_refused s at ≡ false → is_clock_refused at at ≡ false
own-again s at allowed =
    let parts = refused-parts s at allowed in
    not-refused at at (grind (arith, nat_tests)) parts.most_up parts.most_wall
