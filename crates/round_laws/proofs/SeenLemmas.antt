-- What each job saw last of a path: that holds until another check of the path, or a load that is accepted.
use Rattle.std.proofs.Common.{◌≡◌, ◌≢◌, inl, inr, ℕ, ◌+◌, Bool, true, false, not, ◌&&◌, ◌||◌, cond, List, [], ◌∷◌, ◌++◌, map, Option, Some, None, is_some, refl, sym, ap, subst, ◌∙◌, true≢false, arith}
use Rattle.std.specs.Prelude.{bytes_eq, is_none, unwrap_or, if◌then◌else◌}
use Rattle.std.specs.Option.{option_map}
use Rattle.std.specs.List.{list_any}
use Rattle.std.proofs.lemmas.List.{append-nil}
use Rattle.std.proofs.lemmas.List.Folds.{list_any-append}
use Rattle.std.proofs.lemmas.Slice.Eq.{bytes_eq-Decides}
use Rattle.history_model.specs.declared.Obs.{Obs}
use Rattle.history_model.specs.declared.Refusal.{Refusal}
use Rattle.history_model.specs.declared.event.Event as journal
use Rattle.history_model.specs.declared.event.Event.TheVariants as journaled
use Rattle.history_model.specs.Demands.{is_same_path}
use Rattle.history_model.specs.Machine.{State, Event, Observation}
use Rattle.history_model.specs.Acceptance.{refusal_in}
use Rattle.history_model.specs.Step.{Outcome, outcome_by, outcome, outcomes, step, run}
use Rattle.history_model.specs.RunCounts.{is_taken_as, count_taken}
use Rattle.history_model.specs.LeftOut.{Line, Delivered, LeftOut, delivered, HaveSeen, is_load, is_look_at}
use Rattle.history_model.proofs.ObservationLemmas.{seen-still}
use Rattle.ctl_protocol.specs.declared.request.Request.{Request}
use Rattle.ctl_protocol.specs.declared.request.Request.TheVariants as requests
use Rattle.ctl_protocol.specs.declared.request.Outside.{Outside}
use Rattle.ctl_protocol.specs.Requests.{event_with}
use Rattle.loaded_jobs.specs.Tables.{Name}
use Rattle.job_table.specs.Taking.{machine_event}
use Rattle.outside.specs.declared.pending_answer.PendingAnswer.{PendingAnswer}
use Rattle.outside.specs.Orders.{answers_in}
use Rattle.launcher.specs.Accepting as accepting
use Rattle.launcher.specs.Inputs.{Incoming, asked as asks_for, event_of, happened}
use Rattle.launcher.specs.LoadTurns.{is_memory}
use Rattle.launcher_laws.specs.TurnRuns.{Turn, Part, IsPartOf, answer_told, events_in, outcomes_in}
use Rattle.live_loop.specs.Looks.{Known, IsNoted}
use Rattle.round_laws.proofs.QuietLemmas.{HadSeen, run-both}

no_sum : (n : ℕ) → 1 + n ≡ 0 → ⊥
no_sum n e = omega (arith, e)

no_more : (n : ℕ) → 0 + n ≡ 0 → n ≡ 0
no_more n e = omega (arith, e)

as_much : (n : ℕ) → n ≡ 0 → 0 + n ≡ 0
as_much n e = omega (arith, e)

-- ---- lists of events

looks-both : (path : List ℕ) (xs ys : List Event) → list_any (is_look_at path) xs ≡ false → list_any (is_look_at path) ys ≡ false → list_any (is_look_at path) (xs ++ ys) ≡ false
looks-both path xs ys first second = list_any-append (is_look_at path) xs ys ∙ (λ i. first i || second i)

loads-both : (xs ys : List Event) (s : State) → count_taken is_load xs s ≡ 0 → count_taken is_load ys (run xs s) ≡ 0 → count_taken is_load (xs ++ ys) s ≡ 0
loads-both [] ys s first second = second
loads-both (x ∷ xs) ys s first second = go (is_taken_as is_load s x) (λ none. loads-both xs ys (step s x) none second) first where
  go : (b : Bool) → (count_taken is_load xs (step s x) ≡ 0 → count_taken is_load (xs ++ ys) (step s x) ≡ 0) → (cond b 1 0 + count_taken is_load xs (step s x)) ≡ 0 → (cond b 1 0 + count_taken is_load (xs ++ ys) (step s x)) ≡ 0
  go true more none = absurd (no_sum (count_taken is_load xs (step s x)) none)
  go false more none = as_much (count_taken is_load (xs ++ ys) (step s x)) (more (no_more (count_taken is_load xs (step s x)) none))

count-step : (s : State) (e : Event) (es : List Event) → is_taken_as is_load s e ≡ false → count_taken is_load es (step s e) ≡ 0 → count_taken is_load (e ∷ es) s ≡ 0
count-step s e es apart more = (λ i. cond (apart i) 1 0 + more i)

-- an event that is not a load, or is refused, is not an accepted load
no-load : (s : State) (e : Event) (r : Option Refusal) (b : Bool) → refusal_in s e ≡ r → is_load e ≡ b → (b && is_none r) ≡ false → is_taken_as is_load s e ≡ false
no-load s e r b is load none = (λ i. not (is_some (is i)) && load i) ∙ go r b none where
  go : (r : Option Refusal) (b : Bool) → (b && is_none r) ≡ false → (not (is_some r) && b) ≡ false
  go None true none = cc
  go None false none = refl
  go (Some x) b none = refl

-- ---- a path that was seen

-- this state came after a check of the path that saw this, and after that check came no other of it, and no load that was accepted
pub record WasSeen (path : List ℕ) (obs : Obs) (s : State) : Type 0 where
  pub before : State
  pub after : List Event
  pub is : s ≡ run after (step before (Observation path obs))
  pub no_look : list_any (is_look_at path) after ≡ false
  pub no_load : count_taken is_load after (step before (Observation path obs)) ≡ 0

pub have-seen : (path : List ℕ) (obs : Obs) (s : State) → WasSeen path obs s → HaveSeen path obs s.jobs
have-seen path obs s was = subst (λ (t : State). HaveSeen path obs t.jobs) (sym was.is) (seen-still path obs was.before was.after was.no_look was.no_load)

looked : (path : List ℕ) (obs : Obs) (s : State) → WasSeen path obs (step s (Observation path obs))
looked path obs s = record { before = s; after = []; is = refl; no_look = refl; no_load = refl }

later : (path : List ℕ) (obs : Obs) (s : State) (es : List Event) → WasSeen path obs s → list_any (is_look_at path) es ≡ false → count_taken is_load es s ≡ 0 → WasSeen path obs (run es s)
later path obs s es was no_look no_load = record {
  before = was.before;
  after = was.after ++ es;
  is = ap (run es) was.is ∙ sym (run-both was.after es (step was.before (Observation path obs)));
  no_look = looks-both path was.after es was.no_look no_look;
  no_load = loads-both was.after es (step was.before (Observation path obs)) was.no_load (subst (λ (t : State). count_taken is_load es t ≡ 0) was.is no_load);
}

-- ---- what was delivered last of each path

-- what the path checks remember, and whether a load was accepted since they took one into account
pub record Mind : Type 0 where
  pub known : Known
  pub loaded : Bool

-- what is remembered was seen so, unless a load was accepted
abbrev pub Knows : State → Mind → Type 0
Knows s m = m.loaded ≡ false → (path : List ℕ) (obs : Obs) → m.known path ≡ Some obs → WasSeen path obs s

-- ---- the events of turns

-- what comes is not an observation, and no load of a journal
abbrev pub is_plain : Incoming → Bool
is_plain (asks_for request) = true
is_plain (happened (journaled.Clock at)) = true
is_plain (happened (journaled.OfJob job item)) = true
is_plain _ = false

abbrev pub IsPlain : Option Incoming → Type 0
IsPlain incoming = (x : Incoming) → incoming ≡ Some x → is_plain x ≡ true

abbrev is_plain_in : Option Incoming → Bool
is_plain_in o = is_plain (unwrap_or o (asks_for requests.List))

pub plain : (incoming : Option Incoming) → is_plain_in incoming ≡ true → IsPlain incoming
plain incoming is_so = λ x is. ap is_plain_in (sym is) ∙ is_so

pub plain-asked : (o : Option Request) → IsPlain (option_map asks_for o)
plain-asked None = plain None refl
plain-asked (Some request) = plain (Some (asks_for request)) refl

pub plain-if : (b : Bool) (x : Incoming) → is_plain x ≡ true → IsPlain (if b then Some x else None)
plain-if true x is_so = plain (Some x) is_so
plain-if false x is_so = plain None refl

-- what happens is not a request, and so no load that is accepted
pub happened-if : (b : Bool) (event : journal.Event) (refusal : Option Refusal) → accepting.is_accepted_load (if b then Some (happened event) else None) refusal ≡ false
happened-if true event refusal = refl
happened-if false event refusal = refl

look-asked : (path : List ℕ) (out : Outside) (request : Request) → is_look_at path (machine_event (event_with out request)) ≡ false
look-asked path out (requests.Load load) = refl
look-asked path out (requests.Unload job w) = refl
look-asked path out (requests.Set job d) = refl
look-asked path out (requests.Ask job ask) = refl
look-asked path out requests.List = refl
look-asked path out (requests.Print job) = refl
look-asked path out requests.Shutdown = refl

plain-look : (path : List ℕ) (out : Outside) (x : Incoming) → is_plain x ≡ true → is_look_at path (machine_event (event_of out x)) ≡ false
plain-look path out (asks_for request) is_so = look-asked path out request
plain-look path out (happened (journaled.Load def w f b st)) is_so = cc
plain-look path out (happened (journaled.Unload job w st)) is_so = cc
plain-look path out (happened (journaled.Set job d st)) is_so = cc
plain-look path out (happened journaled.List) is_so = cc
plain-look path out (happened (journaled.Print job)) is_so = cc
plain-look path out (happened journaled.Shutdown) is_so = cc
plain-look path out (happened (journaled.Clock at)) is_so = refl
plain-look path out (happened (journaled.Saw other obs)) is_so = cc
plain-look path out (happened (journaled.OfJob job item)) is_so = refl

load-asked : (out : Outside) (request : Request) → is_load (machine_event (event_with out request)) ≡ accepting.is_load (Some (asks_for request))
load-asked out (requests.Load load) = refl
load-asked out (requests.Unload job w) = refl
load-asked out (requests.Set job d) = refl
load-asked out (requests.Ask job ask) = refl
load-asked out requests.List = refl
load-asked out (requests.Print job) = refl
load-asked out requests.Shutdown = refl

plain-load : (out : Outside) (x : Incoming) → is_plain x ≡ true → is_load (machine_event (event_of out x)) ≡ accepting.is_load (Some x)
plain-load out (asks_for request) is_so = load-asked out request
plain-load out (happened (journaled.Load def w f b st)) is_so = cc
plain-load out (happened (journaled.Unload job w st)) is_so = cc
plain-load out (happened (journaled.Set job d st)) is_so = cc
plain-load out (happened journaled.List) is_so = cc
plain-load out (happened (journaled.Print job)) is_so = cc
plain-load out (happened journaled.Shutdown) is_so = cc
plain-load out (happened (journaled.Clock at)) is_so = refl
plain-load out (happened (journaled.Saw other obs)) is_so = cc
plain-load out (happened (journaled.OfJob job item)) is_so = refl

abbrev answers : List Name → List PendingAnswer → List Event
answers names told = map machine_event (map (answer_told names) told)

answers-look : (path : List ℕ) (names : List Name) (told : List PendingAnswer) → list_any (is_look_at path) (answers names told) ≡ false
answers-look path names [] = refl
answers-look path names (p ∷ told) = answers-look path names told

answers-load : (names : List Name) (told : List PendingAnswer) (s : State) → count_taken is_load (answers names told) s ≡ 0
answers-load names [] s = refl
answers-load names (p ∷ told) s =
    let e = machine_event (answer_told names p) in
    count-step s e (answers names told) (no-load s e (refusal_in s e) false refl refl refl) (answers-load names told (step s e))

outcome-refusal : (s : State) (e : Event) → (outcome s e).refusal ≡ refusal_in s e
outcome-refusal s e = go (refusal_in s e) where
  go : (o : Option Refusal) → (outcome_by o s e).refusal ≡ o
  go None = refl
  go (Some refusal) = refl

-- the refusal of the first of these outcomes
abbrev first_refusal : List Outcome → Option Refusal
first_refusal [] = None
first_refusal (out ∷ outs) = out.refusal

-- the events of a turn of an observation
record IsLook (path : List ℕ) (obs : Obs) (es : List Event) : Type 0 where
  names : List Name
  told : List PendingAnswer
  is : es ≡ Observation path obs ∷ answers names told

module _ {T : Type 0} where
  -- a turn of what is not an observation, and no load that was accepted
  pub seen-on : (turn : Turn T) (p : Part) (s : State) → IsPartOf turn p → outcomes_in (p ∷ []) ≡ outcomes (map machine_event (events_in (p ∷ []))) s → IsPlain turn.incoming →
      accepting.is_accepted_load turn.incoming turn.refusal ≡ false → (path : List ℕ) (obs : Obs) → WasSeen path obs s → WasSeen path obs (run (map machine_event p.0) s)
  seen-on turn p s (inl none) all is_plain no_load path obs was = subst (λ (es : List journal.Event). WasSeen path obs (run (map machine_event es) s)) (sym none.1) was
  seen-on turn p s (inr o) all is_plain no_load path obs was =
      let told = answers_in o.entries in
      let rest = answers o.names told in
      let first = machine_event (event_of o.outside o.incoming) in
      let is_so = is_plain o.incoming o.came in
      let es : map machine_event p.0 ≡ first ∷ rest = ap (map machine_event) (o.first ∙ ap (λ more. event_of o.outside o.incoming ∷ more) o.told) in
      let own : map machine_event (p.0 ++ []) ≡ first ∷ rest = ap (map machine_event) (append-nil p.0) ∙ es in
      let received : o.reply.refusal ≡ refusal_in s first =
      ap (λ outs. first_refusal (outs ++ [])) (sym o.all) ∙ ap first_refusal all ∙ ap (λ l. first_refusal (outcomes l s)) own ∙ outcome-refusal s first in
      let apart : is_taken_as is_load s first ≡ false =
      no-load s first turn.refusal (accepting.is_load (Some o.incoming)) (sym received ∙ o.refusal) (plain-load o.outside o.incoming is_so) (ap (λ x. accepting.is_accepted_load x turn.refusal) (sym o.came) ∙ no_load) in
      subst (λ (l : List Event). WasSeen path obs (run l s)) (sym es)
      (later path obs s (first ∷ rest) was (λ i. plain-look path o.outside o.incoming is_so i || answers-look path o.names told i) (count-step s first rest apart (answers-load o.names told (step s first))))

  look-of : (turn : Turn T) (p : Part) (path : List ℕ) (obs : Obs) → IsPartOf turn p → turn.incoming ≡ Some (happened (journaled.Saw path obs)) → is_memory turn.refusal ≢ true → IsLook path obs (map machine_event p.0)
  look-of turn p path obs (inl none) is had = elim none.0 [
    | inl memory ↦ absurd (had memory)
    | inr apart ↦ let clash : None ≡ Some (happened (journaled.Saw path obs)) = sym apart.0 ∙ is in cc
  ]
  look-of turn p path obs (inr o) is had =
      let incoming : o.incoming ≡ happened (journaled.Saw path obs) = ap (λ (x : Option Incoming). unwrap_or x (happened (journaled.Saw path obs))) (sym o.came ∙ is) in
      record {
        names = o.names;
        told = answers_in o.entries;
        is = ap (map machine_event) (o.first ∙ ap (λ more. event_of o.outside o.incoming ∷ more) o.told)
            ∙ ap (λ x. machine_event (event_of o.outside x) ∷ answers o.names (answers_in o.entries)) incoming;
      }

  pub observation-on : (turn : Turn T) (p : Part) (s : State) (path : List ℕ) (obs : Obs) → IsPartOf turn p → turn.incoming ≡ Some (happened (journaled.Saw path obs)) → is_memory turn.refusal ≢ true →
      (known known' : Known) → IsNoted path obs known known' → (loaded : Bool) → Knows s (record { known = known; loaded = loaded }) → Knows (run (map machine_event p.0) s) (record { known = known'; loaded = loaded })
  observation-on turn p s path obs is_part is had known known' noted loaded knows =
      let l = look-of turn p path obs is_part is had in
      λ none q o at. subst (λ (es : List Event). WasSeen q o (run es s)) (sym l.is) (go l.names l.told none q o at (is_same_path q path) refl) where
        apart : (q : List ℕ) → is_same_path q path ≡ false → (b : Bool) → bytes_eq path q ≡ b → b ≡ false
        apart q other true e = let clash = sym ((bytes_eq-Decides q path).1 (sym ((bytes_eq-Decides path q).0 e))) ∙ other in cc
        apart q other false e = refl

        same : (q : List ℕ) (o : Obs) → q ≡ path → known' q ≡ Some o → Some o ≡ Some obs
        same q o e at = elim noted.here [
          | inl some ↦ sym at ∙ ap known' e ∙ some
          | inr none ↦ let clash : Some o ≡ None = sym at ∙ ap known' e ∙ none in cc
        ]

        go : (names : List Name) (told : List PendingAnswer) → loaded ≡ false → (q : List ℕ) (o : Obs) → known' q ≡ Some o → (b : Bool) → is_same_path q path ≡ b → WasSeen q o (run (answers names told) (step s (Observation path obs)))
        go names told none q o at true e =
            let here = (bytes_eq-Decides q path).0 e in
            let seen : o ≡ obs = ap (λ x. unwrap_or x obs) (same q o here at) in
            subst (λ r. WasSeen r o (run (answers names told) (step s (Observation path obs)))) (sym here)
            (subst (λ x. WasSeen path x (run (answers names told) (step s (Observation path obs)))) (sym seen)
            (later path obs (step s (Observation path obs)) (answers names told) (looked path obs s) (answers-look path names told) (answers-load names told (step s (Observation path obs)))))
        go names told none q o at false e =
            let was = knows none q o (sym (noted.others q (apart q e (bytes_eq path q) refl)) ∙ at) in
            later q o s (Observation path obs ∷ answers names told) was (λ i. e i || answers-look q names told i)
            (count-step s (Observation path obs) (answers names told) (no-load s (Observation path obs) None false refl refl refl) (answers-load names told (step s (Observation path obs))))
