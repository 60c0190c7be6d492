-- What one turn leaves of what the path checks remember; and which events are not clock readings.
use Rattle.std.specs.Prelude.{unwrap_or, if◌then◌else◌}
use Rattle.history_model.specs.declared.Reading.{Reading}
use Rattle.history_model.specs.Labels.{is_label}
use Rattle.history_model.specs.Machine.{State, Event, Tick}
use Rattle.history_model.specs.Step.{run, outcomes}
use Rattle.loaded_jobs.specs.Tables.{Name}
use Rattle.job_table.specs.Taking.{machine_event}
use Rattle.outside.specs.declared.pending_answer.PendingAnswer.{PendingAnswer}
use Rattle.outside.specs.Orders.{answers_in}
use Rattle.launcher.specs.LoadTurns.{is_memory}
use Rattle.std.proofs.Common.{◌≡◌, ◌≢◌, inl, inr, ℕ, Bool, true, false, ◌||◌, List, [], ◌∷◌, Option, Some, None, map, refl, sym, ap, subst, ◌∙◌}
use Rattle.std.specs.Option.{option_map}
use Rattle.history_model.specs.declared.Obs.{Obs}
use Rattle.history_model.specs.declared.Refusal.{Refusal}
use Rattle.history_model.proofs.BooleanLemmas.{or-false}
use Rattle.history_model.specs.declared.event.Event as journal
use Rattle.history_model.specs.declared.event.Event.TheVariants as journaled
use Rattle.history_model.specs.declared.event.JobItem.{JobItem}
use Rattle.ctl_protocol.specs.declared.request.Request.{Request}
use Rattle.ctl_protocol.specs.declared.request.Request.TheVariants as requests
use Rattle.ctl_protocol.specs.declared.request.Outside.{Outside}
use Rattle.ctl_protocol.specs.Requests.{event_with}
use Rattle.launcher.specs.Accepting.{is_accepted_load}
use Rattle.launcher.specs.Inputs.{Incoming, asked as asks_for, event_if_label, event_of, happened}
use Rattle.launcher_laws.specs.TurnRuns.{Turn, Part, IsPartOf, answer_told, events_in, outcomes_in}
use Rattle.live_loop.specs.Looks as looks
use Rattle.round_laws.proofs.SeenLemmas.{Mind, Knows, IsPlain, plain, plain-if, happened-if, seen-on, observation-on}
use Rattle.round_laws.proofs.QuietLemmas.{is_tick, ArePlain}

-- what came is a clock reading
abbrev pub is_clock : Incoming → Bool
is_clock (happened (journaled.Clock at)) = true
is_clock _ = false

abbrev pub NoClock : Option Incoming → Type 0
NoClock incoming = (x : Incoming) → incoming ≡ Some x → is_clock x ≡ false

abbrev pub is_clock_in : Option Incoming → Bool
is_clock_in o = is_clock (unwrap_or o (happened journaled.List))

pub no-clock : (incoming : Option Incoming) → is_clock_in incoming ≡ false → NoClock incoming
no-clock incoming apart = λ x is. ap is_clock_in (sym is) ∙ apart

no-clock-if : (b : Bool) (x : Incoming) → is_clock x ≡ false → NoClock (if b then Some x else None)
no-clock-if true x apart = no-clock (Some x) apart
no-clock-if false x apart = no-clock None refl

pub no-clock-asked : (o : Option Request) → NoClock (option_map asks_for o)
no-clock-asked None = no-clock None refl
no-clock-asked (Some request) = no-clock (Some (asks_for request)) refl

no-tick-asked : (out : Outside) (request : Request) → is_tick (machine_event (event_with out request)) ≡ false
no-tick-asked out (requests.Load load) = refl
no-tick-asked out (requests.Unload job w) = refl
no-tick-asked out (requests.Set job d) = refl
no-tick-asked out (requests.Ask job ask) = refl
no-tick-asked out requests.List = refl
no-tick-asked out (requests.Print job) = refl
no-tick-asked out requests.Shutdown = refl

plain-answered : (out : Outside) (x : Incoming) → is_clock x ≡ false → is_tick (machine_event (event_of out x)) ≡ false
plain-answered out (asks_for request) apart = no-tick-asked out request
plain-answered out (happened (journaled.Load def w f b st)) apart = refl
plain-answered out (happened (journaled.Unload job w st)) apart = refl
plain-answered out (happened (journaled.Set job d st)) apart = refl
plain-answered out (happened journaled.List) apart = refl
plain-answered out (happened (journaled.Print job)) apart = refl
plain-answered out (happened journaled.Shutdown) apart = refl
plain-answered out (happened (journaled.Clock at)) apart = cc
plain-answered out (happened (journaled.Saw path obs)) apart = refl
plain-answered out (happened (journaled.OfJob job item)) apart = refl

answers-plain : (names : List Name) (ps : List PendingAnswer) → ArePlain (map machine_event (map (answer_told names) ps))
answers-plain names [] = tt
answers-plain names (p ∷ ps) = (refl, answers-plain names ps)

-- the events of a clock reading that was heard: the clock reading, and what it caused
pub record IsTicked (at : Reading) (es : List Event) : Type 0 where
  pub rest : List Event
  pub is : es ≡ Tick at ∷ rest
  pub plain : ArePlain rest

module _ {T : Type 0} where
  pub plain-part : (turn : Turn T) (p : Part) → NoClock turn.incoming → IsPartOf turn p → ArePlain (map machine_event p.0)
  plain-part turn p apart (inl none) = subst (λ (es : List journal.Event). ArePlain (map machine_event es)) (sym none.1) tt
  plain-part turn p apart (inr o) =
      subst (λ (es : List journal.Event). ArePlain (map machine_event es)) (sym (o.first ∙ ap (λ more. event_of o.outside o.incoming ∷ more) o.told))
      (plain-answered o.outside o.incoming (apart o.incoming o.came), answers-plain o.names (answers_in o.entries))

  pub ticked : (at : Reading) (turn : Turn T) (p : Part) → turn.incoming ≡ Some (happened (journaled.Clock at)) → is_memory turn.refusal ≡ false → IsPartOf turn p → IsTicked at (map machine_event p.0)
  ticked at turn p is had (inl none) = elim none.0 [
    | inl memory ↦ let clash : true ≡ false = sym memory ∙ had in cc
    | inr apart ↦ let clash : None ≡ Some (happened (journaled.Clock at)) = sym apart.0 ∙ is in cc
  ]
  ticked at turn p is had (inr o) =
      let incoming : o.incoming ≡ happened (journaled.Clock at) = ap (λ (x : Option Incoming). unwrap_or x (happened (journaled.Clock at))) (sym o.came ∙ is) in
      record {
        rest = map machine_event (map (answer_told o.names) (answers_in o.entries));
        is = ap (map machine_event) (o.first ∙ ap (λ more. event_of o.outside o.incoming ∷ more) o.told)
            ∙ ap (λ x. machine_event (event_of o.outside x) ∷ map machine_event (map (answer_told o.names) (answers_in o.entries))) incoming;
        plain = answers-plain o.names (answers_in o.entries);
      }

-- a load that was accepted on neither side, or on both
pub as_loaded : (known : looks.Known) (a b : Bool) → b ≡ a → (s : State) → Knows s (record { known = known; loaded = a }) → Knows s (record { known = known; loaded = b })
as_loaded known a b is s knows = λ none. knows (sym is ∙ none)

-- a turn of this, answered so, leaves what is remembered
abbrev pub Steps : (T : Type 0) → Option Incoming → Option Refusal → Mind → Mind → Type 0
Steps T event refusal m m' = (turn : Turn T) → turn.incoming ≡ event → turn.refusal ≡ refusal → (p : Part) → IsPartOf turn p → (s : State) →
    outcomes_in (p ∷ []) ≡ outcomes (map machine_event (events_in (p ∷ []))) s → Knows s m → Knows (run (map machine_event p.0) s) m'

-- of what is not an observation: a load that is accepted is noted
pub heeds : (T : Type 0) (event : Option Incoming) (refusal : Option Refusal) → IsPlain event → (known : looks.Known) (loaded : Bool) →
    Steps T event refusal (record { known = known; loaded = loaded }) (record { known = known; loaded = loaded || is_accepted_load event refusal })
heeds T event refusal is_plain known loaded = λ turn is was p is_part s all knows none path obs at.
    let both = or-false loaded (is_accepted_load event refusal) none in
    seen-on turn p s is_part all (λ x came. is_plain x (sym is ∙ came)) ((λ i. is_accepted_load (is i) (was i)) ∙ both.1) path obs (knows both.0 path obs at)

-- and of what is not a load either
pub leaves : (T : Type 0) (event : Option Incoming) (refusal : Option Refusal) → IsPlain event → is_accepted_load event refusal ≡ false → (m : Mind) → Steps T event refusal m m
leaves T event refusal is_plain no_load m = λ turn is was p is_part s all knows none path obs at.
    seen-on turn p s is_part all (λ x came. is_plain x (sym is ∙ came)) ((λ i. is_accepted_load (is i) (was i)) ∙ no_load) path obs (knows none path obs at)

-- of an observation
pub notes : (T : Type 0) (path : List ℕ) (obs : Obs) (refusal : Option Refusal) → is_memory refusal ≢ true → (known known' : looks.Known) → looks.IsNoted path obs known known' → (loaded : Bool) →
    Steps T (Some (happened (journaled.Saw path obs))) refusal (record { known = known; loaded = loaded }) (record { known = known'; loaded = loaded })
notes T path obs refusal had known known' noted loaded = λ turn is was p is_part s all knows.
    observation-on turn p s path obs is_part is (subst (λ (r : Option Refusal). is_memory r ≢ true) (sym was) had) known known' noted loaded knows

-- what happens to a job: no reading, no observation, no load
pub record IsOfJob (event : Option Incoming) : Type 0 where
  pub no_reading : NoClock event
  pub no_observation : IsPlain event
  pub no_load : (refusal : Option Refusal) → is_accepted_load event refusal ≡ false

pub of_job : (label : List ℕ) (item : JobItem) → IsOfJob (event_if_label label (journaled.OfJob label item))
of_job label item = record {
  no_reading = no-clock-if (is_label label) (happened (journaled.OfJob label item)) refl;
  no_observation = plain-if (is_label label) (happened (journaled.OfJob label item)) refl;
  no_load = λ refusal. happened-if (is_label label) (journaled.OfJob label item) refusal;
}

-- no load was accepted since the path checks took one into account
abbrev pub heeded : looks.Known → Mind
heeded known = record { known = known; loaded = false }

-- After a load nothing is remembered.
pub forgot : (loaded has_loaded : Bool) (known begun : looks.Known) → loaded ≡ has_loaded → looks.IsKept (looks.known_after loaded known) begun → (s : State) → Knows s (record { known = known; loaded = has_loaded }) → Knows s (heeded begun)
forgot true has_loaded known begun is kept s knows = λ none path obs there. let clash : None ≡ Some obs = sym (kept path) ∙ there in cc
forgot false has_loaded known begun is kept s knows = λ none path obs there. knows (sym is) path obs (sym (kept path) ∙ there)
