-- One turn of the launcher, and the machine: a clock reading, and what is delivered after it.
use Rattle.history_model.specs.declared.Reading.{Reading}
use Rattle.history_model.specs.News.{may_change}
use Rattle.history_model.specs.Refusals.{is_clock_refused}
use Rattle.history_model.specs.Machine.{State, Event, Tick}
use Rattle.history_model.specs.Step.{run, outcomes}
use Rattle.history_model.specs.LeftOut.{all_of, delivered, last_read, last_read_in}
use Rattle.loaded_jobs.specs.StandsFor.{KeepsState}
use Rattle.job_table.specs.Taking.{machine_event}
use Rattle.launcher.specs.HostTurns.{IsLed}
use Rattle.launcher.specs.LoadTurns.{is_memory}
use Rattle.launcher_laws.proofs.RunsLemmas.{went}
use Rattle.std.proofs.Common.{◌≡◌, inl, inr, ℕ, Bool, true, false, List, [], ◌∷◌, Option, Some, map, refl, sym, ap, subst, ◌∙◌, ◌≤◌, arith}
use Rattle.history_model.specs.declared.Refusal.{Refusal}
use Rattle.history_model.specs.declared.event.Event.TheVariants as journaled
use Rattle.history_model.specs.declared.event.Setting.{Setting}
use Rattle.child_edge.specs.Calls.{ToldCall}
use Rattle.outside.specs.Stores.{Stamp, StoreCall}
use Rattle.launcher.specs.Inputs.{Incoming, happened}
use Rattle.launcher_laws.specs.TurnRuns.{Turn, Part, AreParts, events_in, outcomes_in}
use Rattle.live_loop.specs.Looks as looks
use Rattle.jobd.specs.declared.round_launcher.RoundLauncher.{RoundLauncher}
use Rattle.jobd.specs.Launches.{Received, ReceivedReading, Reads, ReadsIf, ReadsClock, ReceivedIf, DeliversNews, Begins, Gives, Tells}
use Rattle.round_laws.specs.Marks.{Mark, Turned, snapshot, turned}
use Rattle.round_laws.specs.Receiving.{lines_of, ReceivedReadings}
use Rattle.round_laws.proofs.TurnsLemmas.{one_turn}
use Rattle.round_laws.proofs.SeenLemmas.{Mind, plain}
use Rattle.round_laws.proofs.QuietLemmas.{memory-both, Comes, plain-list, tick-list, read-self, read-again, allowed-on, not-before, own-again}
use Rattle.round_laws.specs.RoundMarks.{of_reading, of_reads, of_missed, of_news, of_begins, of_gives, of_tells}
use Rattle.round_laws.proofs.StepsLemmas.{NoClock, as_loaded, Steps, leaves, IsOfJob, plain-part, ticked}
use Rattle.round_laws.proofs.SpansLemmas.{Follows, Spans, SpansOwn, KeepsTo, mind, Keeps, spans-both, then_, reminded, moved, same_to, same, spans-of}

module _ {T E W : Type 0} (calls : E → Option (List ToldCall)) (stores : T → Option (List StoreCall))
    (holds : T → List Setting → Type 0) (stamped : T → List Stamp → Type 0) where
  plain_turn : (event : Option Incoming) → NoClock event → (refusal : Option Refusal) (words : List ℕ) (old new : RoundLauncher T E W) →
      Received calls stores holds stamped event refusal words old.host new.host → new.at ≡ old.at → (m m' : Mind) → Steps T event refusal m m' →
      (s : State) (last : Reading) → Follows s last old → s.reading ≡ last →
      Spans s last m (turned calls stores event refusal words old.host new.host ∷ []) m' new
  plain_turn event apart refusal words old new received at m m' steps s last f own =
      let turn : Turn T = record { incoming = event; refusal = refusal; words = words; before = snapshot calls stores old.host; after = snapshot calls stores new.host } in
      let w = went holds s (snapshot calls stores old.host) (turn ∷ []) (snapshot calls stores new.host) f.led f.keeps (one_turn calls stores holds stamped event refusal words old new received).are in
      go turn refl refl w.parts w.are_parts w.all w.led w.kept where
        go : (turn : Turn T) → turn.incoming ≡ event → turn.refusal ≡ refusal → (ps : List Part) → AreParts (turn ∷ []) ps → outcomes_in ps ≡ outcomes (map machine_event (events_in ps)) s → IsLed (run (map machine_event (events_in ps)) s) →
            KeepsState new.host.table (run (map machine_event (events_in ps)) s) → Spans s last m (Turned turn ∷ []) m' new
        go turn is was [] are all led kept = absurd are
        go turn is was (p ∷ q ∷ ps) are all led kept = absurd are.1
        go turn is was (p ∷ []) are all led kept =
            let c = plain-list (map machine_event p.0) (plain-part turn p (subst NoClock (sym is) apart) are.0) s last own in
            (spans-of turn p are.0 s m m' (steps turn is was p are.0 s all) last last new c all led kept (at ∙ f.at) (own-again s.reading last f.allowed)).spans

  read_turn : (at : Reading) (refusal : Option Refusal) (words : List ℕ) (old new : RoundLauncher T E W) →
      Received calls stores holds stamped (Some (happened (journaled.Clock at))) refusal words old.host new.host → new.at ≡ at → is_memory refusal ≡ false → (m : Mind) (s : State) (last : Reading) →
      KeepsState old.host.table s → IsLed s → is_clock_refused s.reading at ≡ false → last.up ≤ at.up → last_read last (Tick at) ≡ at →
      SpansOwn s last m (turned calls stores (Some (happened (journaled.Clock at))) refusal words old.host new.host ∷ []) m new
  read_turn at refusal words old new received is_at had m s last keeps led allowed less again =
      let turn : Turn T = record { incoming = Some (happened (journaled.Clock at)); refusal = refusal; words = words; before = snapshot calls stores old.host; after = snapshot calls stores new.host } in
      let w = went holds s (snapshot calls stores old.host) (turn ∷ []) (snapshot calls stores new.host) led keeps (one_turn calls stores holds stamped (Some (happened (journaled.Clock at))) refusal words old new received).are in
      go turn refl refl had w.parts w.are_parts w.all w.led w.kept where
        go : (turn : Turn T) → turn.incoming ≡ Some (happened (journaled.Clock at)) → turn.refusal ≡ refusal → is_memory turn.refusal ≡ false → (ps : List Part) → AreParts (turn ∷ []) ps → outcomes_in ps ≡ outcomes (map machine_event (events_in ps)) s →
            IsLed (run (map machine_event (events_in ps)) s) → KeepsState new.host.table (run (map machine_event (events_in ps)) s) → SpansOwn s last m (Turned turn ∷ []) m new
        go turn is was had' [] are all led' kept = absurd are
        go turn is was had' (p ∷ q ∷ ps) are all led' kept = absurd are.1
        go turn is was had' (p ∷ []) are all led' kept =
            let t = ticked at turn p is had' are.0 in
            let c = subst (λ (es : List Event). Comes last s es at) (sym t.is) (tick-list at t.rest t.plain s last allowed less again) in
            let steps = leaves T (Some (happened (journaled.Clock at))) refusal (plain (Some (happened (journaled.Clock at))) refl) refl m in
            spans-of turn p are.0 s m m (steps turn is was p are.0 s all) last at new c all led' kept is_at (own-again s.reading at allowed)

  -- a clock reading that is the pass's already
  again_turn : (old new : RoundLauncher T E W) (received : ReceivedReading calls stores holds stamped old new) → is_memory received.refusal ≡ false → (m : Mind) (s : State) (last : Reading) → Follows s last old →
      SpansOwn s last m (of_reading calls stores holds stamped old new received) m new
  again_turn old new received had m s last f =
      let self : last_read last (Tick last) ≡ last = read-self last in
      read_turn old.at received.refusal received.words old new received.received received.at had m s last f.keeps f.led
      (subst (λ (x : Reading). is_clock_refused s.reading x ≡ false) (sym f.at) f.allowed)
      (subst (λ (x : Reading). last.up ≤ x.up) (sym f.at) (omega arith))
      (subst (λ (x : Reading). last_read last (Tick x) ≡ x) (sym f.at) self)

  reads : (old new : RoundLauncher T E W) (r : Reads calls stores holds stamped old new) → (m : Mind) (s : State) (last : Reading) → ReceivedReadings (of_reads calls stores holds stamped old new r) → Follows s last old →
      SpansOwn s last m (of_reads calls stores holds stamped old new r) m new
  reads old new (inl own) m s last had f = record { spans = same_to m own.1 s last tt f; own = sym f.keeps.reading ∙ own.0 ∙ f.at }
  reads old new (inr moves) m s last had f = again_turn old new moves.1 had.0 m s last f

  -- a clock reading is not a load
  reads_loaded : (old new : RoundLauncher T E W) → Reads calls stores holds stamped old new → new.has_loaded ≡ old.has_loaded
  reads_loaded old new (inl own) = ap (λ (r : RoundLauncher T E W). r.has_loaded) own.1
  reads_loaded old new (inr moves) = moves.1.loaded

  pub missed : (b : Bool) (old new : RoundLauncher T E W) (r : ReadsIf calls stores holds stamped b old new) → Keeps (of_missed calls stores holds stamped b old new r) old new
  missed true old new r = λ known. reminded (mind known old) (mind known old) (mind known new) (as_loaded known old.has_loaded new.has_loaded (reads_loaded old new r))
      (λ s last had f. (reads old new r (mind known old) s last had f).spans)
  missed false old new is = same is

  -- a clock reading that is taken, and delivered or spared
  news : (first begun new : RoundLauncher T E W) → ReadsClock calls stores holds stamped first begun → (n : DeliversNews calls stores holds stamped begun new) →
      Keeps (of_news calls stores holds stamped n.is_news begun new n.handed) first new
  news first begun new r n = λ known s last had f.
      let x = r.shown in
      let at : begun.at ≡ last_read last (Tick x) = ap (λ (q : RoundLauncher T E W). q.at) r.read ∙ ap (λ l. last_read l (Tick x)) f.at in
      let keeps : KeepsState begun.host.table s = subst (λ t. KeepsState t s) (sym (ap (λ (q : RoundLauncher T E W). q.host.table) r.read)) f.keeps in
      let allowed : is_clock_refused s.reading begun.at ≡ false = subst (λ (q : Reading). is_clock_refused s.reading q ≡ false) (sym at) (allowed-on s.reading last x f.allowed) in
      let less : last.up ≤ begun.at.up = subst (λ (q : Reading). last.up ≤ q.up) (sym at) (not-before last x) in
      let again : last_read last (Tick begun.at) ≡ begun.at = subst (λ (q : Reading). last_read last (Tick q) ≡ q) (sym at) (read-again last x) in
      let loaded : begun.has_loaded ≡ first.has_loaded = ap (λ (q : RoundLauncher T E W). q.has_loaded) r.read in
      go n.is_news n.handed known loaded s last (n.decided s keeps) had f.led keeps allowed less again where
        go : (b : Bool) (h : ReceivedIf calls stores holds stamped b begun new) (known : looks.Known) → begun.has_loaded ≡ first.has_loaded → (s : State) (last : Reading) → b ≡ may_change s.jobs begun.host.table.reading begun.at →
            ReceivedReadings (of_news calls stores holds stamped b begun new h) → IsLed s → KeepsState begun.host.table s → is_clock_refused s.reading begun.at ≡ false →
            last.up ≤ begun.at.up → last_read last (Tick begun.at) ≡ begun.at → Spans s last (mind known first) (of_news calls stores holds stamped b begun new h) (mind known new) new
        go true h known loaded s last is had led keeps allowed less again =
            let m = mind known first in
            let sp = (read_turn begun.at h.refusal h.words begun new h.received h.at had.0 m s last keeps led allowed less again).spans in
            record {
              parts = sp.parts;
              are_parts = sp.are_parts;
              all = sp.all;
              had = sp.had;
              knows = λ knows. as_loaded known first.has_loaded new.has_loaded (h.loaded ∙ loaded) (run (delivered (lines_of (of_reading calls stores holds stamped begun new h) sp.parts)) s) (sp.knows knows);
              may = sp.may;
              follows = sp.follows;
            }
        go false h known loaded s last is had led keeps allowed less again = record {
          parts = [];
          are_parts = tt;
          all = refl;
          had = λ knows. tt;
          knows = as_loaded known first.has_loaded new.has_loaded (ap (λ (q : RoundLauncher T E W). q.has_loaded) h ∙ loaded) s;
          may = λ seen. (ap (λ r. may_change s.jobs r begun.at) (sym keeps.reading) ∙ sym is, tt);
          follows = record {
            keeps = subst (λ (r : RoundLauncher T E W). KeepsState r.host.table s) (sym h) keeps;
            led = led;
            at = ap (λ (r : RoundLauncher T E W). r.at) h ∙ sym again;
            allowed = subst (λ (r : Reading). is_clock_refused s.reading r ≡ false) (sym again) allowed;
          };
        }

  pub begins : (old new : RoundLauncher T E W) (b : Begins calls stores holds stamped old new) → Keeps (of_begins calls stores holds stamped old new b) old new
  begins old new b =
      then_ {xs = []} {a = old} {b = record old { is_active = false }} (moved old (record old { is_active = false }) refl refl refl)
      (then_ {a = record old { is_active = false }} {b = b.first} (missed old.is_refused (record old { is_active = false }) b.first b.missed) (news b.first b.begun new b.reads b.news))

  pub gives_to : (event : Option Incoming) → NoClock event → (refusal : Option Refusal) (words : List ℕ) (old new : RoundLauncher T E W) (g : Gives calls stores holds stamped event refusal words old new) →
      (m m' : Mind) → Steps T event refusal m m' → KeepsTo m (of_gives calls stores holds stamped event refusal words old new g) old m' new
  gives_to event apart refusal words old new g m m' steps = λ s last had f.
      let xs = of_reads calls stores holds stamped old g.mid g.reading in
      let ys : List (Mark T) = turned calls stores event refusal words g.mid.host new.host ∷ [] in
      let both = memory-both xs ys had in
      let one = reads old g.mid g.reading m s last both.0 f in
      let ls = lines_of xs one.spans.parts in
      spans-both xs ys s last m m m' g.mid new one.spans
      (plain_turn event apart refusal words g.mid new g.received g.at m m' steps (run (delivered ls) s) (last_read_in last (all_of ls)) one.spans.follows one.own)

  pub gives_loaded : (event : Option Incoming) (refusal : Option Refusal) (words : List ℕ) (old new : RoundLauncher T E W) → Gives calls stores holds stamped event refusal words old new → new.has_loaded ≡ old.has_loaded
  gives_loaded event refusal words old new g = g.loaded ∙ reads_loaded old g.mid g.reading

  pub tells : (event : Option Incoming) → IsOfJob event → (refusal : Option Refusal) (old new : RoundLauncher T E W) (t : Tells calls stores holds stamped event refusal old new) →
      Keeps (of_tells calls stores holds stamped event refusal old new t) old new
  tells event its refusal old new t = λ known.
      let m = mind known old in
      reminded m m (mind known new) (as_loaded known old.has_loaded new.has_loaded (gives_loaded event refusal t.words old new t.gives))
      (gives_to event its.no_reading refusal t.words old new t.gives m m (leaves T event refusal its.no_observation (its.no_load refusal) m))
