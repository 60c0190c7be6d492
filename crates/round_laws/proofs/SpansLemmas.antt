-- What some marks were for the machine next to the launcher, and how two such lists join.
use Rattle.std.proofs.lemmas.Grind.{flat_map-append}
use Rattle.history_model.specs.declared.Reading.{Reading}
use Rattle.history_model.specs.Refusals.{is_clock_refused}
use Rattle.history_model.specs.Machine.{State, Event}
use Rattle.history_model.specs.Step.{run, outcomes}
use Rattle.history_model.specs.LeftOut.{Line, Delivered, all_of, delivered, last_read_in, MayBeLeftOut}
use Rattle.loaded_jobs.specs.StandsFor.{KeepsState}
use Rattle.job_table.specs.Taking.{machine_event}
use Rattle.launcher.specs.HostTurns.{IsLed}
use Rattle.std.proofs.Common.{◌≡◌, inl, inr, false, Option, List, [], ◌∷◌, ◌++◌, map, refl, sym, ap, subst, ◌∙◌}
use Rattle.std.proofs.lemmas.List.{append-nil}
use Rattle.launcher_laws.specs.TurnRuns.{Turn, Part, AreParts, IsPartOf, events_in, outcomes_in}
use Rattle.live_loop.specs.Looks as looks
use Rattle.live_loop.specs.Rounds as rounds
use Rattle.child_edge.specs.Calls.{ToldCall}
use Rattle.jobd.specs.declared.round_launcher.RoundLauncher.{RoundLauncher}
use Rattle.jobd.specs.Launches.{lent, AsksEdge}
use Rattle.round_laws.specs.Marks.{Mark, Turned, turns_in}
use Rattle.round_laws.specs.Receiving.{lines_of, ReceivedReadings}
use Rattle.round_laws.proofs.ReceivingLemmas.{handed-append, handed-map}
use Rattle.round_laws.proofs.SeenLemmas.{Mind, Knows}
use Rattle.round_laws.proofs.QuietLemmas.{HadSeen, seen-join, seen-handed, run-both, outcomes-both, all-both, all-map, last-both, may-both, seen-both, parts-both, lines-both, memory-both, Comes}
use Rattle.round_laws.proofs.StepsLemmas.{as_loaded}

module _ {T E W : Type 0} where
  -- the machine s, of which this was the last clock reading, is the launcher's
  pub record Follows (s : State) (last : Reading) (r : RoundLauncher T E W) : Type 0 where
    pub keeps : KeepsState r.host.table s
    pub led : IsLed s
    pub at : r.at ≡ last
    pub allowed : is_clock_refused s.reading last ≡ false

  -- what these marks were for it; what the path checks remember stays true
  pub record Spans (s : State) (last : Reading) (m : Mind) (marks : List (Mark T)) (m' : Mind) (new : RoundLauncher T E W) : Type 0 where
    pub parts : List Part
    pub are_parts : AreParts (turns_in marks) parts
    pub all : outcomes_in parts ≡ outcomes (delivered (lines_of marks parts)) s
    pub had : Knows s m → HadSeen s (lines_of marks parts)
    pub knows : Knows s m → Knows (run (delivered (lines_of marks parts)) s) m'
    pub may : HadSeen s (lines_of marks parts) → MayBeLeftOut last s (lines_of marks parts)
    pub follows : Follows (run (delivered (lines_of marks parts)) s) (last_read_in last (all_of (lines_of marks parts))) new

  -- and the machine is at the last clock reading
  pub record SpansOwn (s : State) (last : Reading) (m : Mind) (marks : List (Mark T)) (m' : Mind) (new : RoundLauncher T E W) : Type 0 where
    pub spans : Spans s last m marks m' new
    pub own : (run (delivered (lines_of marks spans.parts)) s).reading ≡ last_read_in last (all_of (lines_of marks spans.parts))

  abbrev pub KeepsTo : Mind → List (Mark T) → RoundLauncher T E W → Mind → RoundLauncher T E W → Type 0
  KeepsTo m marks old m' new = (s : State) (last : Reading) → ReceivedReadings marks → Follows s last old → Spans s last m marks m' new

  -- what the path checks remember, and whether the launcher accepted a load since
  abbrev pub mind : looks.Known → RoundLauncher T E W → Mind
  mind known r = record { known = known; loaded = r.has_loaded }

  -- nothing was delivered to the path checks
  abbrev pub Keeps : List (Mark T) → RoundLauncher T E W → RoundLauncher T E W → Type 0
  Keeps marks old new = (known : looks.Known) → KeepsTo (mind known old) marks old (mind known new) new

  pub spans-both : (xs ys : List (Mark T)) (s : State) (last : Reading) (m m' m'' : Mind) (b c : RoundLauncher T E W) (one : Spans s last m xs m' b) →
      Spans (run (delivered (lines_of xs one.parts)) s) (last_read_in last (all_of (lines_of xs one.parts))) m' ys m'' c → Spans s last m (xs ++ ys) m'' c
  spans-both xs ys s last m m' m'' b c one two =
      let ls = lines_of xs one.parts in
      let ns = lines_of ys two.parts in
      let split : lines_of (xs ++ ys) (one.parts ++ two.parts) ≡ ls ++ ns = lines-both xs ys one.parts two.parts one.are_parts in
      let to : run (delivered (ls ++ ns)) s ≡ run (delivered ns) (run (delivered ls) s) = ap (λ es. run es s) (handed-append ls ns) ∙ run-both (delivered ls) (delivered ns) s in
      let read : last_read_in last (all_of (ls ++ ns)) ≡ last_read_in (last_read_in last (all_of ls)) (all_of ns) = ap (last_read_in last) (all-both ls ns) ∙ last-both last (all_of ls) (all_of ns) in
      record {
        parts = one.parts ++ two.parts;
        are_parts = parts-both xs ys one.parts two.parts one.are_parts two.are_parts;
        all = flat_map-append (λ (part : Part). part.1) one.parts two.parts ∙ (λ i. one.all i ++ two.all i) ∙ sym (outcomes-both (delivered ls) (delivered ns) s)
            ∙ ap (λ es. outcomes es s) (sym (handed-append ls ns)) ∙ ap (λ l. outcomes (delivered l) s) (sym split);
        had = λ knows. subst (HadSeen s) (sym split) (seen-join s ls ns (one.had knows) (two.had (one.knows knows)));
        knows = λ knows. subst (λ (l : List Line). Knows (run (delivered l) s) m'') (sym split)
            (subst (λ (t : State). Knows t m'') (sym to) (two.knows (one.knows knows)));
        may = λ seen.
            let both = seen-both s ls ns (subst (HadSeen s) split seen) in
            subst (MayBeLeftOut last s) (sym split) (may-both last s ls ns (one.may both.0) (two.may both.1));
        follows = subst (λ (l : List Line). Follows (run (delivered l) s) (last_read_in last (all_of l)) c) (sym split)
            (subst (λ (t : State). Follows t (last_read_in last (all_of (ls ++ ns))) c) (sym to)
            (subst (λ (l : Reading). Follows (run (delivered ns) (run (delivered ls) s)) l c) (sym read) two.follows));
      }

  pub then_to : {xs ys : List (Mark T)} {m m' m'' : Mind} {a b c : RoundLauncher T E W} → KeepsTo m xs a m' b → KeepsTo m' ys b m'' c → KeepsTo m (xs ++ ys) a m'' c
  then_to {xs} {ys} {m} {m'} {m''} {a} {b} {c} f g = λ s last had follows.
      let both = memory-both xs ys had in
      let one = f s last both.0 follows in
      spans-both xs ys s last m m' m'' b c one (g (run (delivered (lines_of xs one.parts)) s) (last_read_in last (all_of (lines_of xs one.parts))) both.1 one.follows)

  pub then_ : {xs ys : List (Mark T)} {a b c : RoundLauncher T E W} → Keeps xs a b → Keeps ys b c → Keeps (xs ++ ys) a c
  then_ {xs} {ys} {a} {b} {c} f g = λ known. then_to {xs = xs} {ys = ys} {m = mind known a} {m' = mind known b} {m'' = mind known c} {a = a} {b = b} {c = c} (f known) (g known)

  -- what follows from what is remembered is remembered too
  pub reminded : {marks : List (Mark T)} {old new : RoundLauncher T E W} (m m' m'' : Mind) → ((s : State) → Knows s m' → Knows s m'') → KeepsTo m marks old m' new → KeepsTo m marks old m'' new
  reminded {marks} {old} {new} m m' m'' follows keeps = λ s last had f.
      let sp = keeps s last had f in
      record {
        parts = sp.parts;
        are_parts = sp.are_parts;
        all = sp.all;
        had = sp.had;
        knows = λ knows. follows (run (delivered (lines_of marks sp.parts)) s) (sp.knows knows);
        may = sp.may;
        follows = sp.follows;
      }

  pub moved_to : (m m' : Mind) → ((s : State) → Knows s m → Knows s m') → (old new : RoundLauncher T E W) → new.host.table ≡ old.host.table → new.at ≡ old.at → KeepsTo m [] old m' new
  moved_to m m' follows old new table at = λ s last had f. record {
    parts = [];
    are_parts = tt;
    all = refl;
    had = λ knows. tt;
    knows = λ knows. follows s knows;
    may = λ seen. tt;
    follows = record { keeps = subst (λ t. KeepsState t s) (sym table) f.keeps; led = f.led; at = at ∙ f.at; allowed = f.allowed };
  }

  pub moved : (old new : RoundLauncher T E W) → new.host.table ≡ old.host.table → new.at ≡ old.at → new.has_loaded ≡ old.has_loaded → Keeps [] old new
  moved old new table at loaded = λ known. moved_to (mind known old) (mind known new) (as_loaded known old.has_loaded new.has_loaded loaded) old new table at

  pub nothing : (r : RoundLauncher T E W) → Keeps [] r r
  nothing r = moved r r refl refl refl

  pub nothing_to : (m : Mind) (r : RoundLauncher T E W) → KeepsTo m [] r m r
  nothing_to m r = moved_to m m (λ s knows. knows) r r refl refl

  pub same_to : (m : Mind) {old new : RoundLauncher T E W} → new ≡ old → KeepsTo m [] old m new
  same_to m {old} {new} is = moved_to m m (λ s knows. knows) old new (ap (λ (r : RoundLauncher T E W). r.host.table) is) (ap (λ (r : RoundLauncher T E W). r.at) is)

  pub same : {old new : RoundLauncher T E W} → new ≡ old → Keeps [] old new
  same {old} {new} is = moved old new (ap (λ (r : RoundLauncher T E W). r.host.table) is) (ap (λ (r : RoundLauncher T E W). r.at) is) (ap (λ (r : RoundLauncher T E W). r.has_loaded) is)

  pub asked : (calls : E → Option (List ToldCall)) {old new : RoundLauncher T E W} → AsksEdge calls old new → Keeps [] old new
  asked calls {old} {new} (inl edge) = moved old new (ap (λ (r : RoundLauncher T E W). r.host.table) edge.2) (ap (λ (r : RoundLauncher T E W). r.at) edge.2) (ap (λ (r : RoundLauncher T E W). r.has_loaded) edge.2)
  asked calls {old} {new} (inr told) = moved old new (ap (λ (r : RoundLauncher T E W). r.host.table) told.2) (ap (λ (r : RoundLauncher T E W). r.at) told.2) (ap (λ (r : RoundLauncher T E W). r.has_loaded) told.2)

  pub lent_on : (edge : E) (old : RoundLauncher T E W) → Keeps [] old (lent edge old)
  lent_on edge old = moved old (lent edge old) refl refl refl

  pub asks : (calls : E → Option (List ToldCall)) {old new : RoundLauncher T E W} → rounds.Asks (AsksEdge calls) old new → Keeps [] old new
  asks calls {old} rounds.nothing = nothing old
  asks calls (rounds.further more a) = then_ {xs = []} {ys = []} (asks calls more) (asked calls a)

  pub spans-of : (turn : Turn T) (p : Part) → IsPartOf turn p → (s : State) (m m' : Mind) → (Knows s m → Knows (run (map machine_event p.0) s) m') →
      (last next : Reading) (new : RoundLauncher T E W) → Comes last s (map machine_event p.0) next →
      outcomes_in (p ∷ []) ≡ outcomes (map machine_event (events_in (p ∷ []))) s → IsLed (run (map machine_event (events_in (p ∷ []))) s) →
      KeepsState new.host.table (run (map machine_event (events_in (p ∷ []))) s) → new.at ≡ next → is_clock_refused next next ≡ false → SpansOwn s last m (Turned turn ∷ []) m' new
  spans-of turn p is_part s m m' steps last next new c all led kept at ok =
      let es = map machine_event p.0 in
      let ee : map machine_event (events_in (p ∷ [])) ≡ es = ap (map machine_event) (append-nil p.0) in
      let ll : map Delivered es ++ [] ≡ map Delivered es = append-nil (map Delivered es) in
      let hh : delivered (map Delivered es ++ []) ≡ es = ap delivered ll ∙ handed-map es in
      let aa : all_of (map Delivered es ++ []) ≡ es = ap all_of ll ∙ all-map es in
      record {
        spans = record {
          parts = p ∷ [];
          are_parts = (is_part, tt);
          all = all ∙ ap (λ xs. outcomes xs s) (ee ∙ sym hh);
          had = λ knows. subst (HadSeen s) (sym ll) (seen-handed s es);
          knows = λ knows. subst (λ (xs : List Event). Knows (run xs s) m') (sym hh) (steps knows);
          may = λ seen. subst (MayBeLeftOut last s) (sym ll) c.may;
          follows = subst (λ (xs : List Event). Follows (run xs s) (last_read_in last (all_of (map Delivered es ++ []))) new) (sym hh)
              (subst (λ (xs : List Event). Follows (run es s) (last_read_in last xs) new) (sym aa) (record {
                keeps = subst (λ (xs : List Event). KeepsState new.host.table (run xs s)) ee kept;
                led = subst (λ (xs : List Event). IsLed (run xs s)) ee led;
                at = at ∙ sym c.read;
                allowed = (λ i. is_clock_refused (c.reading i) (c.read i)) ∙ ok;
              }));
        };
        own = ap (λ xs. (run xs s).reading) hh ∙ c.reading ∙ sym c.read ∙ ap (last_read_in last) (sym aa);
      }
