-- The pass whose clock reading is late enough orders each start that is due.
use Rattle.std.proofs.Common.{◌≡◌, inl, inr, ℕ, Bool, true, false, List, [], ◌∷◌, ◌++◌, map, Option, Some, None, refl, sym, ap, subst, ◌∙◌, ◌+◌, append_assoc}
use Rattle.std.proofs.lemmas.List.{append-nil}
use Rattle.std.specs.List.{filter, flat_map}
use Rattle.std.specs.Prelude.{Result, unwrap_or}
use Rattle.history_model.specs.declared.Act.{Act}
use Rattle.history_model.specs.declared.Obs.{Obs}
use Rattle.history_model.specs.declared.Reading.{Reading}
use Rattle.history_model.specs.declared.Refusal.{Refusal}
use Rattle.history_model.specs.declared.event.Event.TheVariants as journaled
use Rattle.history_model.specs.declared.event.Setting.{Setting}
use Rattle.history_model.specs.Items.{History}
use Rattle.history_model.specs.Labels.{Label}
use Rattle.history_model.specs.Machine.{State, Event, Tick}
use Rattle.history_model.specs.MachineLaws.{is_for}
use Rattle.history_model.specs.News.{may_change}
use Rattle.history_model.specs.Refusals.{is_clock_refused}
use Rattle.history_model.specs.Acceptance.{refusal_in}
use Rattle.history_model.specs.Search.{first}
use Rattle.history_model.specs.Step.{Outcome, outcome_by, outcome, outcomes, orders_in, run, step}
use Rattle.history_model.specs.LeftOut.{delivered, last_read, last_read_in, all_of}
use Rattle.loaded_jobs.specs.StandsFor.{KeepsState}
use Rattle.job_table.specs.Taking.{machine_event}
use Rattle.child_edge.specs.Calls.{ToldCall}
use Rattle.child_edge.specs.declared.plain.EdgeFault.{EdgeFault}
use Rattle.ctl_protocol.specs.declared.header.Header.{Header}
use Rattle.outside.specs.Stores.{Stamp, StoreCall}
use Rattle.launcher.specs.HostTurns.{IsLed}
use Rattle.launcher.specs.Hosts.{IsNew, stands}
use Rattle.launcher.specs.Inputs.{Incoming, happened}
use Rattle.launcher.specs.Journals.{JournalState}
use Rattle.launcher.specs.LoadTurns.{is_memory}
use Rattle.launcher_laws.specs.TurnRuns.{Turn, Part, AreParts, IsPartOf, AreOutcomesOf, events_in, outcomes_in}
use Rattle.launcher_laws.proofs.RunsLemmas.{went}
use Rattle.live_loop.specs.Rounds as rounds
use Rattle.jobd.specs.declared.round_launcher.RoundLauncher.{RoundLauncher}
use Rattle.jobd.specs.Launches.{Received, ReceivedIf, DeliversNews, ReadsClock, Begins}
use Rattle.round_laws.specs.Marks.{Mark, Turned, Spared, turns_in, snapshot, turned}
use Rattle.round_laws.specs.RoundMarks.{launcher, of_missed, of_news, of_begins, of_polls, of_looks, of_serves, of_clients, of_round, marks_of}
use Rattle.round_laws.specs.Receiving.{ReceivedReadings, lines_of}
use Rattle.round_laws.specs.DueStarts.{IsDueAt, OrdersStart, IsStartedIn, IsStartedBy, StartsAllDue, StartsWhatWaits, start_of, turns_before}
use Rattle.round_laws.proofs.TurnsLemmas.{one_turn}
use Rattle.round_laws.proofs.QuietLemmas.{memory-both, allowed-on}
use Rattle.round_laws.proofs.StepsLemmas.{ticked}
use Rattle.round_laws.proofs.SpansLemmas.{Follows, mind, then_, then_to, moved, asks}
use Rattle.round_laws.proofs.TurnQuietLemmas.{missed}
use Rattle.round_laws.proofs.RoundQuietLemmas.{rounds_keep}
use Rattle.round_laws.proofs.ReceivingLemmas.{new-good, lines-received}
use Rattle.round_laws.proofs.DecidingLemmas.{in-range}
use Rattle.round_laws.proofs.NotPutOffLemmas.{IsStartedOr, not-put-off}
use Rattle.round_laws.proofs.DueStartsLemmas.{order-at, accepts, is-news, good-of}

-- ---- one turn

module _ {T : Type 0} (s : State) (label : Label) (t : History) (at : Reading) (is_due : IsDueAt s label t at) (accepted : refusal_in s (Tick at) ≡ None) where
  part_starts : (turn : Turn T) (p : Part) → turn.incoming ≡ Some (happened (journaled.Clock at)) → is_memory turn.refusal ≡ false → IsPartOf turn p →
      outcomes_in (p ∷ []) ≡ outcomes (map machine_event (events_in (p ∷ []))) s → OrdersStart label t turn
  part_starts turn p is had (inl none) all = elim none.0 [
    | inl memory ↦ let clash : true ≡ false = sym memory ∙ had in cc
    | inr apart ↦ let clash : None ≡ Some (happened (journaled.Clock at)) = sym apart.0 ∙ is in cc
  ]
  part_starts turn p is had (inr o) all =
      let tick = ticked at turn p is had (inr o) in
      let outs : o.reply ∷ (o.others ++ []) ≡ outcome s (Tick at) ∷ outcomes tick.rest (step s (Tick at)) =
      ap (λ (l : List Outcome). l ++ []) (sym o.all) ∙ all ∙ ap (λ (es : List Event). outcomes es s) (ap (map machine_event) (append-nil p.0) ∙ tick.is) in
      let reply : o.reply ≡ outcome s (Tick at) = ap (λ (l : List Outcome). unwrap_or (first l) o.reply) outs in
      record {
        events = p.0;
        outs = p.1;
        are = o;
        accepted = sym o.refusal ∙ ap (λ (out : Outcome). out.refusal) reply ∙ ap (λ r. (outcome_by r s (Tick at)).refusal) accepted;
        order = ap (λ (out : Outcome). first (filter (is_for label) out.orders)) reply ∙ order-at s label t at is_due accepted;
      }

  parts_start : (turn : Turn T) (ps : List Part) → AreParts (turn ∷ []) ps → turn.incoming ≡ Some (happened (journaled.Clock at)) → is_memory turn.refusal ≡ false →
      outcomes_in ps ≡ outcomes (map machine_event (events_in ps)) s → OrdersStart label t turn
  parts_start turn [] are is had all = absurd are
  parts_start turn (p ∷ q ∷ ps) are is had all = absurd are.1
  parts_start turn (p ∷ []) are is had all = part_starts turn p is had are.0 all

-- ---- lists of turns

module _ {T : Type 0} where
  turns-both : (xs ys : List (Mark T)) → turns_in (xs ++ ys) ≡ turns_in xs ++ turns_in ys
  turns-both [] ys = refl
  turns-both (Spared event ∷ xs) ys = turns-both xs ys
  turns-both (Turned turn ∷ xs) ys = ap (λ (l : List (Turn T)). turn ∷ l) (turns-both xs ys)

  memory-join : (xs ys : List (Mark T)) → ReceivedReadings xs → ReceivedReadings ys → ReceivedReadings (xs ++ ys)
  memory-join [] ys first second = second
  memory-join (Spared event ∷ xs) ys first second = memory-join xs ys first second
  memory-join (Turned turn ∷ xs) ys first second = (first.0, memory-join xs ys first.1 second)

  module _ (label : Label) (t : History) (at : Reading) where
    started_behind : (xs ys : List (Mark T)) → IsStartedIn label t at (turns_in ys) → IsStartedIn label t at (turns_in (xs ++ ys))
    started_behind xs ys is = record {
      before = turns_in xs ++ is.before;
      turn = is.turn;
      after = is.after;
      are = turns-both xs ys ∙ ap (λ (l : List (Turn T)). turns_in xs ++ l) is.are ∙ sym (append_assoc (turns_in xs) is.before (is.turn ∷ is.after));
      reads = is.reads;
      starts = is.starts;
    }

    started_before : (xs ys : List (Mark T)) → IsStartedIn label t at (turns_in xs) → IsStartedIn label t at (turns_in (xs ++ ys))
    started_before xs ys is = record {
      before = is.before;
      turn = is.turn;
      after = is.after ++ turns_in ys;
      are = turns-both xs ys ∙ ap (λ (l : List (Turn T)). l ++ turns_in ys) is.are ∙ append_assoc is.before (is.turn ∷ is.after) (turns_in ys);
      reads = is.reads;
      starts = is.starts;
    }

  same_start : (label : Label) (t later : History) (at : Reading) (turns : List (Turn T)) → start_of label later ≡ start_of label t → IsStartedIn label later at turns → IsStartedIn label t at turns
  same_start label t later at turns same is = record {
    before = is.before;
    turn = is.turn;
    after = is.after;
    are = is.are;
    reads = is.reads;
    starts = record { events = is.starts.events; outs = is.starts.outs; are = is.starts.are; accepted = is.starts.accepted; order = is.starts.order ∙ ap Some same };
  }

  -- started before, or due still
  started_by : (label : Label) (t : History) (at : Reading) (turns : List (Turn T)) (s : State) (xs ys : List (Label × Act)) → xs ≡ ys →
      IsStartedOr label t ys ((later : History) × IsDueAt s label later at × (start_of label later ≡ start_of label t)) →
      ((later : History) → IsDueAt s label later at → IsStartedIn label later at turns) → IsStartedBy label t xs at turns
  started_by label t at turns s xs ys same (inl started) starts = inl (ap (λ (l : List (Label × Act)). first (filter (is_for label) l)) same ∙ started)
  started_by label t at turns s xs ys same (inr on) starts =
      inr (ap (λ (l : List (Label × Act)). filter (is_for label) l) same ∙ on.0, same_start label t on.1.0 at turns on.1.2 (starts on.1.0 on.1.1))

-- ---- a pass

module _ {T E W : Type 0} (calls : E → Option (List ToldCall)) (stores : T → Option (List StoreCall))
    (holds : T → List Setting → Type 0) (stamped : T → List Stamp → Type 0) where
  turn_starts : (s : State) (label : Label) (t : History) (at : Reading) → IsDueAt s label t at → refusal_in s (Tick at) ≡ None →
      (refusal : Option Refusal) (words : List ℕ) (old new : RoundLauncher T E W) → KeepsState old.host.table s → IsLed s →
      Received calls stores holds stamped (Some (happened (journaled.Clock at))) refusal words old.host new.host → is_memory refusal ≡ false →
      IsStartedIn label t at (turns_in (turned calls stores (Some (happened (journaled.Clock at))) refusal words old.host new.host ∷ []))
  turn_starts s label t at is_due accepted refusal words old new keeps led received had =
      let turn : Turn T = record { incoming = Some (happened (journaled.Clock at)); refusal = refusal; words = words; before = snapshot calls stores old.host; after = snapshot calls stores new.host } in
      let w = went holds s (snapshot calls stores old.host) (turn ∷ []) (snapshot calls stores new.host) led keeps (one_turn calls stores holds stamped (Some (happened (journaled.Clock at))) refusal words old new received).are in
      record {
        before = [];
        turn = turn;
        after = [];
        are = refl;
        reads = refl;
        starts = parts_start s label t at is_due accepted turn w.parts w.are_parts refl had w.all;
      }

  news_starts : (s : State) (label : Label) (t : History) (begun new : RoundLauncher T E W) → KeepsState begun.host.table s → IsLed s → is_clock_refused s.reading begun.at ≡ false →
      IsDueAt s label t begun.at → (n : DeliversNews calls stores holds stamped begun new) →
      ReceivedReadings (of_news calls stores holds stamped n.is_news begun new n.handed) → IsStartedIn label t begun.at (turns_in (of_news calls stores holds stamped n.is_news begun new n.handed))
  news_starts s label t begun new keeps led allowed is_due n had =
      let accepted = accepts s begun.at allowed in
      let is : n.is_news ≡ true = n.decided s keeps ∙ ap (λ (r : Reading). may_change s.jobs r begun.at) keeps.reading
      ∙ is-news s (good-of begun.host.table s keeps led) label t begun.at is_due accepted in
      go n.is_news n.handed is had where
        go : (b : Bool) (h : ReceivedIf calls stores holds stamped b begun new) → b ≡ true → ReceivedReadings (of_news calls stores holds stamped b begun new h) →
            IsStartedIn label t begun.at (turns_in (of_news calls stores holds stamped b begun new h))
        go true h is had' = turn_starts s label t begun.at is_due (accepts s begun.at allowed) h.refusal h.words begun new keeps led h.received had'.0
        go false h is had' = cc

  begins_start : (s : State) (label : Label) (t : History) (old new : RoundLauncher T E W) (b : Begins calls stores holds stamped old new) → KeepsState b.begun.host.table s → IsLed s →
      is_clock_refused s.reading b.begun.at ≡ false → IsDueAt s label t b.begun.at → ReceivedReadings (of_begins calls stores holds stamped old new b) →
      IsStartedIn label t b.begun.at (turns_in (of_begins calls stores holds stamped old new b))
  begins_start s label t old new b keeps led allowed is_due had =
      let first_one = of_missed calls stores holds stamped old.is_refused (record old { is_active = false }) b.first b.missed in
      let second_one = of_news calls stores holds stamped b.news.is_news b.begun new b.news.handed in
      started_behind label t b.begun.at first_one second_one
      (news_starts s label t b.begun new keeps led allowed is_due b.news (memory-both first_one second_one had).1)

  module _ (Finds : ℕ → Option (ℕ × ℕ) → E → E → Type 0) (Looks : List ℕ → Result Obs EdgeFault → E → E → Type 0)
      (Accepts : ℕ → E → E → Type 0) (Holds : ℕ → ℕ → List ℕ → Bool → E → E → Type 0) where
    pub round_starts : (old new : rounds.Left (RoundLauncher T E W)) (round : rounds.IsRound (launcher calls stores holds stamped Finds Looks Accepts Holds) old new) →
        ReceivedReadings (of_round calls stores holds stamped Finds Looks Accepts Holds old new round) →
        (s : State) → KeepsState round.begins.begun.host.table s → IsLed s → is_clock_refused s.reading round.begins.begun.at ≡ false →
        (label : Label) (t : History) → IsDueAt s label t round.begins.begun.at →
        IsStartedIn label t round.begins.begun.at (turns_in (of_round calls stores holds stamped Finds Looks Accepts Holds old new round))
    round_starts old new round had s keeps led allowed label t is_due =
        let first_ones = of_begins calls stores holds stamped round.waited round.begun round.begins in
        let rest = of_polls calls stores holds stamped Finds round.polls.over
        ++ (of_looks calls stores holds stamped Finds Looks Accepts Holds round.polled old round.looked new round.looks
        ++ (of_serves calls stores holds stamped round.serves.serves ++ (of_clients calls stores holds stamped Accepts Holds round.serves.gathers ++ of_serves calls stores holds stamped round.serves.again))) in
        started_before label t round.begins.begun.at first_ones rest
        (begins_start s label t round.waited round.begun round.begins keeps led allowed is_due (memory-both first_ones rest had).0)

    -- from a machine that the launcher follows on
    from_there : (s0 : State) (last0 : Reading) (first mid last : rounds.Left (RoundLauncher T E W)) → Follows s0 last0 first.host →
        (more : rounds.AreRounds (launcher calls stores holds stamped Finds Looks Accepts Holds) first mid) (round : rounds.IsRound (launcher calls stores holds stamped Finds Looks Accepts Holds) mid last) →
        ReceivedReadings (marks_of calls stores holds stamped Finds Looks Accepts Holds (rounds.one_round more round)) →
        StartsAllDue s0 (turns_before calls stores holds stamped Finds Looks Accepts Holds more round) round.begins.begun.host.table round.begins.begun.at
        (turns_in (of_round calls stores holds stamped Finds Looks Accepts Holds mid last round))
    from_there s0 last0 first mid last follows more round had =
        let b = round.begins in
        let quiet : RoundLauncher T E W = record round.waited { is_active = false } in
        let ms = marks_of calls stores holds stamped Finds Looks Accepts Holds more in
        let ns = of_missed calls stores holds stamped round.waited.is_refused quiet b.first b.missed in
        let in_round = of_round calls stores holds stamped Finds Looks Accepts Holds mid last round in
        let both = memory-both ms in_round had in
        let rest = of_polls calls stores holds stamped Finds round.polls.over
        ++ (of_looks calls stores holds stamped Finds Looks Accepts Holds round.polled mid round.looked last round.looks
        ++ (of_serves calls stores holds stamped round.serves.serves ++ (of_clients calls stores holds stamped Accepts Holds round.serves.gathers ++ of_serves calls stores holds stamped round.serves.again))) in
        let at_begin = (memory-both (of_begins calls stores holds stamped round.waited round.begun b) rest both.1).0 in
        let at_missed = (memory-both ns (of_news calls stores holds stamped b.news.is_news b.begun round.begun b.news.handed) at_begin).0 in
        let keeps = then_to {xs = ms} {ys = ns} {m = mind first.known first.host} {m' = mind mid.known mid.host} {m'' = mind mid.known b.first} {a = first.host} {b = mid.host} {c = b.first}
        (rounds_keep calls stores holds stamped Finds Looks Accepts Holds more)
        (then_ {xs = []} {ys = ns} {a = mid.host} {b = round.waited} {c = b.first} (asks calls round.waits)
        (then_ {xs = []} {ys = ns} {a = round.waited} {b = quiet} {c = b.first} (moved round.waited quiet refl refl refl)
        (missed calls stores holds stamped round.waited.is_refused quiet b.first b.missed)) mid.known) in
        let sp = keeps s0 last0 (memory-join ms ns both.0 at_missed) follows in
        let read = last_read_in last0 (all_of (lines_of (ms ++ ns) sp.parts)) in
        let received_all = lines-received (ms ++ ns) sp.parts sp.are_parts in
        let s = run (map machine_event (events_in sp.parts)) s0 in
        let f : Follows s read b.first = subst (λ (es : List Event). Follows (run es s0) read b.first) received_all sp.follows in
        let is_at : b.begun.at ≡ last_read read (Tick b.reads.shown) = ap (λ (q : RoundLauncher T E W). q.at) b.reads.read ∙ ap (λ l. last_read l (Tick b.reads.shown)) f.at in
        let kept : KeepsState b.begun.host.table s = subst (λ t. KeepsState t s) (sym (ap (λ (q : RoundLauncher T E W). q.host.table) b.reads.read)) f.keeps in
        let allowed : is_clock_refused s.reading b.begun.at ≡ false = subst (λ (q : Reading). is_clock_refused s.reading q ≡ false) (sym is_at) (allowed-on s.reading read b.reads.shown f.allowed) in
        record {
          parts = sp.parts;
          are_parts = sp.are_parts;
          all = sp.all ∙ ap (λ (es : List Event). outcomes es s0) received_all;
          kept = kept;
          led = f.led;
          starts = λ label t is_due. round_starts mid last round both.1 s kept f.led allowed label t is_due;
        }

    at_first : (header : Header) (told : Option (List ToldCall)) (stored : Option (List StoreCall)) (journal : JournalState) (before : T) (first : rounds.Left (RoundLauncher T E W)) →
        (new : IsNew header told stored journal (stands calls stores first.host.host) (holds before) (holds first.host.host.store)) → first.host.at ≡ first.host.host.table.reading →
        Follows new.machine new.machine.reading first.host
    at_first header told stored journal before first new at =
        let s0 = new.machine in
        let is : s0.reading ≡ header.reading = ap (λ (t : State). t.reading) new.opens.state in
        record {
          keeps = new.kept;
          led = new.led;
          at = at ∙ new.kept.reading;
          allowed = subst (λ (r : Reading). is_clock_refused r r ≡ false) (sym is) (in-range header.reading new.writable.is.up new.writable.is.wall);
        }

    pub rounds_start : (header : Header) (told : Option (List ToldCall)) (stored : Option (List StoreCall)) (journal : JournalState) (before : T) (first mid last : rounds.Left (RoundLauncher T E W)) →
        (new : IsNew header told stored journal (stands calls stores first.host.host) (holds before) (holds first.host.host.store)) → first.host.at ≡ first.host.host.table.reading →
        (more : rounds.AreRounds (launcher calls stores holds stamped Finds Looks Accepts Holds) first mid) (round : rounds.IsRound (launcher calls stores holds stamped Finds Looks Accepts Holds) mid last) →
        ReceivedReadings (marks_of calls stores holds stamped Finds Looks Accepts Holds (rounds.one_round more round)) →
        StartsAllDue new.machine (turns_before calls stores holds stamped Finds Looks Accepts Holds more round) round.begins.begun.host.table round.begins.begun.at
        (turns_in (of_round calls stores holds stamped Finds Looks Accepts Holds mid last round))
    rounds_start header told stored journal before first mid last new at more round had =
        from_there new.machine new.machine.reading first mid last (at_first header told stored journal before first new at) more round had

    pub waiting_starts : (header : Header) (told : Option (List ToldCall)) (stored : Option (List StoreCall)) (journal : JournalState) (before : T) (first from mid last : rounds.Left (RoundLauncher T E W)) →
        (new : IsNew header told stored journal (stands calls stores first.host.host) (holds before) (holds first.host.host.store)) → first.host.at ≡ first.host.host.table.reading →
        (more : rounds.AreRounds (launcher calls stores holds stamped Finds Looks Accepts Holds) first from) (meanwhile : rounds.AreRounds (launcher calls stores holds stamped Finds Looks Accepts Holds) from mid)
        (round : rounds.IsRound (launcher calls stores holds stamped Finds Looks Accepts Holds) mid last) →
        ReceivedReadings (marks_of calls stores holds stamped Finds Looks Accepts Holds more) → ReceivedReadings (marks_of calls stores holds stamped Finds Looks Accepts Holds (rounds.one_round meanwhile round)) →
        StartsWhatWaits new.machine (turns_in (marks_of calls stores holds stamped Finds Looks Accepts Holds more)) from.host.host.table
        (turns_before calls stores holds stamped Finds Looks Accepts Holds meanwhile round) round.begins.begun.at
        (turns_in (of_round calls stores holds stamped Finds Looks Accepts Holds mid last round))
    waiting_starts header told stored journal before first from mid last new at more meanwhile round had had' =
        let s0 = new.machine in
        let ms = marks_of calls stores holds stamped Finds Looks Accepts Holds more in
        let sp = rounds_keep calls stores holds stamped Finds Looks Accepts Holds more s0 s0.reading had (at_first header told stored journal before first new at) in
        let read = last_read_in s0.reading (all_of (lines_of ms sp.parts)) in
        let s = run (map machine_event (events_in sp.parts)) s0 in
        let f : Follows s read from.host = subst (λ (es : List Event). Follows (run es s0) read from.host) (lines-received ms sp.parts sp.are_parts) sp.follows in
        let d = from_there s read from mid last f meanwhile round had' in
        let es = map machine_event (events_in d.parts) in
        let in_round = turns_in (of_round calls stores holds stamped Finds Looks Accepts Holds mid last round) in
        record {
          parts = sp.parts;
          are_parts = sp.are_parts;
          kept = f.keeps;
          more = d.parts;
          are_more = d.are_parts;
          starts = λ label t is_due leave.
              started_by label t round.begins.begun.at in_round (run es s) (flat_map (λ (out : Outcome). out.orders) (outcomes_in d.parts)) (orders_in es s) (ap (flat_map (λ (out : Outcome). out.orders)) d.all)
              (not-put-off label round.begins.begun.at es s (good-of from.host.host.table s f.keeps f.led) f.led.orderly.order t is_due leave) (d.starts label);
        }
