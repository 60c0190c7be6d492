-- A pass may spare its launcher what it spares it: pass by pass.
use Rattle.history_model.specs.Step.{run}
use Rattle.loaded_jobs.specs.StandsFor.{KeepsState}
use Rattle.std.proofs.Common.{◌≡◌, inl, inr, ℕ, Bool, false, ◌||◌, List, [], ◌∷◌, Option, Some, None, refl, sym, ap, subst, ◌∙◌}
use Rattle.std.proofs.lemmas.List.{append-nil}
use Rattle.std.specs.Prelude.{Result, Ok, Err}
use Rattle.history_model.specs.declared.Ended.{Ended}
use Rattle.history_model.specs.declared.Obs.{Obs}
use Rattle.history_model.specs.declared.Reply.{Reply}
use Rattle.history_model.specs.declared.event.Event.TheVariants as journaled
use Rattle.history_model.specs.declared.event.JobItem.TheVariants as happens
use Rattle.history_model.specs.declared.event.Setting.{Setting}
use Rattle.ctl_protocol.specs.EventLines.{request_at}
use Rattle.child_edge.specs.Calls.{ToldCall}
use Rattle.child_edge.specs.declared.plain.EdgeFault.{EdgeFault}
use Rattle.outside.specs.Stores.{Stamp, StoreCall}
use Rattle.launcher.specs.Accepting.{is_accepted_load}
use Rattle.launcher.specs.Inputs.{asked_by, event_if_label, happened}
use Rattle.control_socket.specs.Serving.{Serves, nobody, one_more}
use Rattle.live_loop.specs.declared.loop_host.Delivered.{Delivered as Became}
use Rattle.live_loop.specs.declared.loop_host.Delivered.TheVariants as handed
use Rattle.live_loop.specs.Children as children
use Rattle.live_loop.specs.Looks as looks
use Rattle.live_loop.specs.Rounds as rounds
use Rattle.jobd.specs.declared.round_launcher.RoundLauncher.{RoundLauncher}
use Rattle.jobd.specs.Launches.{lent, AsksEdge, ListsNext, TellsEnd, PollsFrom, DoesPath, TakesClient, TellsCame, ComesIn, AnswersLine}
use Rattle.round_laws.specs.Marks.{Mark, Spared}
use Rattle.round_laws.proofs.SeenLemmas.{Mind, plain-asked, have-seen}
use Rattle.round_laws.specs.RoundMarks.{launcher, of_gives, of_tells, of_end, of_poll, of_polls, of_observation, of_walk, of_serves, of_client, of_clients, of_looks, of_round, marks_of}
use Rattle.round_laws.proofs.StepsLemmas.{no-clock, no-clock-asked, as_loaded, heeds, notes, of_job, heeded, forgot}
use Rattle.round_laws.proofs.SpansLemmas.{KeepsTo, mind, Keeps, then_to, then_, reminded, moved_to, nothing, nothing_to, same_to, same, asked, lent_on, asks}
use Rattle.round_laws.proofs.TurnQuietLemmas.{begins, gives_to, gives_loaded, tells}

module _ {T E W : Type 0} (calls : E → Option (List ToldCall)) (stores : T → Option (List StoreCall))
    (holds : T → List Setting → Type 0) (stamped : T → List Stamp → Type 0) where
  end : (label : List ℕ) (run : ℕ) (answer : Result (Option Ended) EdgeFault) (old new : RoundLauncher T E W) (t : TellsEnd calls stores holds stamped label run answer old new) →
      Keeps (of_end calls stores holds stamped label run answer old new t) old new
  end label run (Ok None) old new is = same is
  end label run (Ok (Some how)) old new t = tells calls stores holds stamped (event_if_label label (journaled.OfJob label (happens.Ended run how))) (of_job label (happens.Ended run how)) t.0 old new t.1
  end label run (Err fault) old new t = tells calls stores holds stamped (event_if_label label (journaled.OfJob label (happens.WaitRefused run))) (of_job label (happens.WaitRefused run)) t.0 old new t.1

  poll : (Finds : ℕ → Option (ℕ × ℕ) → E → E → Type 0) (first : ℕ) (job : Option ℕ) (old new : RoundLauncher T E W) (p : PollsFrom calls stores holds stamped Finds first job old new) →
      Keeps (of_poll calls stores holds stamped Finds first job old new p) old new
  poll Finds first None old new p = subst (λ (r : RoundLauncher T E W). Keeps [] old r) (sym p.3) (lent_on p.0 old)
  poll Finds first (Some job) old new p = let run = p.4 in
      then_ {xs = []} (lent_on run.edge old) (end run.label p.0 run.answer (lent run.edge (lent p.1 old)) new run.handed)

  polls : (Finds : ℕ → Option (ℕ × ℕ) → E → E → Type 0) {first : ℕ} {old : RoundLauncher T E W} {n next : ℕ} {new : RoundLauncher T E W} (p : children.Polls (PollsFrom calls stores holds stamped Finds) first old n next new) →
      Keeps (of_polls calls stores holds stamped Finds p) old new
  polls Finds {old = old} children.no_poll = nothing old
  polls Finds (children.one_more {next = next} {job = job} {mid = mid} {new = new} more polled) = then_ (polls Finds more) (poll Finds next (Some job) mid new polled)

  polls_all : (Finds : ℕ → Option (ℕ × ℕ) → E → E → Type 0) {first next : ℕ} {old new : RoundLauncher T E W} (p : children.PollsAll (PollsFrom calls stores holds stamped Finds) first old next new) →
      Keeps (of_polls calls stores holds stamped Finds p.over) old new
  polls_all Finds {old = old} {new = new} p = elim p.rest [
    | inl none ↦ subst (λ ms. Keeps ms old new) (append-nil (of_polls calls stores holds stamped Finds p.over)) (then_ {ys = []} (polls Finds p.over) (poll Finds p.behind None p.mid new none.0))
    | inr rest ↦ elim rest [
      | inl some ↦ subst (λ (r : RoundLauncher T E W). Keeps (of_polls calls stores holds stamped Finds p.over) old r) (sym some.1) (polls Finds p.over)
      | inr all ↦ subst (λ (r : RoundLauncher T E W). Keeps (of_polls calls stores holds stamped Finds p.over) old r) (sym all.1) (polls Finds p.over)
    ]
  ]

  spared_observation : (path : List ℕ) (obs : Obs) (old : RoundLauncher T E W) (known : looks.Known) (new : RoundLauncher T E W) (known' : looks.Known) → known path ≡ Some obs → new ≡ old → looks.IsKept known known' →
      KeepsTo (heeded known) (Spared (journaled.Saw path obs) ∷ []) old (heeded known') new
  spared_observation path obs old known new known' at is kept = λ s last had f. record {
    parts = [];
    are_parts = tt;
    all = refl;
    had = λ knows. (have-seen path obs s (knows refl path obs at), tt);
    knows = λ knows none other seen there. knows none other seen (sym (kept other) ∙ there);
    may = λ seen. (seen.0, tt);
    follows = record {
      keeps = subst (λ (r : RoundLauncher T E W). KeepsState r.host.table s) (sym is) f.keeps;
      led = f.led;
      at = ap (λ (r : RoundLauncher T E W). r.at) is ∙ f.at;
      allowed = f.allowed;
    };
  }

  observation : (Looks : List ℕ → Result Obs EdgeFault → E → E → Type 0) (path : List ℕ) (seen : Option Obs) (old : RoundLauncher T E W) (known : looks.Known) (new : RoundLauncher T E W) (known' : looks.Known)
      (t : looks.TakesIf (DoesPath calls stores holds stamped Looks) path seen old known new known') → KeepsTo (heeded known) (of_observation calls stores holds stamped Looks path seen old known new known' t) old (heeded known') new
  observation Looks path None old known new known' none = reminded (heeded known) (heeded known) (heeded known') (λ s knows none_loaded other seen there. knows none_loaded other seen (sym (none.1 other) ∙ there)) (same_to (heeded known) none.0)
  observation Looks path (Some obs) old known new known' (inl is) = spared_observation path obs old known new known' is.0 is.1 is.2
  observation Looks path (Some obs) old known new known' (inr differs) =
      gives_to calls stores holds stamped (Some (happened (journaled.Saw path obs))) (no-clock (Some (happened (journaled.Saw path obs))) refl) differs.1.0 differs.1.2.words old new differs.1.2.gives (heeded known) (heeded known')
      (notes T path obs differs.1.0 differs.1.1 known known' differs.2 false)

  -- a question about paths
  put : (m : Mind) (edge : E) (old new : RoundLauncher T E W) → new ≡ lent edge old → KeepsTo m [] old m new
  put m edge old new is = moved_to m m (λ s knows. knows) old new (ap (λ (r : RoundLauncher T E W). r.host.table) is) (ap (λ (r : RoundLauncher T E W). r.at) is)

  questions : (m : Mind) (Looks : List ℕ → Result Obs EdgeFault → E → E → Type 0) {first new : RoundLauncher T E W} → looks.Questions ListsNext (DoesPath calls stores holds stamped Looks) first new → KeepsTo m [] first m new
  questions m Looks {first = first} looks.no_question = nothing_to m first
  questions m Looks {first = first} (looks.ahead {mid = mid} {new = new} more put_in) = then_to {xs = []} {ys = []} {m = m} {m' = m} {m'' = m} {a = first} {b = mid} {c = new} (questions m Looks more) (put m put_in.0 mid new put_in.2)
  questions m Looks {first = first} (looks.awaits {mid = mid} {new = new} more put_in) = then_to {xs = []} {ys = []} {m = m} {m' = m} {m'' = m} {a = first} {b = mid} {c = new} (questions m Looks more) (put m put_in.0 mid new put_in.2)

  walk : (Looks : List ℕ → Result Obs EdgeFault → E → E → Type 0) {first : RoundLauncher T E W} {known : looks.Known} {from : List ℕ} {n : ℕ} {path : List ℕ} {new : RoundLauncher T E W} {known' : looks.Known}
      (w : looks.Walks ListsNext (DoesPath calls stores holds stamped Looks) first known from n path new known') → KeepsTo (heeded known) (of_walk calls stores holds stamped Looks w) first (heeded known') new
  walk Looks {first = first} {known = known} looks.no_look = nothing_to (heeded known) first
  walk Looks {first = first} {known = known} (looks.asked {mid = mid} {new = new} {after = after} more asked_on) = subst (λ ms. KeepsTo (heeded known) ms first (heeded after) new) (append-nil (of_walk calls stores holds stamped Looks more))
      (then_to {ys = []} {m = heeded known} {m' = heeded after} {m'' = heeded after} {a = first} {b = mid} {c = new} (walk Looks more) (questions (heeded after) Looks asked_on))
  walk Looks {first = first} {known = known} (looks.one_more {next = next} {mid = mid} {seen = seen} {new = new} {before = before} {after = after} more is waits it) =
      then_to {m = heeded known} {m' = heeded before} {m'' = heeded after} {a = first} {b = mid} {c = new} (walk Looks more)
      (then_to {xs = []} {m = heeded before} {m' = heeded before} {m'' = heeded after} {a = mid} {b = seen} {c = new} (put (heeded before) waits.0 mid seen waits.2)
      (then_to {xs = []} {m = heeded before} {m' = heeded before} {m'' = heeded after} {a = seen} {b = it.mid} {c = new} (put (heeded before) it.looked.1 seen it.mid it.looked.5)
      (observation Looks next it.seen it.mid before new after it.taken)))

  -- a load that was accepted is noted
  answered : (line : List ℕ) (reply : Reply) (old new : RoundLauncher T E W) (answers : AnswersLine calls stores holds stamped line reply old new) →
      Keeps (of_gives calls stores holds stamped (asked_by line) reply.refusal reply.text old answers.mid answers.gives) old new
  answered line reply old new answers = λ known.
      let event = asked_by line in
      let received = old.has_loaded || is_accepted_load event reply.refusal in
      let m' : Mind = record { known = known; loaded = received } in
      let marks = of_gives calls stores holds stamped event reply.refusal reply.text old answers.mid answers.gives in
      let noted : new.has_loaded ≡ received =
      ap (λ (r : RoundLauncher T E W). r.has_loaded) answers.noted ∙ (λ i. gives_loaded calls stores holds stamped event reply.refusal reply.text old answers.mid answers.gives i || answers.gives.received.turn.loaded i) in
      subst (λ ms. KeepsTo (mind known old) ms old (mind known new) new) (append-nil marks)
      (then_to {xs = marks} {ys = []} {m = mind known old} {m' = m'} {m'' = mind known new} {a = old} {b = answers.mid} {c = new}
      (gives_to calls stores holds stamped event (no-clock-asked (request_at line)) reply.refusal reply.text old answers.mid answers.gives (mind known old) m' (heeds T event reply.refusal (plain-asked (request_at line)) known old.has_loaded))
      (moved_to m' (mind known new) (as_loaded known received new.has_loaded noted) answers.mid new (ap (λ (r : RoundLauncher T E W). r.host.table) answers.noted) (ap (λ (r : RoundLauncher T E W). r.at) answers.noted)))

  serves : {old new : RoundLauncher T E W} (s : Serves (AnswersLine calls stores holds stamped) old new) → Keeps (of_serves calls stores holds stamped s) old new
  serves {old = old} nobody = nothing old
  serves (one_more {line = line} {reply = reply} {mid = mid} {new = new} more answers) = then_ (serves more) (answered line reply mid new answers)

  client_on : (label : List ℕ) (job conn : ℕ) (answer : Became) (old new : RoundLauncher T E W) (t : TellsCame calls stores holds stamped label job conn answer old new) →
      Keeps (of_client calls stores holds stamped label job conn answer old new t) old new
  client_on label job conn handed.Dropped old new is = same is
  client_on label job conn handed.Received old new t = tells calls stores holds stamped (event_if_label label (journaled.OfJob label (happens.Came conn))) (of_job label (happens.Came conn)) None old new t
  client_on label job conn (handed.Refused refusal) old new came =
      let received = tells calls stores holds stamped (event_if_label label (journaled.OfJob label (happens.Came conn))) (of_job label (happens.Came conn)) (Some refusal) old came.0 came.2 in
      subst (λ (r : RoundLauncher T E W). Keeps (of_tells calls stores holds stamped (event_if_label label (journaled.OfJob label (happens.Came conn))) (Some refusal) old came.0 came.2) old r) (sym came.4)
      (subst (λ ms. Keeps ms old (lent came.1 came.0)) (append-nil (of_tells calls stores holds stamped (event_if_label label (journaled.OfJob label (happens.Came conn))) (Some refusal) old came.0 came.2))
      (then_ {ys = []} received (lent_on came.1 came.0)))

  took : (Accepts : ℕ → E → E → Type 0) {job : ℕ} {old mid new : RoundLauncher T E W} → TakesClient calls Accepts job old mid → rounds.Asks (AsksEdge calls) mid new → Keeps [] old new
  took Accepts {old = old} {mid = mid} takes a = then_ {xs = []} {ys = []} (subst (λ (r : RoundLauncher T E W). Keeps [] old r) (sym takes.3) (lent_on takes.0 old)) (asks calls a)

  clients : (Accepts : ℕ → E → E → Type 0) (Holds : ℕ → ℕ → List ℕ → Bool → E → E → Type 0) {desk : rounds.Desk} {old : RoundLauncher T E W} {desk' : rounds.Desk} {new : RoundLauncher T E W}
      (g : rounds.Gathers (AsksEdge calls) (TakesClient calls Accepts) (ComesIn calls stores holds stamped Holds) desk old desk' new) → Keeps (of_clients calls stores holds stamped Accepts Holds g) old new
  clients Accepts Holds {old = old} rounds.nobody = nothing old
  clients Accepts Holds {old = old} (rounds.asked {new = new} more a) = subst (λ ms. Keeps ms old new) (append-nil (of_clients calls stores holds stamped Accepts Holds more)) (then_ {ys = []} (clients Accepts Holds more) (asked calls a))
  clients Accepts Holds {old = old} (rounds.taken {new = new} more t w a) = subst (λ ms. Keeps ms old new) (append-nil (of_clients calls stores holds stamped Accepts Holds more)) (then_ {ys = []} (clients Accepts Holds more) (took Accepts t a))
  clients Accepts Holds (rounds.received more grows) = clients Accepts Holds more
  clients Accepts Holds (rounds.went more gone) = clients Accepts Holds more
  clients Accepts Holds (rounds.came {client = client} {answer = answer} {desk = desk} {mid = mid} {new = new} more is set comes) =
      then_ (clients Accepts Holds more) (then_ {xs = []} (lent_on comes.edge mid) (client_on comes.label client.origin.job desk.conn answer (lent comes.edge mid) new comes.handed))

  ended : {marks : List (Mark T)} {a : RoundLauncher T E W} (b c d : RoundLauncher T E W) → Keeps marks a b → rounds.Asks (AsksEdge calls) b c → rounds.Asks (AsksEdge calls) c d → Keeps marks a d
  ended {marks} {a} b c d goes first second = subst (λ ms. Keeps ms a d) (append-nil marks) (then_ {ys = []} goes (then_ {xs = []} {ys = []} (asks calls first) (asks calls second)))

  module _ (Finds : ℕ → Option (ℕ × ℕ) → E → E → Type 0) (Looks : List ℕ → Result Obs EdgeFault → E → E → Type 0)
      (Accepts : ℕ → E → E → Type 0) (Holds : ℕ → ℕ → List ℕ → Bool → E → E → Type 0) where
    looks_start : (at : Option (List ℕ)) (old : RoundLauncher T E W) (from : List ℕ) (started : RoundLauncher T E W) → looks.Starts ListsNext (DoesPath calls stores holds stamped Looks) at old from started → Keeps [] old started
    looks_start (Some path) old from started b = same b.1
    looks_start None old from started b = subst (λ (r : RoundLauncher T E W). Keeps [] old r) (sym b.1.2) (lent_on b.1.0 old)

    looks_begin : (at : Option (List ℕ)) (old : RoundLauncher T E W) (known : looks.Known) (from : List ℕ) (first : RoundLauncher T E W) (begun : looks.Known) →
        looks.Begins ListsNext (DoesPath calls stores holds stamped Looks) at old known from first begun → KeepsTo (mind known old) [] old (heeded begun) first
    looks_begin at old known from first begun b =
        then_to {xs = []} {ys = []} {m = mind known old} {m' = mind known b.started} {m'' = heeded begun} {a = old} {b = b.started} {c = first} (looks_start at old from b.started b.starts known)
        (moved_to (mind known b.started) (heeded begun) (forgot b.loaded b.started.has_loaded known begun b.asks.0 b.forgets) b.started first
        (ap (λ (r : RoundLauncher T E W). r.host.table) b.asks.1) (ap (λ (r : RoundLauncher T E W). r.at) b.asks.1))

    looks_all : (polled : RoundLauncher T E W) (old : rounds.Left (RoundLauncher T E W)) (looked : RoundLauncher T E W) (new : rounds.Left (RoundLauncher T E W)) (s : rounds.Sees (launcher calls stores holds stamped Finds Looks Accepts Holds) polled old looked new) →
        KeepsTo (mind old.known polled) (of_looks calls stores holds stamped Finds Looks Accepts Holds polled old looked new s) polled (mind new.known looked) looked
    looks_all polled old looked new (inl early) = reminded (mind old.known polled) (mind old.known looked) (mind new.known looked) (λ s knows none path obs there. knows none path obs (sym (early.5 path) ∙ there)) (same early.1 old.known)
    looks_all polled old looked new (inr due) =
        let all = due.3 in
        let m = mind old.known polled in
        let m' = heeded all.begun in
        let m'' = heeded new.known in
        reminded m m'' (mind new.known looked) (λ s knows none. knows refl)
        (then_to {xs = []} {m = m} {m' = m'} {m'' = m''} {a = polled} {b = all.first} {c = looked} (looks_begin old.walk polled old.known all.from all.first all.begun all.begins)
        (then_to {xs = []} {m = m'} {m' = m'} {m'' = m''} {a = all.first} {b = all.mid} {c = looked} (questions m' Looks all.asks) (walk Looks all.walks.walk)))

    round : (old new : rounds.Left (RoundLauncher T E W)) (r : rounds.IsRound (launcher calls stores holds stamped Finds Looks Accepts Holds) old new) →
        KeepsTo (mind old.known old.host) (of_round calls stores holds stamped Finds Looks Accepts Holds old new r) old.host (mind new.known new.host) new.host
    round old new r =
        let begun = then_ {xs = []} {a = old.host} {b = r.waited} {c = r.begun} (asks calls r.waits) (begins calls stores holds stamped r.waited r.begun r.begins) in
        let served = then_ {a = r.looked} {b = r.serves.first} {c = new.host} (serves r.serves.serves)
        (then_ {a = r.serves.first} {b = r.serves.mid} {c = new.host} (clients Accepts Holds r.serves.gathers) (ended r.serves.last r.served new.host (serves r.serves.again) r.serves.asks r.tells)) in
        then_to {m = mind old.known old.host} {m' = mind old.known r.begun} {m'' = mind new.known new.host} {a = old.host} {b = r.begun} {c = new.host} (begun old.known)
        (then_to {m = mind old.known r.begun} {m' = mind old.known r.polled} {m'' = mind new.known new.host} {a = r.begun} {b = r.polled} {c = new.host} (polls_all Finds r.polls old.known)
        (then_to {m = mind old.known r.polled} {m' = mind new.known r.looked} {m'' = mind new.known new.host} {a = r.polled} {b = r.looked} {c = new.host} (looks_all r.polled old r.looked new r.looks) (served new.known)))

    pub rounds_keep : {first last : rounds.Left (RoundLauncher T E W)} (rs : rounds.AreRounds (launcher calls stores holds stamped Finds Looks Accepts Holds) first last) →
        KeepsTo (mind first.known first.host) (marks_of calls stores holds stamped Finds Looks Accepts Holds rs) first.host (mind last.known last.host) last.host
    rounds_keep {first = first} rounds.no_round = nothing_to (mind first.known first.host) first.host
    rounds_keep {first = first} (rounds.one_round {mid = mid} {new = new} more r) =
        then_to {m = mind first.known first.host} {m' = mind mid.known mid.host} {m'' = mind new.known new.host} {a = first.host} {b = mid.host} {c = new.host} (rounds_keep more) (round mid new r)
