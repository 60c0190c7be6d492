-- What passes do to a launcher is a list of turns, between which only the edge was asked.
use Rattle.std.proofs.Common.{◌≡◌, inl, inr, ℕ, Bool, true, false, List, [], ◌∷◌, ◌++◌, Option, Some, None, refl, sym, ap, subst, ◌∙◌}
use Rattle.std.proofs.lemmas.List.{append-nil}
use Rattle.std.specs.Prelude.{Result, Ok, Err}
use Rattle.history_model.specs.declared.Ended.{Ended}
use Rattle.history_model.specs.declared.Obs.{Obs}
use Rattle.history_model.specs.declared.Refusal.{Refusal}
use Rattle.history_model.specs.declared.event.Event as journal
use Rattle.history_model.specs.declared.event.Event.TheVariants as journaled
use Rattle.history_model.specs.declared.event.JobItem.TheVariants as happens
use Rattle.history_model.specs.declared.event.Setting.{Setting}
use Rattle.child_edge.specs.Calls.{ToldCall}
use Rattle.child_edge.specs.declared.plain.EdgeFault.{EdgeFault}
use Rattle.outside.specs.Stores.{Stamp, StoreCall}
use Rattle.launcher.specs.declared.journal.Phase.{Phase}
use Rattle.launcher.specs.declared.journal_writer.Cause.{Cause}
use Rattle.launcher.specs.declared.journal.Phase.TheVariants.{Open, Closed, Reported}
use Rattle.launcher.specs.Journals.{reported}
use Rattle.launcher.specs.Inputs.{Incoming, asked_by, event_if_label, happened}
use Rattle.launcher_laws.specs.TurnRuns.{Snapshot, IsBetween, AreTurns}
use Rattle.control_socket.specs.Serving.{Serves, nobody, one_more}
use Rattle.live_loop.specs.declared.loop_host.Delivered.{Delivered}
use Rattle.live_loop.specs.declared.loop_host.Delivered.TheVariants as handed
use Rattle.live_loop.specs.Children as children
use Rattle.live_loop.specs.Looks as looks
use Rattle.live_loop.specs.Rounds as rounds
use Rattle.jobd.specs.declared.round_launcher.RoundLauncher.{RoundLauncher}
use Rattle.jobd.specs.Launches.{lent, AsksEdge, ListsNext, Received, ReceivedReading, Reads, ReadsIf, ReadsClock, ReceivedIf, Begins, Gives, Tells, TellsEnd, PollsFrom, DoesPath, TakesClient, TellsCame, ComesIn, AnswersLine}
use Rattle.round_laws.specs.Marks.{Mark, Turned, Spared, turns_in, snapshot, turned}
use Rattle.round_laws.specs.RoundMarks.{launcher, of_reading, of_reads, of_missed, of_news, of_begins, of_gives, of_tells, of_end, of_poll, of_polls, of_observation, of_walk, of_serves, of_client, of_clients, of_looks, of_round, marks_of}

reported_twice : (has : Bool) (bytes : Option (List ℕ)) (cause : Option Cause) (p : Phase) →
    reported (reported (record { has_writer = has; bytes = bytes; cause = cause; phase = p })) ≡ reported (record { has_writer = has; bytes = bytes; cause = cause; phase = p })
reported_twice has bytes cause Open = refl
reported_twice has bytes cause Closed = refl
reported_twice has bytes cause Reported = refl

module _ {T : Type 0} where
  still : (s : Snapshot T) → IsBetween s s
  still s = record { table = refl; store = refl; journal = inl refl }

  between : (a b c : Snapshot T) → IsBetween a b → IsBetween b c → IsBetween a c
  between a b c first second = record {
    table = second.table ∙ first.table;
    store = second.store ∙ first.store;
    journal = elim first.journal [
      | inl same ↦ elim second.journal [
        | inl same' ↦ inl (same' ∙ same)
        | inr told' ↦ inr (told' ∙ ap reported same)
      ]
      | inr told ↦ elim second.journal [
        | inl same' ↦ inr (same' ∙ told)
        | inr told' ↦ inr (told' ∙ ap reported told ∙ reported_twice a.stands.journal.has_writer a.stands.journal.bytes a.stands.journal.cause a.stands.journal.phase)
      ]
    ];
  }

  module _ (holds : T → List Setting → Type 0) where
    later : (marks : List (Mark T)) (a b c : Snapshot T) → IsBetween a b → AreTurns holds b (turns_in marks) c → AreTurns holds a (turns_in marks) c
    later [] a b c first goes = between a b c first goes
    later (Turned turn ∷ marks) a b c first goes = (between a b turn.before first goes.0, goes.1, goes.2)
    later (Spared event ∷ marks) a b c first goes = later marks a b c first goes

    both : (xs ys : List (Mark T)) (a b c : Snapshot T) → AreTurns holds a (turns_in xs) b → AreTurns holds b (turns_in ys) c → AreTurns holds a (turns_in (xs ++ ys)) c
    both [] ys a b c first second = later ys a b c first second
    both (Turned turn ∷ xs) ys a b c first second = (first.0, first.1, both xs ys turn.after b c first.2 second)
    both (Spared event ∷ xs) ys a b c first second = both xs ys a b c first second

module _ {T E W : Type 0} (calls : E → Option (List ToldCall)) (stores : T → Option (List StoreCall))
    (holds : T → List Setting → Type 0) (stamped : T → List Stamp → Type 0) where
  -- the turns of these marks lead from the one to the other
  pub record Goes (marks : List (Mark T)) (old new : RoundLauncher T E W) : Type 0 where
    pub are : AreTurns holds (snapshot calls stores old.host) (turns_in marks) (snapshot calls stores new.host)

  nothing : (r : RoundLauncher T E W) → Goes [] r r
  nothing r = record { are = still (snapshot calls stores r.host) }

  then_ : {xs ys : List (Mark T)} {a b c : RoundLauncher T E W} → Goes xs a b → Goes ys b c → Goes (xs ++ ys) a c
  then_ {xs} {ys} {a} {b} {c} f g = record { are = both holds xs ys (snapshot calls stores a.host) (snapshot calls stores b.host) (snapshot calls stores c.host) f.are g.are }

  same : {old new : RoundLauncher T E W} → new ≡ old → Goes [] old new
  same {old} {new} is = subst (λ r. Goes [] old r) (sym is) (nothing old)

  pub one_turn : (event : Option Incoming) (refusal : Option Refusal) (words : List ℕ) (old new : RoundLauncher T E W) →
      Received calls stores holds stamped event refusal words old.host new.host → Goes (turned calls stores event refusal words old.host new.host ∷ []) old new
  one_turn event refusal words old new received =
      record { are = (still (snapshot calls stores old.host), (received.turn.receives, received.writable), still (snapshot calls stores new.host)) }

  asked : {old new : RoundLauncher T E W} → AsksEdge calls old new → Goes [] old new
  asked {old} {new} (inl edge) = subst (λ (r : RoundLauncher T E W). Goes [] old r) (sym edge.2) (record { are = record { table = refl; store = refl; journal = inl refl } })
  asked {old} {new} (inr told) = subst (λ (r : RoundLauncher T E W). Goes [] old r) (sym told.2) (record { are = record { table = refl; store = refl; journal = inr refl } })

  lent_on : (edge : E) (old : RoundLauncher T E W) → Goes [] old (lent edge old)
  lent_on edge old = record { are = record { table = refl; store = refl; journal = inl refl } }

  asks : {old new : RoundLauncher T E W} → rounds.Asks (AsksEdge calls) old new → Goes [] old new
  asks {old} rounds.nothing = nothing old
  asks (rounds.further more a) = then_ {xs = []} {ys = []} (asks more) (asked a)

  reading : (old new : RoundLauncher T E W) (received : ReceivedReading calls stores holds stamped old new) → Goes (of_reading calls stores holds stamped old new received) old new
  reading old new received = one_turn (Some (happened (journaled.Clock old.at))) received.refusal received.words old new received.received

  reads : (old new : RoundLauncher T E W) (r : Reads calls stores holds stamped old new) → Goes (of_reads calls stores holds stamped old new r) old new
  reads old new (inl own) = same own.1
  reads old new (inr moved) = reading old new moved.1

  missed : (b : Bool) (old new : RoundLauncher T E W) (r : ReadsIf calls stores holds stamped b old new) → Goes (of_missed calls stores holds stamped b old new r) old new
  missed true old new r = reads old new r
  missed false old new is = same is

  news : (b : Bool) (old new : RoundLauncher T E W) (r : ReceivedIf calls stores holds stamped b old new) → Goes (of_news calls stores holds stamped b old new r) old new
  news true old new received = reading old new received
  news false old new is = record { are = (same is).are }

  clock : (old new : RoundLauncher T E W) → ReadsClock calls stores holds stamped old new → Goes [] old new
  clock old new r = subst (λ (x : RoundLauncher T E W). Goes [] old x) (sym r.read) (record { are = record { table = refl; store = refl; journal = inl refl } })

  begins : (old new : RoundLauncher T E W) (b : Begins calls stores holds stamped old new) → Goes (of_begins calls stores holds stamped old new b) old new
  begins old new b =
      record {
        are = (then_ {a = record old { is_active = false }} {b = b.first} {c = new} (missed old.is_refused (record old { is_active = false }) b.first b.missed)
            (then_ {xs = []} {b = b.begun} (clock b.first b.begun b.reads) (news b.news.is_news b.begun new b.news.handed))).are;
      }

  gives : (event : Option Incoming) (refusal : Option Refusal) (words : List ℕ) (old new : RoundLauncher T E W) (g : Gives calls stores holds stamped event refusal words old new) →
      Goes (of_gives calls stores holds stamped event refusal words old new g) old new
  gives event refusal words old new g = then_ {b = g.mid} (reads old g.mid g.reading) (one_turn event refusal words g.mid new g.received)

  tells : (event : Option Incoming) (refusal : Option Refusal) (old new : RoundLauncher T E W) (t : Tells calls stores holds stamped event refusal old new) →
      Goes (of_tells calls stores holds stamped event refusal old new t) old new
  tells event refusal old new t = gives event refusal t.words old new t.gives

  end : (label : List ℕ) (run : ℕ) (answer : Result (Option Ended) EdgeFault) (old new : RoundLauncher T E W) (t : TellsEnd calls stores holds stamped label run answer old new) →
      Goes (of_end calls stores holds stamped label run answer old new t) old new
  end label run (Ok None) old new is = same is
  end label run (Ok (Some how)) old new t = tells (event_if_label label (journaled.OfJob label (happens.Ended run how))) t.0 old new t.1
  end label run (Err fault) old new t = tells (event_if_label label (journaled.OfJob label (happens.WaitRefused run))) t.0 old new t.1

  poll : (Finds : ℕ → Option (ℕ × ℕ) → E → E → Type 0) (first : ℕ) (job : Option ℕ) (old new : RoundLauncher T E W) (p : PollsFrom calls stores holds stamped Finds first job old new) →
      Goes (of_poll calls stores holds stamped Finds first job old new p) old new
  poll Finds first None old new p = subst (λ (r : RoundLauncher T E W). Goes [] old r) (sym p.3) (lent_on p.0 old)
  poll Finds first (Some job) old new p = let run = p.4 in
      then_ {xs = []} (lent_on run.edge old) (end run.label p.0 run.answer (lent run.edge (lent p.1 old)) new run.handed)

  polls : (Finds : ℕ → Option (ℕ × ℕ) → E → E → Type 0) {first : ℕ} {old : RoundLauncher T E W} {n next : ℕ} {new : RoundLauncher T E W} (p : children.Polls (PollsFrom calls stores holds stamped Finds) first old n next new) →
      Goes (of_polls calls stores holds stamped Finds p) old new
  polls Finds {old = old} children.no_poll = nothing old
  polls Finds (children.one_more {next = next} {job = job} {mid = mid} {new = new} more polled) = then_ (polls Finds more) (poll Finds next (Some job) mid new polled)

  polls_all : (Finds : ℕ → Option (ℕ × ℕ) → E → E → Type 0) {first next : ℕ} {old new : RoundLauncher T E W} (p : children.PollsAll (PollsFrom calls stores holds stamped Finds) first old next new) →
      Goes (of_polls calls stores holds stamped Finds p.over) old new
  polls_all Finds {old = old} {new = new} p = elim p.rest [
    | inl none ↦ subst (λ ms. Goes ms old new) (append-nil (of_polls calls stores holds stamped Finds p.over)) (then_ {ys = []} (polls Finds p.over) (poll Finds p.behind None p.mid new none.0))
    | inr rest ↦ elim rest [
      | inl some ↦ subst (λ (r : RoundLauncher T E W). Goes (of_polls calls stores holds stamped Finds p.over) old r) (sym some.1) (polls Finds p.over)
      | inr all ↦ subst (λ (r : RoundLauncher T E W). Goes (of_polls calls stores holds stamped Finds p.over) old r) (sym all.1) (polls Finds p.over)
    ]
  ]

  observation : (Looks : List ℕ → Result Obs EdgeFault → E → E → Type 0) (path : List ℕ) (seen : Option Obs) (old : RoundLauncher T E W) (known : looks.Known) (new : RoundLauncher T E W) (known' : looks.Known)
      (t : looks.TakesIf (DoesPath calls stores holds stamped Looks) path seen old known new known') → Goes (of_observation calls stores holds stamped Looks path seen old known new known' t) old new
  observation Looks path None old known new known' none = same none.0
  observation Looks path (Some obs) old known new known' (inl is) = record { are = (same is.1).are }
  observation Looks path (Some obs) old known new known' (inr differs) = tells (Some (happened (journaled.Saw path obs))) differs.1.0 old new differs.1.2

  -- a question about paths
  put : (edge : E) (old new : RoundLauncher T E W) → new ≡ lent edge old → Goes [] old new
  put edge old new is = subst (λ (r : RoundLauncher T E W). Goes [] old r) (sym is) (lent_on edge old)

  questions : (Looks : List ℕ → Result Obs EdgeFault → E → E → Type 0) {first new : RoundLauncher T E W} → looks.Questions ListsNext (DoesPath calls stores holds stamped Looks) first new → Goes [] first new
  questions Looks {first = first} looks.no_question = nothing first
  questions Looks (looks.ahead {mid = mid} {new = new} more put_in) = then_ {xs = []} {ys = []} (questions Looks more) (put put_in.0 mid new put_in.2)
  questions Looks (looks.awaits {mid = mid} {new = new} more put_in) = then_ {xs = []} {ys = []} (questions Looks more) (put put_in.0 mid new put_in.2)

  walk : (Looks : List ℕ → Result Obs EdgeFault → E → E → Type 0) {first : RoundLauncher T E W} {known : looks.Known} {from : List ℕ} {n : ℕ} {path : List ℕ} {new : RoundLauncher T E W} {known' : looks.Known}
      (w : looks.Walks ListsNext (DoesPath calls stores holds stamped Looks) first known from n path new known') → Goes (of_walk calls stores holds stamped Looks w) first new
  walk Looks {first = first} looks.no_look = nothing first
  walk Looks {first = first} (looks.asked {new = new} more asked_on) = subst (λ ms. Goes ms first new) (append-nil (of_walk calls stores holds stamped Looks more)) (then_ {ys = []} (walk Looks more) (questions Looks asked_on))
  walk Looks (looks.one_more {next = next} {mid = mid} {seen = seen} {new = new} {before = before} {after = after} more is waits it) =
      then_ (walk Looks more) (then_ {xs = []} (put waits.0 mid seen waits.2) (then_ {xs = []} (put it.looked.1 seen it.mid it.looked.5)
      (observation Looks next it.seen it.mid before new after it.taken)))

  serves : {old new : RoundLauncher T E W} (s : Serves (AnswersLine calls stores holds stamped) old new) → Goes (of_serves calls stores holds stamped s) old new
  serves {old = old} nobody = nothing old
  serves (one_more {line = line} {reply = reply} {mid = mid} {new = new} more answers) = then_ (serves more)
      (let marks = of_gives calls stores holds stamped (asked_by line) reply.refusal reply.text mid answers.mid answers.gives in
      let given : Goes (marks ++ []) mid (lent answers.edge answers.mid) = then_ {ys = []} (gives (asked_by line) reply.refusal reply.text mid answers.mid answers.gives) (lent_on answers.edge answers.mid) in
      let received : Goes marks mid (lent answers.edge answers.mid) = subst (λ ms. Goes ms mid (lent answers.edge answers.mid)) (append-nil marks) given in
      subst (λ (r : RoundLauncher T E W). Goes marks mid r) (sym answers.noted) (record { are = received.are }))

  client_on : (label : List ℕ) (job conn : ℕ) (answer : Delivered) (old new : RoundLauncher T E W) (t : TellsCame calls stores holds stamped label job conn answer old new) →
      Goes (of_client calls stores holds stamped label job conn answer old new t) old new
  client_on label job conn handed.Dropped old new is = same is
  client_on label job conn handed.Received old new t = tells (event_if_label label (journaled.OfJob label (happens.Came conn))) None old new t
  client_on label job conn (handed.Refused refusal) old new came =
      let received = tells (event_if_label label (journaled.OfJob label (happens.Came conn))) (Some refusal) old came.0 came.2 in
      subst (λ (r : RoundLauncher T E W). Goes (of_tells calls stores holds stamped (event_if_label label (journaled.OfJob label (happens.Came conn))) (Some refusal) old came.0 came.2) old r) (sym came.4)
      (subst (λ ms. Goes ms old (lent came.1 came.0)) (append-nil (of_tells calls stores holds stamped (event_if_label label (journaled.OfJob label (happens.Came conn))) (Some refusal) old came.0 came.2))
      (then_ {ys = []} received (lent_on came.1 came.0)))

  took : (Accepts : ℕ → E → E → Type 0) {job : ℕ} {old mid new : RoundLauncher T E W} → TakesClient calls Accepts job old mid → rounds.Asks (AsksEdge calls) mid new → Goes [] old new
  took Accepts {old = old} {mid = mid} takes a = then_ {xs = []} {ys = []} (subst (λ (r : RoundLauncher T E W). Goes [] old r) (sym takes.3) (lent_on takes.0 old)) (asks a)

  clients : (Accepts : ℕ → E → E → Type 0) (Holds : ℕ → ℕ → List ℕ → Bool → E → E → Type 0) {desk : rounds.Desk} {old : RoundLauncher T E W} {desk' : rounds.Desk} {new : RoundLauncher T E W}
      (g : rounds.Gathers (AsksEdge calls) (TakesClient calls Accepts) (ComesIn calls stores holds stamped Holds) desk old desk' new) → Goes (of_clients calls stores holds stamped Accepts Holds g) old new
  clients Accepts Holds {old = old} rounds.nobody = nothing old
  clients Accepts Holds {old = old} (rounds.asked {new = new} more a) = subst (λ ms. Goes ms old new) (append-nil (of_clients calls stores holds stamped Accepts Holds more)) (then_ {ys = []} (clients Accepts Holds more) (asked a))
  clients Accepts Holds {old = old} (rounds.taken {new = new} more t w a) = subst (λ ms. Goes ms old new) (append-nil (of_clients calls stores holds stamped Accepts Holds more)) (then_ {ys = []} (clients Accepts Holds more) (took Accepts t a))
  clients Accepts Holds (rounds.received more grows) = clients Accepts Holds more
  clients Accepts Holds (rounds.went more gone) = clients Accepts Holds more
  clients Accepts Holds (rounds.came {client = client} {answer = answer} {desk = desk} {mid = mid} {new = new} more is set comes) =
      then_ (clients Accepts Holds more) (then_ {xs = []} (lent_on comes.edge mid) (client_on comes.label client.origin.job desk.conn answer (lent comes.edge mid) new comes.handed))

  ended : {marks : List (Mark T)} {a : RoundLauncher T E W} (b c d : RoundLauncher T E W) → Goes marks a b → rounds.Asks (AsksEdge calls) b c → rounds.Asks (AsksEdge calls) c d → Goes marks a d
  ended {marks} {a} b c d goes first second = subst (λ ms. Goes ms a d) (append-nil marks) (then_ {ys = []} goes (then_ {xs = []} {ys = []} (asks first) (asks second)))

  module _ (Finds : ℕ → Option (ℕ × ℕ) → E → E → Type 0) (Looks : List ℕ → Result Obs EdgeFault → E → E → Type 0)
      (Accepts : ℕ → E → E → Type 0) (Holds : ℕ → ℕ → List ℕ → Bool → E → E → Type 0) where
    looks_start : (at : Option (List ℕ)) (old : RoundLauncher T E W) (from : List ℕ) (started : RoundLauncher T E W) → looks.Starts ListsNext (DoesPath calls stores holds stamped Looks) at old from started → Goes [] old started
    looks_start (Some path) old from started b = same b.1
    looks_start None old from started b = put b.1.0 old started b.1.2

    looks_begin : (at : Option (List ℕ)) (old : RoundLauncher T E W) (known : looks.Known) (from : List ℕ) (first : RoundLauncher T E W) (begun : looks.Known) →
        looks.Begins ListsNext (DoesPath calls stores holds stamped Looks) at old known from first begun → Goes [] old first
    looks_begin at old known from first begun b =
        then_ {xs = []} {ys = []} (looks_start at old from b.started b.starts)
        (subst (λ (r : RoundLauncher T E W). Goes [] b.started r) (sym b.asks.1) (record { are = record { table = refl; store = refl; journal = inl refl } }))

    looks_all : (polled : RoundLauncher T E W) (old : rounds.Left (RoundLauncher T E W)) (looked : RoundLauncher T E W) (new : rounds.Left (RoundLauncher T E W)) (s : rounds.Sees (launcher calls stores holds stamped Finds Looks Accepts Holds) polled old looked new) →
        Goes (of_looks calls stores holds stamped Finds Looks Accepts Holds polled old looked new s) polled looked
    looks_all polled old looked new (inl early) = same early.1
    looks_all polled old looked new (inr due) = let all = due.3 in
        then_ {xs = []} (looks_begin old.walk polled old.known all.from all.first all.begun all.begins) (then_ {xs = []} (questions Looks all.asks) (walk Looks all.walks.walk))

    round : (old new : rounds.Left (RoundLauncher T E W)) (r : rounds.IsRound (launcher calls stores holds stamped Finds Looks Accepts Holds) old new) → Goes (of_round calls stores holds stamped Finds Looks Accepts Holds old new r) old.host new.host
    round old new r =
        then_ {xs = []} {b = r.waited} (asks r.waits)
        (then_ {b = r.begun} (begins r.waited r.begun r.begins)
        (then_ {b = r.polled} (polls_all Finds r.polls)
        (then_ {b = r.looked} (looks_all r.polled old r.looked new r.looks)
        (then_ {b = r.serves.first} (serves r.serves.serves)
        (then_ {b = r.serves.mid} (clients Accepts Holds r.serves.gathers) (ended r.serves.last r.served new.host (serves r.serves.again) r.serves.asks r.tells))))))

    pub rounds_go : {first last : rounds.Left (RoundLauncher T E W)} (rs : rounds.AreRounds (launcher calls stores holds stamped Finds Looks Accepts Holds) first last) → Goes (marks_of calls stores holds stamped Finds Looks Accepts Holds rs) first.host last.host
    rounds_go {first = first} rounds.no_round = nothing first.host
    rounds_go (rounds.one_round {mid = mid} {new = new} more r) = then_ (rounds_go more) (round mid new r)
