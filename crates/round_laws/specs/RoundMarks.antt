-- The marks of passes: each turn that they made, in order, and each clock reading and observation of which the launcher heard nothing.
use mathlib.Core.Logic.{inl, inr}
use Rattle.std.specs.Prelude.{ℕ, Bool, true, false, List, [], ◌∷◌, ◌++◌, Option, Some, None, Result, Ok, Err}
use Rattle.history_model.specs.declared.Ended.{Ended}
use Rattle.history_model.specs.declared.Obs.{Obs}
use Rattle.history_model.specs.declared.Refusal.{Refusal}
use Rattle.history_model.specs.declared.event.Event.TheVariants as journaled
use Rattle.history_model.specs.declared.event.JobItem.TheVariants as happens
use Rattle.history_model.specs.declared.event.Setting.{Setting}
use Rattle.launcher.specs.Inputs.{Incoming, asked_by, event_if_label, happened}
use Rattle.child_edge.specs.Calls.{ToldCall}
use Rattle.child_edge.specs.declared.plain.EdgeFault.{EdgeFault}
use Rattle.outside.specs.Stores.{Stamp, StoreCall}
use Rattle.control_socket.specs.Serving.{Serves, nobody, one_more}
use Rattle.live_loop.specs.declared.loop_host.Delivered.{Delivered}
use Rattle.live_loop.specs.declared.loop_host.Delivered.TheVariants as handed
use Rattle.live_loop.specs.Children as children
use Rattle.live_loop.specs.Looks as looks
use Rattle.live_loop.specs.Rounds as rounds
use Rattle.jobd.specs.declared.round_launcher.RoundLauncher.{RoundLauncher}
use Rattle.jobd.specs.Launches.{lent, AsksEdge, ListsNext, ReceivedReading, Reads, ReadsIf, ReceivedIf, Begins, Gives, Tells, TellsEnd, PollsFrom, DoesPath, TakesClient, TellsCame, ComesIn, AnswersLine}
use Rattle.round_laws.specs.Marks.{Mark, Spared, turned}

module _ {T E W : Type 0} (calls : E → Option (List ToldCall)) (stores : T → Option (List StoreCall))
    (holds : T → List Setting → Type 0) (stamped : T → List Stamp → Type 0)
    (Finds : ℕ → Option (ℕ × ℕ) → E → E → Type 0)
    (Looks : List ℕ → Result Obs EdgeFault → E → E → Type 0) (Accepts : ℕ → E → E → Type 0)
    (Holds : ℕ → ℕ → List ℕ → Bool → E → E → Type 0) where
  -- what a pass asks of the launcher of `jobd`, and delivers to it
  abbrev pub launcher : rounds.Launcher (RoundLauncher T E W)
  launcher = record {
    round_up = λ round. round.at.up;
    IsNext = ListsNext;
    Did = DoesPath calls stores holds stamped Looks;
    Answered = AnswersLine calls stores holds stamped;
    Begun = Begins calls stores holds stamped;
    Polled = PollsFrom calls stores holds stamped Finds;
    Asked = AsksEdge calls;
    Taken = TakesClient calls Accepts;
    Came = ComesIn calls stores holds stamped Holds;
  }

module _ {T E W : Type 0} (calls : E → Option (List ToldCall)) (stores : T → Option (List StoreCall))
    (holds : T → List Setting → Type 0) (stamped : T → List Stamp → Type 0) where
  -- ---- clock readings

  -- a clock reading that was delivered
  abbrev pub of_reading : (old new : RoundLauncher T E W) → ReceivedReading calls stores holds stamped old new → List (Mark T)
  of_reading old new received =
      turned calls stores (Some (happened (journaled.Clock old.at))) received.refusal received.words old.host new.host ∷ []

  abbrev pub of_reads : (old new : RoundLauncher T E W) → Reads calls stores holds stamped old new → List (Mark T)
  of_reads old new (inl same) = []
  of_reads old new (inr moved) = of_reading old new moved.1

  abbrev pub of_missed : (is_refused : Bool) (old new : RoundLauncher T E W) →
      ReadsIf calls stores holds stamped is_refused old new → List (Mark T)
  of_missed true old new reads = of_reads old new reads
  of_missed false old new same = []

  -- a clock reading that is not news is spared
  abbrev pub of_news : (is_news : Bool) (old new : RoundLauncher T E W) →
      ReceivedIf calls stores holds stamped is_news old new → List (Mark T)
  of_news true old new received = of_reading old new received
  of_news false old new same = Spared (journaled.Clock old.at) ∷ []

  abbrev pub of_begins : (old new : RoundLauncher T E W) → Begins calls stores holds stamped old new → List (Mark T)
  of_begins old new begins = of_missed old.is_refused (record old { is_active = false }) begins.first begins.missed
      ++ of_news begins.news.is_news begins.begun new begins.news.handed

  -- ---- what is delivered after the clock reading of the pass

  abbrev pub of_gives : (event : Option Incoming) (refusal : Option Refusal) (words : List ℕ) (old new : RoundLauncher T E W) →
      Gives calls stores holds stamped event refusal words old new → List (Mark T)
  of_gives event refusal words old new gives = of_reads old gives.mid gives.reading
      ++ turned calls stores event refusal words gives.mid.host new.host ∷ []

  abbrev pub of_tells : (event : Option Incoming) (refusal : Option Refusal) (old new : RoundLauncher T E W) →
      Tells calls stores holds stamped event refusal old new → List (Mark T)
  of_tells event refusal old new tells = of_gives event refusal tells.words old new tells.gives

  -- ---- children

  abbrev pub of_end : (label : List ℕ) (run : ℕ) (answer : Result (Option Ended) EdgeFault) (old new : RoundLauncher T E W) →
      TellsEnd calls stores holds stamped label run answer old new → List (Mark T)
  of_end label run (Ok None) old new same = []
  of_end label run (Ok (Some how)) old new tells = of_tells (event_if_label label (journaled.OfJob label (happens.Ended run how))) tells.0 old new tells.1
  of_end label run (Err fault) old new tells = of_tells (event_if_label label (journaled.OfJob label (happens.WaitRefused run))) tells.0 old new tells.1

  abbrev pub of_poll : (Finds : ℕ → Option (ℕ × ℕ) → E → E → Type 0) (first : ℕ) (job : Option ℕ) (old new : RoundLauncher T E W) →
      PollsFrom calls stores holds stamped Finds first job old new → List (Mark T)
  of_poll Finds first None old new polls = []
  of_poll Finds first (Some job) old new polls = let run = polls.4 in
      of_end run.label polls.0 run.answer (lent run.edge (lent polls.1 old)) new run.handed

  abbrev pub of_polls : (Finds : ℕ → Option (ℕ × ℕ) → E → E → Type 0) {first : ℕ} {old : RoundLauncher T E W} {n next : ℕ} {new : RoundLauncher T E W} →
      children.Polls (PollsFrom calls stores holds stamped Finds) first old n next new → List (Mark T)
  of_polls Finds children.no_poll = []
  of_polls Finds (children.one_more {next = next} {job = job} {mid = mid} {new = new} polls polled) =
      of_polls Finds polls ++ of_poll Finds next (Some job) mid new polled

  -- ---- paths

  -- an observation that is what was delivered last is spared
  abbrev pub of_observation : (Looks : List ℕ → Result Obs EdgeFault → E → E → Type 0) (path : List ℕ) (seen : Option Obs) (old : RoundLauncher T E W) (known : looks.Known) (new : RoundLauncher T E W) (known' : looks.Known) →
      looks.TakesIf (DoesPath calls stores holds stamped Looks) path seen old known new known' → List (Mark T)
  of_observation Looks path None old known new known' none = []
  of_observation Looks path (Some obs) old known new known' (inl same) = Spared (journaled.Saw path obs) ∷ []
  of_observation Looks path (Some obs) old known new known' (inr differs) =
      of_tells (Some (happened (journaled.Saw path obs))) differs.1.0 old new differs.1.2

  -- questions about paths hand nothing in
  abbrev pub of_walk : (Looks : List ℕ → Result Obs EdgeFault → E → E → Type 0) {first : RoundLauncher T E W} {known : looks.Known} {from : List ℕ} {n : ℕ} {path : List ℕ} {new : RoundLauncher T E W} {known' : looks.Known} →
      looks.Walks ListsNext (DoesPath calls stores holds stamped Looks) first known from n path new known' → List (Mark T)
  of_walk Looks looks.no_look = []
  of_walk Looks (looks.asked walk questions) = of_walk Looks walk
  of_walk Looks (looks.one_more {next = next} {new = new} {before = before} {after = after} walk is waits it) =
      of_walk Looks walk ++ of_observation Looks next it.seen it.mid before new after it.taken

  -- ---- clients

  abbrev pub of_serves : {old new : RoundLauncher T E W} → Serves (AnswersLine calls stores holds stamped) old new → List (Mark T)
  of_serves nobody = []
  of_serves (one_more {line = line} {reply = reply} {mid = mid} serves answers) = of_serves serves
      ++ of_gives (asked_by line) reply.refusal reply.text mid answers.mid answers.gives

  abbrev pub of_client : (label : List ℕ) (job conn : ℕ) (answer : Delivered) (old new : RoundLauncher T E W) →
      TellsCame calls stores holds stamped label job conn answer old new → List (Mark T)
  of_client label job conn handed.Dropped old new same = []
  of_client label job conn handed.Received old new tells = of_tells (event_if_label label (journaled.OfJob label (happens.Came conn))) None old new tells
  of_client label job conn (handed.Refused refusal) old new came =
      of_tells (event_if_label label (journaled.OfJob label (happens.Came conn))) (Some refusal) old came.0 came.2

  abbrev pub of_clients : (Accepts : ℕ → E → E → Type 0) (Holds : ℕ → ℕ → List ℕ → Bool → E → E → Type 0)
      {desk : rounds.Desk} {old : RoundLauncher T E W} {desk' : rounds.Desk} {new : RoundLauncher T E W} →
      rounds.Gathers (AsksEdge calls) (TakesClient calls Accepts) (ComesIn calls stores holds stamped Holds) desk old desk' new → List (Mark T)
  of_clients Accepts Holds rounds.nobody = []
  of_clients Accepts Holds (rounds.asked gathers asks) = of_clients Accepts Holds gathers
  of_clients Accepts Holds (rounds.taken gathers takes welcomes asks) = of_clients Accepts Holds gathers
  of_clients Accepts Holds (rounds.received gathers grows) = of_clients Accepts Holds gathers
  of_clients Accepts Holds (rounds.went gathers gone) = of_clients Accepts Holds gathers
  of_clients Accepts Holds (rounds.came {client = client} {answer = answer} {desk = desk} {mid = mid} {new = new} gathers is set comes) =
      of_clients Accepts Holds gathers ++ of_client comes.label client.origin.job desk.conn answer (lent comes.edge mid) new comes.handed

  -- ---- whole passes

  module _ (Finds : ℕ → Option (ℕ × ℕ) → E → E → Type 0) (Looks : List ℕ → Result Obs EdgeFault → E → E → Type 0)
      (Accepts : ℕ → E → E → Type 0) (Holds : ℕ → ℕ → List ℕ → Bool → E → E → Type 0) where
    abbrev pub of_looks : (polled : RoundLauncher T E W) (old : rounds.Left (RoundLauncher T E W)) (looked : RoundLauncher T E W) (new : rounds.Left (RoundLauncher T E W)) →
        rounds.Sees (launcher calls stores holds stamped Finds Looks Accepts Holds) polled old looked new → List (Mark T)
    of_looks polled old looked new (inl early) = []
    of_looks polled old looked new (inr due) = of_walk Looks due.3.walks.walk

    abbrev pub of_round : (old new : rounds.Left (RoundLauncher T E W)) →
        rounds.IsRound (launcher calls stores holds stamped Finds Looks Accepts Holds) old new → List (Mark T)
    of_round old new round = of_begins round.waited round.begun round.begins
        ++ (of_polls Finds round.polls.over
        ++ (of_looks round.polled old round.looked new round.looks
        ++ (of_serves round.serves.serves ++ (of_clients Accepts Holds round.serves.gathers ++ of_serves round.serves.again))))

    -- all that they deliver, pass after pass
    abbrev pub marks_of : {first last : rounds.Left (RoundLauncher T E W)} →
        rounds.AreRounds (launcher calls stores holds stamped Finds Looks Accepts Holds) first last → List (Mark T)
    marks_of rounds.no_round = []
    marks_of (rounds.one_round {mid = mid} {new = new} more round) = marks_of more ++ of_round mid new round
