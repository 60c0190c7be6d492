-- A pass of the live loop.
use Rattle.std.specs.Prelude.{◌≡◌, ◌⊎◌, ◌+◌, ◌<◌, ◌≤◌, ℕ, List, Option, Some, None}
use Rattle.history_model.specs.declared.Reply.{Reply}
use Rattle.job_clients.specs.Callers.{Coming, GrowsAt, IsNobody, MayComeIn, Sets}
use Rattle.job_clients.specs.declared.caller.Origin.{Origin}
use Rattle.control_socket.specs.Serving.{Serves}
use Rattle.live_loop.specs.declared.loop_host.Delivered.{Delivered}
use Rattle.live_loop.specs.Children.{PollsAll}
use Rattle.live_loop.specs.Looks.{PathCall, IsKept, Known, LooksOn}
use Rattle.live_loop.specs.Observing.{later_after, IsNextLook}

-- The edge was asked, time and again, and nothing was delivered.
pub data Asks {H : Type 0} (Asked : H → H → Type 0) (from : H) : H → Type 0 where
  nothing : Asks Asked from from
  further : {mid new : H} → Asks Asked from mid → Asked mid new → Asks Asked from new

-- What the sockets of jobs keep: the number of the next client whose request comes whole, and the clients whose request still comes, each under
-- its key.
pub record Desk : Type 0 where
  pub conn : ℕ
  pub coming : ℕ → Option Coming

-- no client came yet
abbrev pub IsNew : Desk → Type 0
IsNew desk = (desk.conn ≡ 1) × IsNobody desk.coming

abbrev pub desk_with : ℕ → (ℕ → Option Coming) → Desk
desk_with conn coming = record { conn = conn; coming = coming }

-- one of them may have been disconnected
abbrev pub Disconnects : (ℕ → Option Coming) → (ℕ → Option Coming) → Type 0
Disconnects old new = (new ≡ old) ⊎ ((key : ℕ) × Sets key None old new)

-- more may have come of the request of one of them
abbrev pub MayGrow : (ℕ → Option Coming) → (ℕ → Option Coming) → Type 0
MayGrow old new = (new ≡ old) ⊎ ((key : ℕ) × GrowsAt key old new)

-- A client that came to these sockets is among them, perhaps in the place of another; or it was disconnected.
pub record Welcomes (origin : Origin) (old new : ℕ → Option Coming) : Type 0 where
  pub mid : ℕ → Option Coming
  pub gone : Disconnects old mid
  pub came : MayComeIn origin mid new

module _ {H : Type 0} (Asked : H → H → Type 0) (Taken : ℕ → H → H → Type 0) (Came : ℕ → ℕ → List ℕ → Delivered → H → H → Type 0) where
  -- What becomes of the clients of jobs' sockets, step by step. The edge is asked. A client is taken at the sockets of a job, and is among the others
  -- from then on as one that came to these sockets, or is disconnected. Some bytes of one's request come. One is disconnected. One is delivered: under the
  -- next number, for the job to whose sockets it came, with all that came of its request; it is among the others no more.
  pub data Gathers (first : Desk) (from : H) : Desk → H → Type 0 where
    nobody : Gathers first from first from
    asked : {desk : Desk} {mid new : H} →
        Gathers first from desk mid → Asked mid new → Gathers first from desk new
    taken : {origin : Origin} {desk : Desk} {coming : ℕ → Option Coming} {mid at new : H} →
        Gathers first from desk mid → Taken origin.job mid at → Welcomes origin desk.coming coming → Asks Asked at new →
        Gathers first from (desk_with desk.conn coming) new
    received : {desk : Desk} {coming : ℕ → Option Coming} {new : H} →
        Gathers first from desk new → MayGrow desk.coming coming →
        Gathers first from (desk_with desk.conn coming) new
    went : {desk : Desk} {coming : ℕ → Option Coming} {new : H} →
        Gathers first from desk new → Disconnects desk.coming coming →
        Gathers first from (desk_with desk.conn coming) new
    came : {key : ℕ} {client : Coming} {answer : Delivered} {desk : Desk} {coming : ℕ → Option Coming} {mid new : H} →
        Gathers first from desk mid → desk.coming key ≡ Some client → Sets key None desk.coming coming →
        Came desk.conn client.origin.job client.request answer mid new →
        Gathers first from (desk_with (desk.conn + 1) coming) new

module _ {H : Type 0} (Answered : List ℕ → Reply → H → H → Type 0) (Asked : H → H → Type 0) (Taken : ℕ → H → H → Type 0)
    (Came : ℕ → ℕ → List ℕ → Delivered → H → H → Type 0) where
  -- Control clients were served, then those of jobs' sockets, from the one desk to the other, and then perhaps the control clients once more.
  pub record ServesAll (desk desk' : Desk) (old new : H) : Type 0 where
    pub first : H
    pub serves : Serves Answered old first
    pub mid : H
    pub gathers : Gathers Asked Taken Came desk first desk' mid
    pub last : H
    pub again : Serves Answered mid last
    pub asks : Asks Asked last new

-- What a pass leaves for the next: the launcher, the job whose child is asked about first, and the clients of jobs'
-- sockets with the number of the next. It leaves when paths are checked, and the path after which a series of path
-- checks goes on, if one does. It leaves when the next series begins, and what was delivered last of the paths.
pub record Left (H : Type 0) : Type 0 where
  pub host : H
  pub child : ℕ
  pub desk : Desk
  pub look : ℕ
  pub walk : Option (List ℕ)
  pub later : ℕ
  pub known : Known

-- what is asked of a launcher, and delivered to it, as its trait says
pub record Launcher (H : Type 0) : Type 1 where
  pub round_up : H → ℕ
  pub IsNext : H → List ℕ → Option (List ℕ) → Type 0
  pub Did : PathCall → H → H → Type 0
  pub Answered : List ℕ → Reply → H → H → Type 0
  pub Begun : H → H → Type 0
  pub Polled : ℕ → Option ℕ → H → H → Type 0
  pub Asked : H → H → Type 0
  pub Taken : ℕ → H → H → Type 0
  pub Came : ℕ → ℕ → List ℕ → Delivered → H → H → Type 0

-- before its time nothing is checked; from then on a series of path checks begins, or the one that was begun goes on
abbrev pub Sees : {H : Type 0} → Launcher H → H → Left H → H → Left H → Type 0
Sees it polled old looked new =
    ((it.round_up polled < old.look) × (looked ≡ polled) × (new.look ≡ old.look) × (new.walk ≡ old.walk)
    × (new.later ≡ old.later) × IsKept old.known new.known)
    ⊎ ((old.look ≤ it.round_up polled)
    × (new.later ≡ later_after old.walk (it.round_up polled) old.later)
    × IsNextLook new.walk (it.round_up polled) new.later new.look
    × LooksOn it.IsNext it.Did old.walk polled old.known new.walk looked new.known)

-- A whole pass. It waits and begins at a clock reading. Each run that is over is delivered. If it is time, a series of
-- path checks begins or goes on, and what is new at the paths is delivered. Then clients are served. Nothing else is
-- delivered, and in the end it only logs.
pub record IsRound {H : Type 0} (it : Launcher H) (old new : Left H) : Type 0 where
  pub waited : H
  pub waits : Asks it.Asked old.host waited
  pub begun : H
  pub begins : it.Begun waited begun
  pub polled : H
  pub polls : PollsAll it.Polled old.child begun new.child polled
  pub looked : H
  pub looks : Sees it polled old looked new
  pub served : H
  pub serves : ServesAll it.Answered it.Asked it.Taken it.Came old.desk new.desk looked served
  pub tells : Asks it.Asked served new.host

-- any passes, one after another: each begins with what the one before left
pub data AreRounds {H : Type 0} (it : Launcher H) (first : Left H) : Left H → Type 0 where
  no_round : AreRounds it first first
  one_round : {mid new : Left H} → AreRounds it first mid → IsRound it mid new → AreRounds it first new
