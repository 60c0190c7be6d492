-- The clients that were delivered, over any passes.
use Rattle.std.specs.Prelude.{◌≡◌, ◌+◌, ℕ, List, [], ◌∷◌, ◌++◌, Option, Some, None, ⊤}
use Rattle.job_clients.specs.Callers.{Coming, IsShort}
use Rattle.live_loop.specs.declared.loop_host.Delivered.{Delivered}
use Rattle.live_loop.specs.Rounds.{AreRounds, Desk, Gathers, Launcher, Left, no_round, one_round, nobody, asked, taken, received, went, came}

-- a client as it was delivered: under which number, of which job, with which request
pub record Handed : Type 0 where
  pub conn : ℕ
  pub job : ℕ
  pub request : List ℕ

module _ {H : Type 0} {Asked : H → H → Type 0} {Taken : ℕ → H → H → Type 0} {Came : ℕ → ℕ → List ℕ → Delivered → H → H → Type 0} {first : Desk} {from : H} where
  abbrev pub delivered : {desk : Desk} {new : H} → Gathers Asked Taken Came first from desk new → List Handed
  delivered nobody = []
  delivered (asked more a) = delivered more
  delivered (taken more t w a) = delivered more
  delivered (received more g) = delivered more
  delivered (went more g) = delivered more
  delivered (came {client = client} {desk = desk} more is set it) =
      delivered more ++ record { conn = desk.conn; job = client.origin.job; request = client.request } ∷ []

abbrev pub handed_by : {H : Type 0} {it : Launcher H} {first last : Left H} → AreRounds it first last → List Handed
handed_by no_round = []
handed_by (one_round more round) = handed_by more ++ delivered round.serves.gathers

-- they were delivered under one number after another, from the first to the one before the last
pub data AreCounted (first : ℕ) : List Handed → ℕ → Type 0 where
  no_client : AreCounted first [] first
  one_client : {them : List Handed} {last : ℕ} (one : Handed) → AreCounted first them last → one.conn ≡ last → AreCounted first (them ++ one ∷ []) (last + 1)

-- each is no longer than a request may be
abbrev pub AreShort : List Handed → Type 0
AreShort [] = ⊤
AreShort (one ∷ them) = IsShort one.request × AreShort them

-- what came so far of a client's request is no longer
abbrev pub IsShortSoFar : Option Coming → Type 0
IsShortSoFar None = ⊤
IsShortSoFar (Some coming) = IsShort coming.request

abbrev pub AllAreShort : (ℕ → Option Coming) → Type 0
AllAreShort coming = (key : ℕ) → IsShortSoFar (coming key)

-- The clients that were delivered, from the one desk to the other.
pub record Counts (first : Desk) (them : List Handed) (last : Desk) : Type 0 where
  pub numbers : AreCounted first.conn them last.conn
  pub requests : AllAreShort first.coming → AreShort them × AllAreShort last.coming
