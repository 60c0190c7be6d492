-- What becomes of each client of a job's socket, from its coming to its number, over any passes.
use mathlib.Core.Logic.{inl, inr}
use Rattle.std.specs.Prelude.{◌≡◌, ◌==◌, ◌+◌, ℕ, List, [], ◌∷◌, ◌++◌, Option, Some, None, if◌then◌else◌, ⊤}
use Rattle.job_clients.specs.Callers.{Coming, GrowsFrom, IsShort, MayComeIn}
use Rattle.job_clients.specs.declared.caller.Origin.{Origin}
use Rattle.live_loop.specs.declared.loop_host.Delivered.{Delivered}
use Rattle.live_loop.specs.Rounds.{AreRounds, Desk, Gathers, Launcher, Left, Disconnects, MayGrow, nobody, asked, taken, received, went, came, no_round, one_round}

-- What happened to a client, under the key under which it is held meanwhile. It was taken at these sockets; or some
-- bytes of its request came; or it was disconnected; or it was delivered, under a number, for a job, with a request.
-- With the launcher before and after that.
pub data Operation (H : Type 0) : Type 0 where
  Took : (key : ℕ) → Origin → (old new : H) → Operation H
  Sent : (key : ℕ) → List ℕ → Operation H
  Disconnected : (key : ℕ) → Operation H
  Handed : (key conn job : ℕ) → List ℕ → Delivered → (old new : H) → Operation H

-- more bytes of its request
abbrev pub with_more : List ℕ → Option Coming → Option Coming
with_more bytes None = None
with_more bytes (Some client) = Some (record { origin = client.origin; request = client.request ++ bytes })

-- The client that is held under the key after all this, which has the newest first. It is the last one that was taken
-- under it, if it is there still. It has all bytes that came of its request since then, joined in their order.
abbrev pub held_under : {H : Type 0} → ℕ → List (Operation H) → Option Coming
held_under key [] = None
held_under key (Took its origin old new ∷ past) = if its == key then Some (record { origin = origin; request = [] }) else held_under key past
held_under key (Sent its bytes ∷ past) = if its == key then with_more bytes (held_under key past) else held_under key past
held_under key (Disconnected its ∷ past) = if its == key then None else held_under key past
held_under key (Handed its conn job request answer old new ∷ past) = if its == key then None else held_under key past

-- how many were delivered
abbrev pub how_many : {H : Type 0} → List (Operation H) → ℕ
how_many [] = 0
how_many (Took key origin old new ∷ past) = how_many past
how_many (Sent key bytes ∷ past) = how_many past
how_many (Disconnected key ∷ past) = how_many past
how_many (Handed key conn job request answer old new ∷ past) = how_many past + 1

-- the client came to a socket of this job, and this is its request, no longer than a request may be
abbrev pub IsItsOwn : ℕ → List ℕ → Option Coming → Type 0
IsItsOwn job request None = ⊥
IsItsOwn job request (Some client) = (job ≡ client.origin.job) × (request ≡ client.request) × IsShort request

-- Each client was taken by a call of the launcher, at a socket of the job for which it is held, under a key that was free. Each that was delivered
-- was held, and was delivered for that job, with all bytes that came of its request and no others, under the next number, from 1 on.
abbrev pub AreFollowed : {H : Type 0} → Launcher H → List (Operation H) → Type 0
AreFollowed it [] = ⊤
AreFollowed it (Took key origin old new ∷ past) = it.Taken origin.job old new × (held_under key past ≡ None) × AreFollowed it past
AreFollowed it (Sent key bytes ∷ past) = AreFollowed it past
AreFollowed it (Disconnected key ∷ past) = AreFollowed it past
AreFollowed it (Handed key conn job request answer old new ∷ past) = it.Came conn job request answer old new
    × (conn ≡ how_many past + 1) × IsItsOwn job request (held_under key past) × AreFollowed it past

-- ---- what happened, read off passes

abbrev pub gone_by : {H : Type 0} {old new : ℕ → Option Coming} → Disconnects old new → List (Operation H) → List (Operation H)
gone_by (inl same) past = past
gone_by (inr gone) past = Disconnected gone.0 ∷ past

abbrev pub come_by : {H : Type 0} (origin : Origin) (before after : H) {old new : ℕ → Option Coming} → MayComeIn origin old new → List (Operation H) → List (Operation H)
come_by origin before after (inl comes) past = Took comes.key origin before after ∷ past
come_by origin before after (inr same) past = past

abbrev pub grown_from : {H : Type 0} (key : ℕ) (client : Option Coming) (old new : ℕ → Option Coming) → GrowsFrom key client old new → List (Operation H) → List (Operation H)
grown_from key None old new grows past = past
grown_from key (Some client) old new grows past = Sent key grows.0 ∷ past

abbrev pub grown_by : {H : Type 0} {old new : ℕ → Option Coming} → MayGrow old new → List (Operation H) → List (Operation H)
grown_by (inl same) past = past
grown_by {old = old} {new = new} (inr grown) past = grown_from grown.0 (old grown.0) old new grown.1 past

module _ {H : Type 0} (it : Launcher H) where
  -- those of a pass, after what happened before
  abbrev pub operations_in : {first : Desk} {from : H} {desk : Desk} {new : H} → Gathers it.Asked it.Taken it.Came first from desk new → List (Operation H) → List (Operation H)
  operations_in nobody past = past
  operations_in (asked more asks) past = operations_in more past
  operations_in (taken {origin = origin} {mid = mid} {at = at} more takes welcomes asks) past =
      come_by origin mid at welcomes.came (gone_by welcomes.gone (operations_in more past))
  operations_in (received more grows) past = grown_by grows (operations_in more past)
  operations_in (went more gone) past = gone_by gone (operations_in more past)
  operations_in (came {key = key} {client = client} {answer = answer} {desk = desk} {mid = mid} {new = new} more is set comes) past =
      Handed key desk.conn client.origin.job client.request answer mid new ∷ operations_in more past

  -- those of all passes, the newest first
  abbrev pub operations_of : {first last : Left H} → AreRounds it first last → List (Operation H)
  operations_of no_round = []
  operations_of (one_round more round) = operations_in round.serves.gathers (operations_of more)
