-- The whole life of a client, from the empty dialogue with which it came.
use Rattle.std.specs.Prelude.{◌≡◌, ◌⊎◌, ℕ, List, [], ◌++◌, Option, Some, None, IfSome, IsSome}
use mathlib.Core.Logic.{inl, inr}
use Rattle.slab.specs.Slab.{Slab, get}
use Rattle.history_model.specs.declared.Reply.{Reply}
use Rattle.ctl_protocol.specs.Lines.{Feed, GivesLine}
use Rattle.control_socket.specs.declared.client.Client.{Client}
use Rattle.control_socket.specs.declared.dialogue.Dialogue.{Dialogue}
use Rattle.control_socket.specs.Clients.{AllGoOn, AllWait}
use Rattle.control_socket.specs.Dialogues.{Converses, ReceivesOn, IsEmpty, Reads, received_on, not_received}
use Rattle.control_socket.specs.Exchanges.{brought_by, brought_in, lines_in, replies_in, sent_in}

-- nobody has a place
abbrev pub IsVacant : Slab Client → Type 0
IsVacant clients = (key : ℕ) → get clients key ≡ None

module _ {A : Type 0} (Answered : List ℕ → Reply → A → A → Type 0) where
  -- Clients are served, and clients come, in any order and any number of times. In between who answers may have changed by itself.
  pub data Rounds (first : Slab Client) : Slab Client → Type 0 where
    no_round : Rounds first first
    served : {mid new : Slab Client} {before after : A} →
        Rounds first mid → AllGoOn Answered mid before new after → Rounds first new
    taken : {up : ℕ} {mid new : Slab Client} → Rounds first mid → AllWait up mid new → Rounds first new

  -- A dialogue that began empty: calls of `serve` served it, and between them it took what came. Other clients may have been answered meanwhile.
  pub data Lives : Dialogue → Type 0 where
    came : {dialogue : Dialogue} → IsEmpty dialogue → Lives dialogue
    went_on : {mid new : Dialogue} {before after : A} → Lives mid → Converses Answered mid before new after → Lives new
    received : {mid new : Dialogue} → Lives mid → ReceivesOn mid new → Lives new

  -- a read of it failed, for which it goes unanswered, or its dialogue is its own from the beginning
  abbrev pub IsAlive : Client → Type 0
  IsAlive client = IsSome client.failed ⊎ Lives client.dialogue

  -- Who answers went on from the one to the other by lines alone, and each was the next whole line of a client's own dialogue.
  pub data AnswersClients (from : A) : A → Type 0 where
    no_line : AnswersClients from from
    next_line : {dialogue : Dialogue} {line : List ℕ} {rest : Feed} {reply : Reply} {mid new : A} →
        AnswersClients from mid → Lives dialogue → GivesLine dialogue.requests (Some line) rest →
        Answered line reply mid new → AnswersClients from new

-- the lines that pieces brought between two calls of `serve`
abbrev pub brought_as : {old new : Dialogue} → Reads old new → List (List ℕ)
brought_as {old = old} (inl (piece, takes)) = brought_by piece old.requests old.intake
brought_as (inr other) = []

abbrev pub brought_between : {first new : Dialogue} → ReceivesOn first new → List (List ℕ)
brought_between not_received = []
brought_between (received_on more reads) = brought_between more ++ brought_as reads

module _ {A : Type 0} {Answered : List ℕ → Reply → A → A → Type 0} where
  -- the lines of the client that were answered, in order
  abbrev pub answered_of : {dialogue : Dialogue} → Lives Answered dialogue → List (List ℕ)
  answered_of (came empty) = []
  answered_of (went_on life all) = answered_of life ++ lines_in all
  answered_of (received life receives) = answered_of life

  -- the lines that its pieces brought
  abbrev pub brought_to : {dialogue : Dialogue} → Lives Answered dialogue → List (List ℕ)
  brought_to (came empty) = []
  brought_to (went_on life all) = brought_to life ++ brought_in all
  brought_to (received life receives) = brought_to life ++ brought_between receives

  -- the lines of the replies to its lines, in their order
  abbrev pub replied_to : {dialogue : Dialogue} → Lives Answered dialogue → List ℕ
  replied_to (came empty) = []
  replied_to (went_on life all) = replied_to life ++ replies_in all
  replied_to (received life receives) = replied_to life

  -- the bytes that it was sent
  abbrev pub sent_to : {dialogue : Dialogue} → Lives Answered dialogue → List ℕ
  sent_to (came empty) = []
  sent_to (went_on life all) = sent_to life ++ sent_in all
  sent_to (received life receives) = sent_to life
