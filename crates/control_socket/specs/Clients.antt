-- What becomes of the clients of the control socket, each under its key.
use Rattle.std.specs.Prelude.{◌≡◌, ◌≢◌, ◌⊎◌, ◌-◌, ◌≤◌, ℕ, List, [], false, Option, Some, None, IfSome, IsSome, Result, IsOk}
use Rattle.slab.specs.Slab.{Slab, Updates, get}
use Rattle.history_model.specs.declared.Reply.{Reply}
use Rattle.control_socket.specs.declared.client.Client.{Client}
use Rattle.control_socket.specs.declared.control.ControlSocket.{ControlSocket}
use Rattle.control_socket.specs.Dialogues.{Converses, EndsWith, ReceivesOn, IsEmpty}

-- a client stays, if it was moved on without an error, or it goes; each other one stays as it was
abbrev pub StaysOrGoes : {P E : Type 0} → ℕ → Result P E → Slab Client → Slab Client → Type 0
StaysOrGoes key progress old new = (IsOk progress × (new ≡ old)) ⊎ Updates old new key None

module _ {A : Type 0} (Answered : List ℕ → Reply → A → A → Type 0) where
  -- A client that is disconnected went on by the steps of its dialogue up to its end; one of which a read failed before had no line answered.
  abbrev pub MayEnd : Client → A → A → Type 0
  MayEnd old before after =
      ((old.failed ≡ None) × EndsWith Answered old.dialogue before after) ⊎ (IsSome old.failed × (after ≡ before))

  -- A client that stays went on by the steps of its dialogue alone. Where there is none, nobody is asked.
  abbrev pub GoesOn : Option Client → A → Option Client → A → Type 0
  GoesOn None before new after = (new ≡ None) × (after ≡ before)
  GoesOn (Some old) before None after = MayEnd old before after
  GoesOn (Some old) before (Some new) after =
      (old.failed ≡ None) × Converses Answered old.dialogue before new.dialogue after

  -- The client of the key went on, and each other one stayed as it was.
  pub record MovesOn (key : ℕ) (old : Slab Client) (before : A) (new : Slab Client) (after : A) :
      Type 0 where
    pub its : GoesOn (get old key) before (get new key) after
    pub others : (other : ℕ) → other ≢ key → get new other ≡ get old other

  -- Clients went on, one after another, each by its own dialogue. Nobody else was answered.
  pub data AllGoOn (from : Slab Client) (before : A) : Slab Client → A → Type 0 where
    all_stand : AllGoOn from before from before
    goes_on : {key : ℕ} {mid new : Slab Client} {now after : A} →
        AllGoOn from before mid now → MovesOn key mid now new after → AllGoOn from before new after

-- One that waits its turn: what it sent on is taken, or a read of it failed, and no more. None of its lines is answered, and nothing is sent to it.
pub record Waits (old new : Client) : Type 0 where
  pub taken : new.taken ≡ old.taken
  pub receives : IsSome new.failed ⊎ ((new.failed ≡ old.failed) × ReceivesOn old.dialogue new.dialogue)

-- it says nothing: no whole line is left to be answered, and no reply to be sent
abbrev pub IsSilent : Client → Type 0
IsSilent client = (client.dialogue.has_lines ≡ false) × (client.dialogue.replies.items ≡ [])

-- it takes nothing of its replies, and did not for a second
abbrev pub IsStuck : ℕ → Client → Type 0
IsStuck up client = (client.dialogue.replies.items ≢ []) × (1000 ≤ up - client.taken)

-- whether it may go for another one
abbrev pub MayGo : ℕ → Client → Type 0
MayGo up client = (client.failed ≡ None) × (IsSilent client ⊎ IsStuck up client)

-- one that only came
abbrev pub IsFresh : Client → Type 0
IsFresh client = (client.failed ≡ None) × IsEmpty client.dialogue

-- One that came with an empty dialogue, and waits since.
pub record Comes (new : Client) : Type 0 where
  pub first : Client
  pub fresh : IsFresh first
  pub waits : Waits first new

-- It waits, and then stays, or goes for another one.
pub record WaitsOrGoes (up : ℕ) (old : Client) (new : Option Client) : Type 0 where
  pub last : Client
  pub waits : Waits old last
  pub ends : (new ≡ Some last) ⊎ (MayGo up last × IfSome new Comes)

-- who has a place, or has none
abbrev pub WaitsOrComes : ℕ → Option Client → Option Client → Type 0
WaitsOrComes up None new = IfSome new Comes
WaitsOrComes up (Some client) new = WaitsOrGoes up client new

-- Each client waits, nobody goes but for another one, and each other one that is there came with an empty dialogue.
pub record AllWait (up : ℕ) (old new : Slab Client) : Type 0 where
  pub each : (key : ℕ) → WaitsOrComes up (get old key) (get new key)

-- so does the one of the key, and each other one stays as it was
pub record WaitsAt (key up : ℕ) (old new : Slab Client) : Type 0 where
  pub its : WaitsOrComes up (get old key) (get new key)
  pub others : (other : ℕ) → other ≢ key → get new other ≡ get old other

-- Each client waits, in the same `serve`: its `up` is still that one.
pub record WaitsOn (up : ℕ) (old : Slab Client) (up' : ℕ) (new : Slab Client) : Type 0 where
  pub wait : AllWait up old new
  pub same : up' ≡ up

-- the control socket lets each of its clients wait, in the same `serve`
abbrev pub LetsWait : ControlSocket → ControlSocket → Type 0
LetsWait old new = WaitsOn old.up old.clients new.up new.clients

-- The clients are the same ones, in the same `serve`.
pub record StandsStill (up : ℕ) (old : Slab Client) (up' : ℕ) (new : Slab Client) : Type 0 where
  pub clients : new ≡ old
  pub same : up' ≡ up

-- the control socket leaves its clients as they are, in the same `serve`
abbrev pub LeavesClients : ControlSocket → ControlSocket → Type 0
LeavesClients old new = StandsStill old.up old.clients new.up new.clients
