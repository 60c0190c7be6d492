-- A reply on its way from the file to which a run writes it, to its client.
use Rattle.std.specs.Prelude.{◌≡◌, ◌≤◌, ℕ, Bool, true, false, ◌&&◌, ◌==◌, List, [], ◌++◌, length, Option, Some, None, ⊤}
use Rattle.std.specs.Io.KnownBytes.{Appends, Consumes, IsAtEnd}
use Rattle.socket_demand.specs.Bytes.{Bytes}
use Rattle.child_edge.specs.declared.connection.Connection.{Connection}
use Rattle.child_edge.specs.declared.connection.Progress.{Progress}
use Rattle.child_edge.specs.declared.connection.Progress.TheVariants.{Waits, MayGoOn, Ended, Lost}

-- the request came whole, and more of the reply may come
abbrev pub IsOpen : Bytes → Type 0
IsOpen exchange = (exchange.is_request_whole ≡ true) × (exchange.is_reply_whole ≡ false)

-- it stays so, but for a connection that is to be disconnected
abbrev pub StaysOpen : Progress → Bytes → Type 0
StaysOpen Waits exchange = IsOpen exchange
StaysOpen MayGoOn exchange = IsOpen exchange
StaysOpen Ended exchange = ⊤
StaysOpen (Lost why) exchange = ⊤

-- it waits, or has come to its end
abbrev pub WaitsOrEnded : Progress → Type 0
WaitsOrEnded Waits = ⊤
WaitsOrEnded MayGoOn = ⊥
WaitsOrEnded Ended = ⊤
WaitsOrEnded (Lost why) = ⊥

-- it waits, or is lost
abbrev pub WaitsOrLost : Progress → Type 0
WaitsOrLost Waits = ⊤
WaitsOrLost MayGoOn = ⊥
WaitsOrLost Ended = ⊥
WaitsOrLost (Lost why) = ⊤

-- request and reply are whole, and nothing waits to be sent
abbrev pub is_done : Bytes → Bool
is_done exchange = exchange.is_request_whole && exchange.is_reply_whole && (length exchange.unsent == 0)

-- what is done where nothing is to be sent now
abbrev pub Rests : Progress → Bytes → Type 0
Rests Waits exchange = is_done exchange ≡ false
Rests MayGoOn exchange = ⊥
Rests Ended exchange = is_done exchange ≡ true
Rests (Lost why) exchange = ⊥

module _ {C F : Type 0} (contents : C → Option (List ℕ)) (remaining : F → Option (List ℕ)) where
  -- Some bytes of the reply were read, in order. What was sent is a front of what waited to be sent and of these after it; this is the rest.
  pub record Sends (rest : List ℕ) (old new : Connection C F) : Type 0 where
    pub read : List ℕ
    pub reads : Consumes (remaining old.reply) (remaining new.reply) read
    pub sent : List ℕ
    pub sends : Appends (contents old.client) (contents new.client) sent
    pub joined : sent ++ rest ≡ old.exchange.unsent ++ read

  -- the rest waits, in its order
  abbrev pub SendsOn : Connection C F → Connection C F → Type 0
  SendsOn old new = Sends new.exchange.unsent old new

  -- What becomes of a connection: what was not sent waits, and if that is the end of the connection, it is nothing, and nothing is left of the
  -- reply. A client that can't be sent the rest was sent a front of it.
  abbrev pub Forwards : Progress → Connection C F → Connection C F → Type 0
  Forwards Waits old new = SendsOn old new × IsOpen new.exchange
  Forwards MayGoOn old new = SendsOn old new × IsOpen new.exchange
  Forwards Ended old new = Sends [] old new × IsAtEnd (remaining new.reply)
  Forwards (Lost why) old new = (rest : List ℕ) × Sends rest old new

  -- the same of one step, after which it may go on
  abbrev pub ForwardsIf : Option Progress → Connection C F → Connection C F → Type 0
  ForwardsIf None old new = SendsOn old new × IsOpen new.exchange
  ForwardsIf (Some progress) old new = Forwards progress old new

-- the rest of a piece waits, unless the client can't be sent it
abbrev pub WaitsIf : Option Progress → List ℕ → Bytes → Type 0
WaitsIf None rest exchange = (exchange.unsent ≡ rest) × IsOpen exchange
WaitsIf (Some Waits) rest exchange = ⊥
WaitsIf (Some MayGoOn) rest exchange = ⊥
WaitsIf (Some Ended) rest exchange = ⊥
WaitsIf (Some (Lost why)) rest exchange = ⊤

module _ {C F : Type 0} (contents : C → Option (List ℕ)) where
  -- A piece was sent, as much of it as was taken, and the rest waits; a client that can't be sent the piece was sent nothing of it.
  pub record SendsPiece (piece : List ℕ) (stop : Option Progress) (old new : Connection C F) : Type 0 where
    pub sent : List ℕ
    pub sends : Appends (contents old.client) (contents new.client) sent
    pub rest : List ℕ
    pub joined : sent ++ rest ≡ piece
    pub stops : WaitsIf stop rest new.exchange

-- the run has written no more, or nothing more comes
pub record Ends {C F : Type 0} (progress : Progress) (old new : Connection C F) : Type 0 where
  pub client : new.client ≡ old.client
  pub reply : new.reply ≡ old.reply
  pub unsent : new.exchange.unsent ≡ old.exchange.unsent
  pub stays : IsOpen old.exchange → StaysOpen progress new.exchange
  pub over : WaitsOrEnded progress
