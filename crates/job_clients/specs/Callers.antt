-- What comes of the requests of clients of jobs' sockets, each client under its key.
use Rattle.std.specs.Prelude.{◌≡◌, ◌≢◌, ◌⊎◌, ◌≤◌, ℕ, List, [], ◌++◌, length, Option, Some, None, Result, Ok, Err, ⊤}
use Rattle.std.specs.Option.{option_map}
use Rattle.std.specs.Io.KnownBytes.{Consumes, IsAtEnd}
use Rattle.slab.specs.Slab.{Slab, Updates, SameValues, get}
use Rattle.socket_demand.specs.declared.exchange.TheConstants.{MAX_REQUEST}
use Rattle.job_clients.specs.declared.caller.Origin.{Origin}
use Rattle.job_clients.specs.declared.caller.Caller.{Caller}
use Rattle.job_clients.specs.declared.caller.Gathered.{Gathered}
use Rattle.job_clients.specs.declared.caller.Gathered.TheVariants.{Waits, MayGoOn, Whole, Lost}
use Rattle.job_clients.specs.declared.callers.Callers.{Callers}

-- it is no longer than a request may be
abbrev pub IsShort : List ℕ → Type 0
IsShort request = length request ≤ MAX_REQUEST

-- nothing came, or the client is lost
abbrev pub WaitsOrLost : Gathered → Type 0
WaitsOrLost Waits = ⊤
WaitsOrLost MayGoOn = ⊥
WaitsOrLost Whole = ⊥
WaitsOrLost (Lost loss) = ⊤

-- a piece comes after what came before, if the request is then no longer than it may be; else the client is lost
abbrev pub Takes : List ℕ → Gathered → List ℕ → List ℕ → Type 0
Takes piece Waits old new = ⊥
Takes piece MayGoOn old new = (new ≡ old ++ piece) × IsShort new
Takes piece Whole old new = ⊥
Takes piece (Lost loss) old new = new ≡ old

-- These bytes are what the client sent meanwhile, in order; if the request is whole, it sends no more. Of one that is lost some may be missing.
abbrev pub Gives : Gathered → Option (List ℕ) → Option (List ℕ) → List ℕ → Type 0
Gives Waits sends left bytes = Consumes sends left bytes
Gives MayGoOn sends left bytes = Consumes sends left bytes
Gives Whole sends left bytes = Consumes sends left bytes × IsAtEnd left
Gives (Lost loss) sends left bytes = ⊤

-- More of a client's request came: some bytes after those that came before. The client came to the same sockets still.
pub record Grows {C : Type 0} (bytes : List ℕ) (old new : Caller C) : Type 0 where
  pub request : new.exchange.request ≡ old.exchange.request ++ bytes
  pub within : IsShort old.exchange.request → IsShort new.exchange.request
  pub origin : new.origin ≡ old.origin

module _ {C : Type 0} (remaining : C → Option (List ℕ)) where
  -- what the client itself sent is what came of its request
  pub record Receives (gathered : Gathered) (old new : Caller C) : Type 0 where
    pub bytes : List ℕ
    pub grows : Grows bytes old new
    pub gives : Gives gathered (remaining old.client) (remaining new.client) bytes

  -- where there is no client, nothing comes
  abbrev pub ReceivesIf : Gathered → Option (Caller C) → Option (Caller C) → Type 0
  ReceivesIf gathered None new = new ≡ None
  ReceivesIf gathered (Some old) None = ⊥
  ReceivesIf gathered (Some old) (Some new) = Receives gathered old new

  -- the client of the key sent what came of its request, and each other one is as it was
  pub record ReceivesAt (key : ℕ) (gathered : Gathered) (old new : Slab (Caller C)) : Type 0 where
    pub its : ReceivesIf gathered (get old key) (get new key)
    pub others : (other : ℕ) → other ≢ key → get new other ≡ get old other

  -- The client is held under a key that was free. Nothing came of its request yet, and no byte of it was read.
  pub record Enters (origin : Origin) (client : C) (old new : Slab (Caller C)) : Type 0 where
    pub key : ℕ
    pub was_free : get old key ≡ None
    pub caller : Caller C
    pub updates : Updates old new key (Some caller)
    pub of_origin : caller.origin ≡ origin
    pub request : caller.exchange.request ≡ []
    pub sends : remaining caller.client ≡ remaining client

  -- it is held then, if there was memory for it; the others are as they were
  abbrev pub Welcomes : {U E : Type 0} → Origin → C → Result U E → Slab (Caller C) → Slab (Caller C) → Type 0
  Welcomes origin client (Ok done) old new = Enters origin client old new ⊎ SameValues old new
  Welcomes origin client (Err loss) old new = new ≡ old

-- of a client whose request still comes: to whose sockets it came, and what came of the request
pub record Coming : Type 0 where
  pub origin : Origin
  pub request : List ℕ

abbrev pub coming_of : {C : Type 0} → Caller C → Coming
coming_of caller = record { origin = caller.origin; request = caller.exchange.request }

-- the client of the key, if there is one, came to the same sockets, with the same request so far; each other one is as it was
pub record Rouses {C : Type 0} (key : ℕ) (old new : Slab (Caller C)) : Type 0 where
  pub its : option_map coming_of (get new key) ≡ option_map coming_of (get old key)
  pub others : (other : ℕ) → other ≢ key → get new other ≡ get old other

-- the clients, each under its key
abbrev pub coming_at : {C : Type 0} → Slab (Caller C) → ℕ → Option Coming
coming_at held key = option_map coming_of (get held key)

abbrev pub coming_in : {C : Type 0} → Callers C → ℕ → Option Coming
coming_in callers = coming_at callers.held

-- nobody is there
abbrev pub IsNobody : (ℕ → Option Coming) → Type 0
IsNobody coming = (key : ℕ) → coming key ≡ None

-- what is under the key is this now; under each other one it is as it was
pub record Sets (key : ℕ) (slot : Option Coming) (old new : ℕ → Option Coming) : Type 0 where
  pub its : new key ≡ slot
  pub others : (other : ℕ) → other ≢ key → new other ≡ old other

-- one that came to these sockets is among them, under a key that was free, and nothing came of its request yet
pub record ComesIn (origin : Origin) (old new : ℕ → Option Coming) : Type 0 where
  pub key : ℕ
  pub was_free : old key ≡ None
  pub set : Sets key (Some (record { origin = origin; request = [] })) old new

-- it is, or all are as they were
abbrev pub MayComeIn : Origin → (ℕ → Option Coming) → (ℕ → Option Coming) → Type 0
MayComeIn origin old new = ComesIn origin old new ⊎ (new ≡ old)

-- Of the request of the client under the key some bytes came, after those that came before, so that it is still no longer than a request may be.
-- If there is no client, nothing comes.
abbrev pub GrowsFrom : ℕ → Option Coming → (ℕ → Option Coming) → (ℕ → Option Coming) → Type 0
GrowsFrom key None old new = Sets key None old new
GrowsFrom key (Some coming) old new = (bytes : List ℕ)
    × (IsShort coming.request → IsShort (coming.request ++ bytes))
    × Sets key (Some (record { origin = coming.origin; request = coming.request ++ bytes })) old new

abbrev pub GrowsAt : ℕ → (ℕ → Option Coming) → (ℕ → Option Coming) → Type 0
GrowsAt key old new = GrowsFrom key (old key) old new
