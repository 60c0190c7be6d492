-- What a launcher heard in passes, and what it was spared.
use Rattle.std.specs.Prelude.{ℕ, List, [], ◌∷◌, Option}
use Rattle.history_model.specs.declared.Refusal.{Refusal}
use Rattle.history_model.specs.declared.event.Event as journal
use Rattle.outside.specs.Stores.{StoreCall}
use Rattle.child_edge.specs.Calls.{ToldCall}
use Rattle.launcher.specs.declared.host.Host.{Host}
use Rattle.launcher.specs.Inputs.{Incoming}
use Rattle.launcher.specs.Hosts.{stands}
use Rattle.launcher_laws.specs.TurnRuns.{Snapshot, Turn}

-- a turn that the launcher made; or a clock reading, or an observation, of which it heard nothing
pub data Mark (T : Type 0) : Type 0 where
  Turned : Turn T → Mark T
  Spared : journal.Event → Mark T

-- the turns alone
abbrev pub turns_in : {T : Type 0} → List (Mark T) → List (Turn T)
turns_in [] = []
turns_in (Turned turn ∷ marks) = turn ∷ turns_in marks
turns_in (Spared event ∷ marks) = turns_in marks

module _ {T E W : Type 0} (calls : E → Option (List ToldCall)) (stores : T → Option (List StoreCall)) where
  -- the state of a launcher, with its store
  abbrev pub snapshot : Host T E W → Snapshot T
  snapshot host = record { stands = stands calls stores host; store = host.store }

  -- the turn in which it heard this, and answered so
  abbrev pub turned : Option Incoming → Option Refusal → List ℕ → Host T E W → Host T E W → Mark T
  turned event refusal words old new = Turned (record {
    incoming = event;
    refusal = refusal;
    words = words;
    before = snapshot old;
    after = snapshot new;
  })
