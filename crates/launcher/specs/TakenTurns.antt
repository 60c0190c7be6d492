-- What each function of a launcher leaves that takes what came and gives the reply.
use Rattle.std.specs.Prelude.{◌≡◌, ℕ, true, List, [], Option, is_some}
use Rattle.history_model.specs.declared.Refusal.{Refusal}
use Rattle.history_model.specs.declared.event.Setting.{Setting}
use Rattle.child_edge.specs.Calls.{ToldCall}
use Rattle.outside.specs.Stores.{Stamp, StoreCall}
use Rattle.launcher.specs.Accepting.{is_accepted_load}
use Rattle.launcher.specs.Hosts.{HostReceives, HostStamps}
use Rattle.launcher.specs.Inputs.{Incoming}
use Rattle.launcher.specs.declared.host.Host.{Host}

-- The launcher took what came, and replied with this refusal or this text. The calls that edge and store record, what
-- the store holds, and the seconds of settings are those after such a turn. A refusal has no text. The launcher notes
-- whether what came was a load that was accepted.
pub record TakesTurn {T E W : Type 0} (calls : E → Option (List ToldCall)) (stores : T → Option (List StoreCall))
    (holds : T → List Setting → Type 0) (seconds : T → List Stamp → Type 0) (incoming : Option Incoming)
    (refusal : Option Refusal) (words : List ℕ) (old new : Host T E W) : Type 0 where
  pub receives : HostReceives calls stores holds incoming refusal words old new
  pub stamped : HostStamps seconds incoming refusal old new
  pub quiet : is_some refusal ≡ true → words ≡ []
  pub loaded : new.has_loaded ≡ is_accepted_load incoming refusal
