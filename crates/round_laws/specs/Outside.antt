-- What is outside of the launcher of `jobd`, its edge and its store, by what they promise; and the passes over them.
use Rattle.std.specs.Prelude.{ℕ, Bool, List, Option, Result}
use Rattle.history_model.specs.declared.Obs.{Obs}
use Rattle.history_model.specs.declared.event.Setting.{Setting}
use Rattle.launcher_laws.specs.TurnRuns.{Turn}
use Rattle.child_edge.specs.Calls.{ToldCall}
use Rattle.child_edge.specs.declared.plain.EdgeFault.{EdgeFault}
use Rattle.outside.specs.Stores.{Stamp, StoreCall}
use Rattle.live_loop.specs.Rounds.{AreRounds, IsRound, Launcher as AnyLauncher, Left}
use Rattle.jobd.specs.declared.round_launcher.RoundLauncher.{RoundLauncher}
use Rattle.round_laws.specs.Marks.{Mark, turns_in}
use Rattle.round_laws.specs.RoundMarks.{launcher, marks_of, of_round}

-- the calls that each told, the settings that the store holds, and what the edge may answer
pub record Outside (T E : Type 0) : Type 1 where
  pub calls : E → Option (List ToldCall)
  pub stores : T → Option (List StoreCall)
  pub holds : T → List Setting → Type 0
  pub stamped : T → List Stamp → Type 0
  pub Finds : ℕ → Option (ℕ × ℕ) → E → E → Type 0
  pub Looks : List ℕ → Result Obs EdgeFault → E → E → Type 0
  pub Accepts : ℕ → E → E → Type 0
  pub Holds : ℕ → ℕ → List ℕ → Bool → E → E → Type 0

abbrev pub around : {T E : Type 0} → (E → Option (List ToldCall)) → (T → Option (List StoreCall)) → (T → List Setting → Type 0) →
    (T → List Stamp → Type 0) → (ℕ → Option (ℕ × ℕ) → E → E → Type 0) → (List ℕ → Result Obs EdgeFault → E → E → Type 0) →
    (ℕ → E → E → Type 0) → (ℕ → ℕ → List ℕ → Bool → E → E → Type 0) → Outside T E
around calls stores holds stamped Finds Looks Accepts Holds = record {
  calls = calls;
  stores = stores;
  holds = holds;
  stamped = stamped;
  Finds = Finds;
  Looks = Looks;
  Accepts = Accepts;
  Holds = Holds;
}

module _ {T E W : Type 0} (by : Outside T E) where
  -- the launcher of `jobd` over them
  abbrev pub jobds : AnyLauncher (RoundLauncher T E W)
  jobds = launcher by.calls by.stores by.holds by.stamped by.Finds by.Looks by.Accepts by.Holds

  -- one pass, and any passes, one after another
  abbrev pub IsPass : (old new : Left (RoundLauncher T E W)) → Type 0
  IsPass old new = IsRound jobds old new

  abbrev pub ArePasses : (first last : Left (RoundLauncher T E W)) → Type 0
  ArePasses first last = AreRounds jobds first last

  -- what they deliver, and the turns of that
  abbrev pub delivered : {first last : Left (RoundLauncher T E W)} → ArePasses first last → List (Mark T)
  delivered passes = marks_of by.calls by.stores by.holds by.stamped by.Finds by.Looks by.Accepts by.Holds passes

  abbrev pub delivered_in : {old new : Left (RoundLauncher T E W)} → IsPass old new → List (Mark T)
  delivered_in {old = old} {new = new} pass = of_round by.calls by.stores by.holds by.stamped by.Finds by.Looks by.Accepts by.Holds old new pass

  abbrev pub turns : {first last : Left (RoundLauncher T E W)} → ArePasses first last → List (Turn T)
  turns passes = turns_in (delivered passes)

  abbrev pub turns_of_pass : {old new : Left (RoundLauncher T E W)} → IsPass old new → List (Turn T)
  turns_of_pass pass = turns_in (delivered_in pass)
