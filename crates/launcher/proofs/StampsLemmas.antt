-- The seconds of settings, after what a launcher heard.
use Rattle.std.proofs.Common.{◌≡◌, Bool, true, false, List, Option, Some, refl, sym, subst}
use Rattle.history_model.specs.declared.Refusal.{Refusal}
use Rattle.history_model.specs.Labels.{Label}
use Rattle.history_model.specs.Machine.{State}
use Rattle.loaded_jobs.specs.Tables.{Table}
use Rattle.loaded_jobs.specs.StandsFor.{KeepsState}
use Rattle.outside.specs.Stores.{HoldsAfter, Stamp}
use Rattle.launcher.specs.Inputs.{asked}
use Rattle.launcher.specs.JournaledLines.{setting_asked}
use Rattle.launcher.specs.LoadTurns.{stamps_after}
use Rattle.launcher.proofs.LoadTurnsLemmas.{unstamped}
use Rattle.launcher.specs.Hosts.{label_asked}

-- what was refused left the seconds
pub refused_stamps : {S : Type 0} (Stamped : S → List Stamp → Type 0) (label : Option Label) (refusal : Option Refusal) (r : Refusal) (table : Table) (store : S) → refusal ≡ Some r →
    (s : State) → KeepsState table s → HoldsAfter Stamped (stamps_after label refusal s.reading.wall) store store
refused_stamps Stamped label refusal r table store is = λ s keeps stamps had.
    subst (λ (o : Option Refusal). Stamped store (stamps_after label o s.reading.wall stamps)) (sym is) (subst (Stamped store) (sym (unstamped label r s.reading.wall stamps)) had)

-- ---- what was set

pub set_asked : (job : Label) (disabled unload : Bool) → label_asked (Some (asked (setting_asked job disabled unload))) ≡ Some job
set_asked job disabled true = refl
set_asked job disabled false = refl
