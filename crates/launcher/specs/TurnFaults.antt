-- Why a launcher could not be made.
use Rattle.std.specs.Prelude.{◌≡◌, ◌⊎◌, true, false, List, map, Result, Ok, Err}
use Rattle.std.specs.List.{list_all}
use Rattle.history_model.specs.declared.event.Setting.{Setting}
use Rattle.history_model.specs.Labels.{is_label}
use Rattle.history_model.specs.MachineLaws.{AreInOrder}
use Rattle.history_model.specs.Refusals.{is_clock_refused}
use Rattle.ctl_protocol.specs.declared.header.Header.{Header}
use Rattle.loaded_jobs.specs.Tables.{Table}
use Rattle.outside.specs.declared.store.StoreFault.{StoreFault}
use Rattle.outside.specs.declared.store.StoreFault.TheVariants as answers
use Rattle.table_opening.specs.Openings.{IsNoZone, StandsOpened}
use Rattle.launcher.specs.declared.host.HostFault.{HostFault}
use Rattle.launcher.specs.declared.host.HostFault.TheVariants as faults
use Rattle.launcher.specs.Hosts.{with_overrides}

-- the header opens no machine: its zone is none, or its clock reading is past a limit
abbrev pub IsBadHeader : Header → Type 0
IsBadHeader header = IsNoZone header.zone ⊎ (is_clock_refused header.reading header.reading ≡ true)

-- Header is answered only if the header opens no machine
abbrev pub IsFaultOf : Header → HostFault → Type 0
IsFaultOf header faults.NoMemory = Unit {0}
IsFaultOf header faults.Store = Unit {0}
IsFaultOf header faults.Header = IsBadHeader header

-- and no launcher is made of such a header
abbrev pub FaultOf : {A : Type 0} → Header → Result A HostFault → Type 0
FaultOf header (Ok made) = IsBadHeader header → ⊥
FaultOf header (Err fault) = IsFaultOf header fault

-- what a fault of the store is to the launcher
abbrev pub fault_of_store : StoreFault → HostFault
fault_of_store answers.NoMemory = faults.NoMemory
fault_of_store answers.Refused = faults.Store

-- one of the settings is of a name that is not a label, or their names are not each before all that
-- follow, in byte order
abbrev pub AreBadSettings : List Setting → Type 0
AreBadSettings settings =
    (list_all (λ (setting : Setting). is_label setting.label) settings ≡ false)
    ⊎ (AreInOrder (map (λ (setting : Setting). setting.label) settings) → ⊥)

-- Of a header with the settings that the store gave. Store is answered only if these are not of labels in byte order.
-- Header is answered only if the header opens no machine. Memory may be refused at any time.
abbrev pub IsFaultWith : Header → HostFault → Type 0
IsFaultWith header faults.NoMemory = Unit {0}
IsFaultWith header faults.Store = AreBadSettings header.overrides
IsFaultWith header faults.Header = IsBadHeader header

-- The fault of the store is the launcher's. With the settings that it gave, oldest first, the
-- header opens the launcher's table, and the launcher is new with them, or there is such a fault.
abbrev pub ComesOf : {A : Type 0} → (A → Table) → (List Setting → A → Type 0) → Header →
    Result (List Setting) StoreFault → Result A HostFault → Type 0
ComesOf table is_new header (Err fault) result = result ≡ Err (fault_of_store fault)
ComesOf table is_new header (Ok settings) (Ok made) =
    StandsOpened (with_overrides header settings) (table made) × is_new settings made
ComesOf table is_new header (Ok settings) (Err fault) =
    IsFaultWith (with_overrides header settings) fault
