-- A launcher as it is made.
use Rattle.std.proofs.Common.{◌≡◌, ◌≤◌, Bool, true, false, List, [], Option, None, refl, sym, ap, subst, arith}
use Rattle.std.specs.Prelude.{reverse, not, nat_lt, ◌||◌}
use Rattle.std.specs.List.{list_all}
use Rattle.std.proofs.lemmas.Bool.Decides.{nat_tests}
use Rattle.history_model.specs.declared.Reading.{Reading}
use Rattle.history_model.specs.declared.Refusal.TheVariants.{BadRequest, ClockRefused}
use Rattle.history_model.specs.declared.TheConstants.{MAX_UP, MAX_WALL}
use Rattle.history_model.specs.declared.event.Setting.{Setting}
use Rattle.history_model.specs.Labels.{is_label}
use Rattle.history_model.specs.Machine.{State, opened}
use Rattle.history_model.specs.Machine as machine
use Rattle.history_model.specs.Acceptance.{refused_if}
use Rattle.calendar_due.specs.Offsets.{shown_by}
use Rattle.ctl_protocol.specs.declared.header.Header.{Header}
use Rattle.ctl_protocol.specs.HeaderLines.{header_line}
use Rattle.loaded_jobs.specs.Opening.{opening_refusal}
use Rattle.loaded_jobs.specs.Tables.{Table}
use Rattle.outside.specs.declared.store.StoreFault.{StoreFault}
use Rattle.outside.specs.declared.store.StoreFault.TheVariants as answers
use Rattle.outside.specs.Stores.{StoreCall, AreTold}
use Rattle.launcher.specs.Journals.{JournalState, Grows}
use Rattle.launcher.specs.HostTurns.{IsLed}
use Rattle.table_opening.specs.Openings.{OpensBy, StandsOpened}
use Rattle.launcher.specs.declared.host.HostFault.{HostFault}
use Rattle.launcher.specs.declared.host.HostFault.TheVariants as faults
use Rattle.launcher.specs.TurnFaults.{IsFaultOf, fault_of_store}
use Rattle.launcher.specs.Hosts.{with_overrides, IsNewWith}
use Rattle.launcher.specs.Writable.{IsWritableHeader}
use Rattle.child_edge.specs.Calls.{ToldCall}
use Rattle.launcher.specs.LoadTurns.{standing}

-- a clock reading that is refused nowhere is within its limit
within : (at : Reading) (overrides : List Setting) → opening_refusal at overrides ≡ None → at.up ≤ MAX_UP
within at overrides admitted = go (list_all (λ setting. is_label setting.label) overrides) (nat_lt at.up at.up) (nat_lt MAX_UP at.up) (nat_lt MAX_WALL at.wall) refl admitted where
  go : (b low high late : Bool) → nat_lt MAX_UP at.up ≡ high → refused_if (not b) BadRequest (refused_if (low || high || late) ClockRefused None) ≡ None → at.up ≤ MAX_UP
  go false low high late is none = cc
  go true true high late is none = cc
  go true false true late is none = cc
  go true false false late is none = grind (arith, nat_tests, is)

-- the machine that a header opens is as events lead to it
led_opened : (h : machine.Header) → h.reading.up ≤ MAX_UP → IsLed (opened h)
led_opened h high = record { orderly = record { range = high; order = tt; labels = tt }; few = grind (arith) }

pub led_first : (header : Header) (s : State) → OpensBy header s → opening_refusal header.reading header.overrides ≡ None → IsLed s
led_first header s opens admitted = subst IsLed (sym opens.state) (led_opened (record { reading = header.reading; zone = shown_by opens.ahead; overrides = header.overrides }) (within header.reading header.overrides admitted))

pub made_new : (header : Header) (settings : List Setting) (table : Table) (calls : Option (List ToldCall)) (stores stores' : Option (List StoreCall)) (first noted : JournalState) (before after : List Setting → Type 0) →
    StandsOpened (with_overrides header settings) table → IsWritableHeader (with_overrides header settings) → AreTold stores [] stores' → Grows first noted (header_line (with_overrides header settings)) → ((list : List Setting) → before list → after (reverse settings)) →
    IsNewWith settings header calls stores first (standing table calls stores' noted) before after
made_new header settings table calls stores stores' first noted before after stands told uncalled grew holds = (
  record {
    settings = settings;
    machine = stands.machine;
    opens = stands.opens;
    led = led_first (with_overrides header settings) stands.machine stands.opens stands.admitted;
    kept = stands.kept;
    none = refl;
    uncalled = uncalled;
    noted = grew;
    writable = told;
    stored = λ list held. subst after (sym (ap (λ (s : State). s.settings) stands.opens.state)) (holds list held);
  },
  refl,
)

-- ---- faults

-- a fault of the store says nothing of the header
pub stores_fault : (header : Header) (fault : StoreFault) → IsFaultOf header (fault_of_store fault)
stores_fault header answers.NoMemory = tt
stores_fault header answers.Refused = tt

-- the header's own settings are not part of its fault
pub same_fault : (header : Header) (settings : List Setting) (fault : HostFault) → IsFaultOf (with_overrides header settings) fault → IsFaultOf header fault
same_fault header settings faults.NoMemory is = tt
same_fault header settings faults.Store is = tt
same_fault header settings faults.Header is = is
