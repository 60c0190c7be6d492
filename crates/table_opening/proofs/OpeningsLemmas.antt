-- The table of a header whose zone was read.
use Rattle.std.proofs.Common.{◌≡◌, ◌≤◌, inl, inr, ℕ, Bool, true, false, List, length, Some, None, refl, arith}
use Rattle.std.specs.Prelude.{◌⊎◌, not}
use Rattle.std.specs.List.{list_all}
use Rattle.history_model.specs.declared.Refusal.{Refusal}
use Rattle.history_model.specs.declared.Refusal.TheVariants.{BadRequest, ClockRefused}
use Rattle.history_model.specs.declared.Reading.{Reading}
use Rattle.history_model.specs.declared.event.Setting.{Setting}
use Rattle.history_model.specs.Labels.{is_label}
use Rattle.history_model.specs.Machine.{opened}
use Rattle.history_model.specs.Refusals.{is_clock_refused}
use Rattle.history_model.specs.Acceptance.{refused_if}
use Rattle.calendar_due.specs.declared.zone.Zone.{Zone}
use Rattle.calendar_due.specs.Offsets.{Offsets}
use Rattle.calendar_due.specs.ZoneRules.{offsets, minute_at}
use Rattle.calendar_due.specs.Zone.{IsBadFile, IsOfTable}
use Rattle.calendar_due.proofs.RuleLemmas.{agrees-not-bad}
use Rattle.calendar_due.specs.declared.zone.TheConstants.{LONGEST_FILE}
use Rattle.loaded_jobs.specs.Tables.{Table}
use Rattle.loaded_jobs.specs.StandsFor.{KeepsState}
use Rattle.loaded_jobs.specs.Opening.{opening_refusal}
use Rattle.ctl_protocol.specs.declared.header.Header.{Header}
use Rattle.ctl_protocol.specs.declared.header.ZoneText.{ZoneText}
use Rattle.ctl_protocol.specs.declared.header.ZoneText.TheVariants.{Posix, Offset, File}
use Rattle.table_opening.specs.Openings.{Describes, IsNoZone, StandsOpened}

-- the machine of a header, in the zone that it tells
pub opened_in : (header : Header) (zone : Zone) (table : Table) → Describes header.zone (offsets zone)
    → KeepsState table (opened (record { reading = header.reading; zone = minute_at zone; overrides = header.overrides }))
    → opening_refusal header.reading header.overrides ≡ None → StandsOpened header table
unfolding minute_at
opened_in header zone table describes keeps admitted = record {
  machine = opened (record { reading = header.reading; zone = minute_at zone; overrides = header.overrides });
  opens = record { ahead = offsets zone; describes = describes; state = refl };
  kept = keeps;
  admitted = admitted;
}

-- the table is refused for the names first
pub bad_label : (at : Reading) (overrides : List Setting) → opening_refusal at overrides ≡ Some BadRequest → list_all (λ setting. is_label setting.label) overrides ≡ false
bad_label at overrides is = go (list_all (λ setting. is_label setting.label) overrides) (is_clock_refused at at) is where
  go : (b late : Bool) → refused_if (not b) BadRequest (refused_if late ClockRefused None) ≡ Some BadRequest → b ≡ false
  go false late is = refl
  go true true is = cc
  go true false is = cc

-- and then for the clock reading alone
pub bad_reading : (at : Reading) (overrides : List Setting) (r : Refusal) → opening_refusal at overrides ≡ Some r → (r ≡ BadRequest → ⊥) → is_clock_refused at at ≡ true
bad_reading at overrides r is other = go (list_all (λ setting. is_label setting.label) overrides) (is_clock_refused at at) is where
  go : (b late : Bool) → refused_if (not b) BadRequest (refused_if late ClockRefused None) ≡ Some r → late ≡ true
  go false late is = let same : r ≡ BadRequest = cc in absurd (other same)
  go true true is = refl
  go true false is = cc

-- ---- a zone that is one is not none

file_or_none : (bytes : List ℕ) (ahead : Offsets) → length bytes ≤ LONGEST_FILE → IsOfTable bytes ahead → IsBadFile bytes → ⊥
file_or_none bytes ahead short is (inl long) = omega (arith, short, long)
file_or_none bytes ahead short is (inr (inl unreadable)) = cc (is.read, unreadable.is_fault)
file_or_none bytes ahead short is (inr (inr bad)) = agrees-not-bad is.table _ is.read is.agrees bad

-- what describes a clock is not a missing zone
pub zone_or_none : (zone : ZoneText) (ahead : Offsets) → Describes zone ahead → IsNoZone zone → ⊥
zone_or_none (Posix text) ahead is none = cc (is.read, none)
zone_or_none (Offset seconds) ahead is none = none is.0
zone_or_none (File bytes) ahead is none = file_or_none bytes ahead is.0 is.1 none

-- a header that a table represents has a zone, and a clock reading within its limits
pub stands_well : (header : Header) (table : Table) → StandsOpened header table → IsNoZone header.zone ⊎ (is_clock_refused header.reading header.reading ≡ true) → ⊥
stands_well header table stands (inl none) = zone_or_none header.zone stands.opens.ahead stands.opens.describes none
stands_well header table stands (inr late) = go (list_all (λ setting. is_label setting.label) header.overrides) (is_clock_refused header.reading header.reading) stands.admitted late where
  go : (b past : Bool) → refused_if (not b) BadRequest (refused_if past ClockRefused None) ≡ None → past ≡ true → ⊥
  go false past none is = cc
  go true true none is = cc
  go true false none is = cc
