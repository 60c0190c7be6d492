-- The zones that a text or a file describes.
use Rattle.std.specs.Prelude.{◌≡◌, ◌<◌, ◌⊎◌, ℕ, List, length, Some, Ok, Err}
use Rattle.jiff_tz.specs.PosixReader.{read_whole}
use Rattle.jiff_tz.specs.PosixText.{tz_view}
use Rattle.jiff_tz.specs.PosixRule.{offset_at as rule_offset}
use Rattle.jiff_tz.specs.Tzif.{tzif_view, RuleAgrees, HasBadRule, offset_at as table_offset}
use Rattle.jiff_tz.specs.TzifReader.{read_tzif}
use Rattle.jiff_tz.specs.declared.posix.TimeZone.{TimeZone as Rule}
use Rattle.jiff_tz.specs.declared.tzif.Tzif.{Tzif as Table}
use Rattle.jiff_core.specs.declared.error.TzifFault.{TzifFault}
use Rattle.calendar_due.specs.Offsets.{Offsets, nanos_at}
use Rattle.calendar_due.specs.declared.zone.TheConstants.{LONGEST_FILE}

-- the offsets of a POSIX rule
abbrev pub offsets_of_rule : Rule → Offsets
offsets_of_rule rule second = (rule_offset rule (nanos_at second)).seconds

-- the offsets of a zone file's table
abbrev pub offsets_of_table : Table → Offsets
offsets_of_table table second = (table_offset table (nanos_at second)).seconds

-- the offsets are those of the rule that the text reads as
pub record IsOfRule (text : List ℕ) (ahead : Offsets) : Type 0 where
  pub rule : Rule
  pub read : read_whole text ≡ Some (tz_view rule)
  pub offsets : ahead ≡ offsets_of_rule rule

-- the offsets are those of the table that the bytes read as, whose footer agrees with its last row
pub record IsOfTable (bytes : List ℕ) (ahead : Offsets) : Type 0 where
  pub table : Table
  pub read : read_tzif bytes ≡ Ok (tzif_view table)
  pub agrees : RuleAgrees table
  pub offsets : ahead ≡ offsets_of_table table

-- the bytes are not a zone file, by the first fault in them
pub record IsUnreadable (bytes : List ℕ) : Type 0 where
  pub fault : TzifFault
  pub is_fault : read_tzif bytes ≡ Err fault

-- a zone file that is refused: it is too long, no zone file, or its footer does not agree with its
-- last row
abbrev pub IsBadFile : List ℕ → Type 0
IsBadFile bytes =
    (LONGEST_FILE < length bytes) ⊎ (IsUnreadable bytes ⊎ HasBadRule (read_tzif bytes))
