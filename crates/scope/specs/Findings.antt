-- The exit status of a report on journals or on a status file, by what it found.
use Rattle.std.specs.Prelude.{◌≡◌, ℕ, Bool, ◌||◌, Result, IfOk, if◌then◌else◌}
use Rattle.std.specs.declared.io.Error.{Error}
use Rattle.exit_status.specs.declared.TheConstants.{USAGE, BAD_FILE, BAD_CLOCK, DIFFERS}
use Rattle.scope.specs.declared.found.Findings.{Findings}
use Rattle.scope.specs.declared.journal.fault.JournalFault.{JournalFault}
use Rattle.scope.specs.declared.journal.fault.JournalFault.TheVariants.{Clock}
use Rattle.scope.specs.declared.found.TheConstants.{NO_CLOCK, UNREADABLE}
use Rattle.scope.specs.declared.subcommands.Part.{Part}
use Rattle.scope.specs.declared.subcommands.Part.TheVariants.{Journals}
use Rattle.scope.specs.declared.subcommands.Statuses.{Statuses}

-- what either of two parts found
abbrev pub both_found : Findings → Findings → Findings
both_found one other = record {
  has_no_clock = one.has_no_clock || other.has_no_clock;
  is_unreadable = one.is_unreadable || other.is_unreadable;
  is_damaged = one.is_damaged || other.is_damaged;
  is_nowhere = one.is_nowhere || other.is_nowhere;
  is_misused = one.is_misused || other.is_misused;
  differs = one.differs || other.differs;
}

-- the source is at fault: it was not read whole, a line of it is not an event, or nothing in it has a label
abbrev pub is_faulty : Findings → Bool
is_faulty f = (f.is_unreadable || f.is_damaged) || f.is_nowhere

-- the greatest status that something found asks for, or 0
abbrev pub findings_status : Findings → ℕ
findings_status f =
    if f.has_no_clock then BAD_CLOCK
    else (if is_faulty f then BAD_FILE
    else (if f.is_misused then USAGE
    else (if f.differs then DIFFERS else 0)))

-- what a fault that ends a journal's reading means: the clock can't be read, else the journal can't
abbrev pub found_by : JournalFault → Findings
found_by Clock = NO_CLOCK
found_by _ = UNREADABLE

-- each of the two statuses is that of what a step found
abbrev pub AreFound : Statuses → Type 0
AreFound statuses =
    (before : Findings) × (last : Findings)
    × (statuses ≡ record { before = findings_status before; last = findings_status last })

-- The part ends so: what reads journals, with the statuses of what it found. Nothing is said here of the other parts.
abbrev pub EndsAs : Part → Result Statuses Error → Type 0
EndsAs Journals ended = IfOk ended AreFound
EndsAs _ ended = Unit {0}
