-- What is written for the lines of an input.
use Rattle.std.specs.Prelude.{◌≡◌, ◌⊎◌, ℕ, List, [], ◌∷◌, map, Option, Some, None}
use Rattle.std.specs.List.{flat_map}
use Rattle.history_model.specs.Machine.{State}
use Rattle.history_model.specs.Step.{outcomes}
use Rattle.calendar_due.specs.Offsets.{Offsets}
use Rattle.ctl_protocol.specs.declared.header.Header.{Header}
use Rattle.ctl_protocol.specs.Headers.{header_at}
use Rattle.ctl_protocol.specs.OutcomeLines.{outcome_line}
use Rattle.table_opening.specs.Openings.{Describes, IsNoZone, opened_by}
use Rattle.table_opening.specs.JournalEvents.{event_in}

-- the machine that a header's line opens
pub record Opens (line : List ℕ) (s : State) : Type 0 where
  pub header : Header
  pub read : header_at line ≡ Some header
  pub ahead : Offsets
  pub describes : Describes header.zone ahead
  pub state : s ≡ opened_by header ahead

-- a line that is read as a header, whose zone is none
pub record HasNoZone (line : List ℕ) : Type 0 where
  pub header : Header
  pub read : header_at line ≡ Some header
  pub none : IsNoZone header.zone

-- the line opens no machine
abbrev pub IsNoHeader : List ℕ → Type 0
IsNoHeader line = (header_at line ≡ None) ⊎ HasNoZone line

-- the outcome lines of these event lines
abbrev pub output_from : State → List (List ℕ) → List ℕ
output_from s lines = flat_map outcome_line (outcomes (map event_in lines) s)

-- this is written for all lines of an input: the first is the header, and each later one an event
abbrev pub IsOutput : List (List ℕ) → Option (List ℕ) → Type 0
IsOutput [] None = Unit {0}
IsOutput [] (Some text) = ⊥
IsOutput (header ∷ lines) None = IsNoHeader header
IsOutput (header ∷ lines) (Some text) = (s : State) × Opens header s × (text ≡ output_from s lines)
