-- What a replay writes of the journal of a launcher.
use Rattle.std.specs.Prelude.{◌≡◌, ℕ, List, ◌++◌, Option, Some}
use Rattle.std.specs.List.{flat_map}
use Rattle.std.specs.Io.KnownBytes.{Appends}
use Rattle.ctl_protocol.specs.declared.header.Header.{Header}
use Rattle.ctl_protocol.specs.EventWriter.{event_line}
use Rattle.ctl_protocol.specs.HeaderLines.{header_line}
use Rattle.ctl_protocol.specs.OutcomeLines.{outcome_line}
use Rattle.replay_loop.specs.ReplayOutcomes.{input_lines}
use Rattle.replay_loop.specs.Reading.{Finished}
use Rattle.table_opening.specs.Output.{IsOutput}
use Rattle.launcher_laws.specs.TurnRuns.{Turn, Part, AreParts, events_in, outcomes_in}

-- the lines of all outcomes, turn by turn
abbrev pub outcome_texts : List Part → List ℕ
outcome_texts parts = flat_map outcome_line (outcomes_in parts)

-- The journal's bytes are the line of the header and the lines of the events of these turns. The
-- output of its lines are the outcomes of the turns, and so a replay of these bytes that ends well,
-- as its contract says it, has written them.
pub record IsReplayed {T : Type 0} (header : Header) (turns : List (Turn T))
    (bytes : List ℕ) : Type 0 where
  pub parts : List Part
  pub are_parts : AreParts turns parts
  pub lines : bytes ≡ header_line header ++ flat_map event_line (events_in parts)
  pub output : IsOutput (input_lines bytes) (Some (outcome_texts parts))
  pub writes : (rest held holds : Option (List ℕ)) →
      Finished IsOutput (Some bytes) rest held holds → Appends held holds (outcome_texts parts)
