-- `Label`, `Program` and `ProgramArguments` of launchd.plist(5): what is run, and under which name.
use Rattle.std.specs.Prelude.{ℕ, List, [], nat_lt, Result, Ok, Err, Option, Some, None, if◌then◌else◌}
use Rattle.serde_json.specs.Data.{Data, Items, no_items, item}
use Rattle.serde_json.specs.Events.{items_len}
use Rattle.serde_json.specs.Find.{get}
use Rattle.history_model.specs.declared.Reason.TheVariants.{Missing, TooLong, BadLabel}
use Rattle.history_model.specs.declared.KeyName.TheVariants.{Label, ProgramArguments}
use Rattle.history_model.specs.Machine.{Fault}
use Rattle.history_model.specs.RefusalTexts.{key_text}
use Rattle.history_model.specs.Labels.{is_label}
use Rattle.history_model.specs.KeyGroups.{Command}
use Rattle.json_kinds.specs.DefFaults.{bad, ◌>>=◌}
use Rattle.json_kinds.specs.JsonKinds.{text_at, array_at, plain_at, filled_at, each_item, required}

-- the label
unfoldable pub label_key : Data → Result (List ℕ) Fault
label_key d = do
  found ← required Label d
  text ← text_at Label found
  if is_label text then Ok text else Err (bad BadLabel Label)

-- an argument
abbrev pub word_at : Data → Result (List ℕ) Fault
word_at d = plain_at 4096 ProgramArguments d

-- with `Program` the first element is checked and not used; without it, it is the executable
unfoldable pub command_in : Option (List ℕ) → Items → Result Command Fault
command_in (Some program) no_items = Ok (record { program = program; arguments = [] })
command_in (Some program) (item first rest) = do
  unused ← word_at first
  arguments ← each_item word_at rest
  Ok (record { program = program; arguments = arguments })
command_in None no_items = Err (bad Missing ProgramArguments)
command_in None (item first rest) = do
  program ← filled_at 4096 ProgramArguments first
  arguments ← each_item word_at rest
  Ok (record { program = program; arguments = arguments })

-- at most 256 arguments
unfoldable pub command_at : Option (List ℕ) → Data → Result Command Fault
command_at program d = do
  words ← array_at ProgramArguments d
  if nat_lt 256 (items_len words) then Err (bad TooLong ProgramArguments)
      else command_in program words

-- one of `Program` and `ProgramArguments` has to be present
unfoldable pub command_key : Option (List ℕ) → Data → Result Command Fault
command_key program d = command_by program (get (key_text ProgramArguments) d) where
  command_by : Option (List ℕ) → Option Data → Result Command Fault
  command_by program (Some found) = command_at program found
  command_by (Some program) None = Ok (record { program = program; arguments = [] })
  command_by None None = Err (bad Missing ProgramArguments)
