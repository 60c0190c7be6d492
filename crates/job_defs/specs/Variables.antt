-- `EnvironmentVariables` of launchd.plist(5).
use Rattle.std.specs.Prelude.{ℕ, ◌==◌, List, [], ◌∷◌, Bool, nat_lt, Result, Ok, Err, Option, Some, None, if◌then◌else◌}
use Rattle.std.specs.List.{list_any}
use Rattle.serde_json.specs.Data.{Data}
use Rattle.serde_json.specs.Events.{members_len}
use Rattle.serde_json.specs.Find.{get, as_str}
use Rattle.history_model.specs.declared.Reason.TheVariants.{OutOfRange, TooLong}
use Rattle.history_model.specs.declared.KeyName.TheVariants.{EnvironmentVariables}
use Rattle.history_model.specs.Machine.{Fault}
use Rattle.history_model.specs.RefusalTexts.{key_text}
use Rattle.history_model.specs.declared.definition.parts.Variable.{Variable}
use Rattle.json_kinds.specs.DefFaults.{bad, ◌>>=◌}
use Rattle.json_kinds.specs.Names.{Key}
use Rattle.json_kinds.specs.JsonKinds.{object_at, plain, filled, each_member, where_there}

-- the byte `=`
abbrev pub is_equals : ℕ → Bool
is_equals b = b == 61

-- a value that is not a string is left out
unfoldable pub variable_by : Key → Option (List ℕ) → Result (List Variable) Fault
variable_by name None = Ok []
variable_by name (Some text) = do
  value ← plain 4096 EnvironmentVariables text
  Ok (record { name = name; value = value } ∷ [])

-- a variable's name, and then its value
unfoldable pub variable_in : Key → Data → Result (List Variable) Fault
variable_in key d = do
  name ← filled 255 EnvironmentVariables key
  if list_any is_equals name then Err (bad OutOfRange EnvironmentVariables)
      else variable_by name (as_str d)

-- at most 128 variables
unfoldable pub environment_at : Data → Result (List Variable) Fault
environment_at d = do
  variables ← object_at EnvironmentVariables d
  if nat_lt 128 (members_len variables) then Err (bad TooLong EnvironmentVariables)
      else each_member variable_in variables

-- without the key there are none
unfoldable pub environment_key : Data → Result (List Variable) Fault
environment_key d = where_there environment_at [] (get (key_text EnvironmentVariables) d)
