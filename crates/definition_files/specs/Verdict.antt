-- The verdict of a check is that of a load.
use Rattle.std.specs.Prelude.{◌≡◌, Result, Ok, Err}
use Rattle.history_model.specs.Described.{Described}
use Rattle.history_model.specs.Machine.{Fault}
use Rattle.json_kinds.specs.DefFaults.{bad}
use Rattle.definition_files.specs.Mistakes.{mistakes_of}
use Rattle.definition_files.specs.declared.check.checked.Checked.{Checked}
use Rattle.definition_files.specs.declared.check.checked.Checked.TheVariants.{Loads, Refused}

-- what a load says of the bytes is this definition, which has exactly these mistakes; or a refusal for this
-- reason at this key
abbrev pub IsVerdict : Result Described Fault → Checked → Type 0
IsVerdict said (Loads def mistakes finding_list) =
    (said ≡ Ok def) × (mistakes.items ≡ mistakes_of def)
IsVerdict said (Refused reason key place text further) = said ≡ Err (bad reason key)
