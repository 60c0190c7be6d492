-- Since when a label is disabled, by what was seen of it from time to time.
use Rattle.std.specs.Prelude.{Bool, true, false, Option, Some, None, ◌==◌, if◌then◌else◌}
use Rattle.history_model.specs.declared.Reading.{Reading}
use Rattle.status_file.specs.declared.settings_made.SeenSetting.{SeenSetting}

abbrev pub is_same_flag : Bool → Bool → Bool
is_same_flag true flag = flag
is_same_flag false true = false
is_same_flag false false = true

-- What is seen at a clock reading, after what was seen before. Another flag than before was set since then. Of a job that is seen for the first time
-- it is not known when its flag was set.
abbrev pub seen_on : Option SeenSetting → Bool → Reading → SeenSetting
seen_on None flag at = record { is_disabled = flag; at = None }
seen_on (Some seen) flag at =
    if is_same_flag seen.is_disabled flag then seen else record { is_disabled = flag; at = Some at }

-- since when a label is disabled, as far as it is known
abbrev pub known_since : Option SeenSetting → Option Reading
known_since None = None
known_since (Some seen) = if seen.is_disabled then seen.at else None
