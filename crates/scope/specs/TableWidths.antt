-- The room for labels in the table of `status`.
use Rattle.std.specs.Prelude.{ℕ, ◌-◌, nat_lt, if◌then◌else◌}

-- how many columns a label has in a table of this width: from 90 columns on memory and processor time take 13 of them
abbrev pub label_room : ℕ → ℕ
label_room columns = if nat_lt columns 90 then columns - 65 else columns - 78
