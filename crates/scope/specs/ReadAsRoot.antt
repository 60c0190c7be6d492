-- Which files root reads whose paths others wrote.
use Rattle.std.specs.Prelude.{ℕ, Bool, false, ◌&&◌, ◌==◌, Option, Some, None, if◌then◌else◌}
use Rattle.scope.specs.declared.as_root.OpenedFile.{OpenedFile}

-- Of root's paths, plain files with one name to which no link leads. Of another user's, plain files of that user.
abbrev pub may_be_read : Option ℕ → OpenedFile → Bool
may_be_read None file = false
may_be_read (Some writer) file =
    if writer == 0 then file.is_plain && (file.names == 1 && file.is_direct)
    else file.is_plain && file.owner == writer
