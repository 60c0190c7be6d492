-- The exit status of property lists that are written as definitions.
use Rattle.std.specs.Prelude.{◌≡◌, ℕ, Bool, if◌then◌else◌}
use Rattle.exit_status.specs.declared.TheConstants.{BAD_FILE, REFUSED}

-- a file could not be read or written; a list was refused; or all is well
abbrev pub list_status : Bool → Bool → ℕ
list_status unread refused = if unread then BAD_FILE else if refused then REFUSED else 0

-- it is one of these three
abbrev pub IsListStatus : ℕ → Type 0
IsListStatus status = (unread refused : Bool) × (status ≡ list_status unread refused)
