-- The label that a target names: `LABEL`, `system/LABEL`, `user/N/LABEL` or `gui/N/LABEL`, as
-- launchctl(1) writes it.
use Rattle.std.specs.Prelude.{◌≡◌, ℕ, List, length, true, false, Bool, not, ◌==◌, ◌&&◌, ◌||◌, nat_le, nat_lt, Option, Some, None, option_and_then, if◌then◌else◌, codes}
use Rattle.std.specs.List.{list_any, list_all, before_first, after_first}
use Rattle.std.specs.Borrow.{Bor}
use Rattle.std.specs.Str.{bytes_eq}
use Rattle.history_model.specs.Labels.{is_label}
use Rattle.json_kinds.specs.Digits.{is_digit}

-- the byte `/`
abbrev pub is_slash : ℕ → Bool
is_slash b = b == 47

-- one to ten decimal digits
abbrev pub is_user_number : List ℕ → Bool
is_user_number text = nat_lt 0 (length text) && nat_le (length text) 10 && list_all is_digit text

-- the number of a user, a slash, and what comes after it
unfoldable pub behind_number : List ℕ → Option (List ℕ)
behind_number text =
    if list_any is_slash text && is_user_number (before_first is_slash text)
    then Some (after_first is_slash text)
    else None

-- the domain of one user
abbrev pub is_user_domain : List ℕ → Bool
is_user_domain text = bytes_eq text (codes "user") || bytes_eq text (codes "gui")

-- what comes after the domain
unfoldable pub behind_domain : List ℕ → Option (List ℕ)
behind_domain text =
    if not (list_any is_slash text) then Some text
    else if bytes_eq (before_first is_slash text) (codes "system")
    then Some (after_first is_slash text)
    else if is_user_domain (before_first is_slash text)
    then behind_number (after_first is_slash text)
    else None

-- the text, if it is a label
abbrev pub if_label : List ℕ → Option (List ℕ)
if_label text = if is_label text then Some text else None

-- the label after the domain
unfoldable pub label_named : List ℕ → Option (List ℕ)
label_named text = option_and_then if_label (behind_domain text)

-- what comes before the first slash and after it; None if there is no slash
abbrev pub SplitsAtSlash : List ℕ → Option (Bor (List ℕ) × Bor (List ℕ)) → Type 0
SplitsAtSlash text None = list_any is_slash text ≡ false
SplitsAtSlash text (Some parts) =
    (list_any is_slash text ≡ true) × (parts.0.now ≡ before_first is_slash text)
    × (parts.1.now ≡ after_first is_slash text)
