-- What going over a piece of a stream finds: whether each line fits, or if one does not.
use Rattle.std.specs.Prelude.{◌≡◌, ◌<◌, ◌≤◌, ◌+◌, ◌-◌, ℕ, List, [], ◌∷◌, Option, Some, None, length, take, true, false, ◌&&◌, nat_lt, if◌then◌else◌}
use Rattle.std.specs.List.{list_all, take_while}
use Rattle.ctl_protocol.specs.declared.cut.Scan.{Scan}
use Rattle.ctl_protocol.specs.declared.cut.Scan.TheVariants.{Fits, Long}
use Rattle.ctl_protocol.specs.Lines.{lines_after, rest_after, lines_of, rest_of, is_short}

-- what was found, if `rest` has come of the first line: how much has come of the last line, or the byte that passes the limit.
-- The line has `n` bytes before that byte
abbrev pub IsScan : ℕ → List ℕ → List ℕ → Scan → Type 0
IsScan limit rest piece (Fits n) =
    (n ≡ length (rest_after rest piece)) × (n ≤ limit)
    × (list_all (is_short limit) (lines_after rest piece) ≡ true)
IsScan limit rest piece (Long at n) =
    (at < length piece) × (n ≡ length (rest_after rest (take at piece)))
    × (take_while (is_short limit) (lines_after rest piece) ≡ lines_after rest (take at piece))
    × ((list_all (is_short limit) (lines_after rest piece)
    && is_short limit (rest_after rest piece)) ≡ false)

-- what is found after the last newline of a piece, which ends at `begun`, if `n` bytes have come of the line there
abbrev pub last_scan : ℕ → List ℕ → ℕ → ℕ → Scan
last_scan limit piece begun n =
    if nat_lt (limit - n) (length piece - begun) then Long (begun + (limit - n)) limit
    else Fits (n + (length piece - begun))

-- the first line and its newline leave a buffer; None if it has no line
abbrev pub TakesLine : List ℕ → Option (List ℕ) → List ℕ → Type 0
TakesLine old None new = (lines_of old ≡ []) × (new ≡ old)
TakesLine old (Some line) new = (lines_of old ≡ line ∷ lines_of new) × (rest_of old ≡ rest_of new)
