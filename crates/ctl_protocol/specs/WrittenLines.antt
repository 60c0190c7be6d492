-- The parts of a line as the launcher writes it, each with the bytes after it.
use Rattle.std.specs.Prelude.{◌≡◌, ◌<◌, ◌^◌, ℕ, List, ◌∷◌, ◌++◌, codes, decimal, Bool, true, Option, Some, IfSome}
use Rattle.std.specs.Str.{IsUtf8}
use Rattle.json.specs.Print.{escape}
use Rattle.serde_json.specs.Data.{boolean}
use Rattle.serde_json.specs.Written.{compact_text}
use Rattle.history_model.specs.Labels.{is_label}
use Rattle.history_model.specs.declared.event.Event.{Event}
use Rattle.ctl_protocol.specs.EventLines.{event_at}

-- where there is an answer, it is the event that the line is
abbrev pub Tells : List ℕ → Option Event → Type 0
Tells line answer = IfSome answer (λ e. event_at line ≡ Some e)

-- after a text comes a number of 64 bits, and then the rest
abbrev pub IsNumberAfter : List ℕ → List ℕ → ℕ → List ℕ → Type 0
IsNumberAfter text bytes n rest = (bytes ≡ text ++ (decimal n ++ rest)) × (n < 2 ^ 64)

-- after a text comes a flag, and then the rest
abbrev pub IsFlagAfter : List ℕ → List ℕ → Bool → List ℕ → Type 0
IsFlagAfter text bytes set rest = bytes ≡ text ++ (compact_text (boolean set) ++ rest)

-- a text of UTF-8 that is written without escapes, its closing quote, and then the rest
abbrev pub IsTextThen : List ℕ → List ℕ → List ℕ → Type 0
IsTextThen bytes text rest = (bytes ≡ text ++ 34 ∷ rest) × (escape text ≡ text) × IsUtf8 text

-- the same of a label
abbrev pub IsLabelThen : List ℕ → List ℕ → List ℕ → Type 0
IsLabelThen bytes job rest = IsTextThen bytes job rest × (is_label job ≡ true)

-- a label, the run after it, and no more
abbrev pub IsRunOf : List ℕ → List ℕ → ℕ → Type 0
IsRunOf bytes job run =
    IsLabelThen bytes job (codes ",\"run\":" ++ (decimal run ++ codes "}")) × (run < 2 ^ 64)

-- a label, the answer to a TERM or KILL, its run, and no more
abbrev pub IsAnswerOf : List ℕ → List ℕ → Bool → ℕ → Type 0
IsAnswerOf bytes job ok run =
    IsLabelThen bytes job
    (codes ",\"ok\":" ++ (compact_text (boolean ok) ++ (codes ",\"run\":" ++ (decimal run ++ codes "}"))))
    × (run < 2 ^ 64)
