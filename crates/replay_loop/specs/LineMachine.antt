-- The machine that a run drives: a header line opens it, and it answers each line after that.
use Rattle.std.specs.Prelude.{◌≡◌, ℕ, List, [], ◌∷◌, ◌++◌, Option, Some, None}

-- the bytes of a line without its newline, or of what is written
abbrev pub Bytes : Type 0
Bytes = List ℕ

-- lines, each without its newline
abbrev pub Lines : Type 0
Lines = List Bytes

-- the bytes that a reader has left, or that a writer holds, if they are known
abbrev pub Held : Type 0
Held = Option Bytes

-- this is written for all lines of an input, the header first; nothing, if the header is missing or
-- refused
abbrev pub Output : Type 1
Output = Lines → Option Bytes → Type 0

-- what an opened machine writes for the lines that still come
abbrev pub Future : Type 0
Future = Lines → Bytes

-- the machine will write this, and nothing without a line
abbrev pub Will : {M : Type 0} → (M → Future → Type 0) → M → Future → Type 0
Will will_write machine future = will_write machine future × (future [] ≡ [])

-- the header opens the machine that writes what is written for the rest of the input, or nothing
-- is, whatever follows
abbrev pub Opens : {M : Type 0} → Output → (M → Future → Type 0) → Bytes → Option M → Type 0
Opens output will_write header None = (lines : Lines) → output (header ∷ lines) None
Opens output will_write header (Some machine) =
    (future : Future) × Will will_write machine future
    × ((lines : Lines) → output (header ∷ lines) (Some (future lines)))

-- for a line the machine writes the text, and then what the new machine will write
abbrev pub GoesOn : {M : Type 0} → (M → Future → Type 0) → M → M → Bytes → Bytes → Type 0
GoesOn will_write old new line text =
    (future : Future) → will_write old future
    → (next : Future) × Will will_write new next
    × ((lines : Lines) → future (line ∷ lines) ≡ text ++ next lines)
