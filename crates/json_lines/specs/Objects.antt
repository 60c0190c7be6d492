-- An object of JSON (RFC 8259) as it is within a line.
use Rattle.std.specs.Prelude.{◌≡◌, ℕ, Bool, true, false, List, [], ◌∷◌, ◌++◌, ◌||◌, ◌==◌, ◌+◌, ◌/◌, ◌%◌, if◌then◌else◌, nat_lt, min, codes, chars, encode_utf8}
use Rattle.std.specs.Borrow.{Bor}
use Rattle.std.specs.Fmt.{decimal}
use Rattle.std.specs.List.{flat_map}
use Rattle.history_model.specs.declared.CivilMinute.{CivilMinute}
use Rattle.history_model.specs.declared.TheConstants.{MAX_WALL}
use Rattle.plain_text.specs.Plain.{is_hidden}
use Rattle.run_times.specs.ClockTexts.{IsClockText}
use Rattle.run_times.specs.declared.writer.TextWriter.{TextWriter}
use Rattle.run_times.specs.Written.{Adds}
use Rattle.json_lines.specs.declared.Field.{Field}
use Rattle.json_lines.specs.declared.Value.{Value}
use Rattle.json_lines.specs.declared.Value.TheVariants.{Absent, Flag, Number, Text, Moment, Json}

-- the last hexadecimal digit of a number
abbrev pub hex_digit : ℕ → ℕ
hex_digit n = if nat_lt (n % 16) 10 then 0x30 + n % 16 else 0x57 + n % 16

-- a character by its number, in four digits: \u202e
abbrev pub escape : ℕ → List ℕ
escape c =
    codes "\\u" ++ (encode_utf8 (hex_digit (c / 4096)) ++ (encode_utf8 (hex_digit (c / 256))
    ++ (encode_utf8 (hex_digit (c / 16)) ++ encode_utf8 (hex_digit c))))

-- written by its number: a hidden character, and the two at which some readers end a line (U+2028, U+2029)
abbrev pub is_escaped : ℕ → Bool
is_escaped c = is_hidden c || c == 0x2028 || c == 0x2029

-- a character of a text: one that is escaped is its number, a quote and a backslash follow a backslash, any other is as it is
abbrev pub text_char : ℕ → List ℕ
text_char c =
    if is_escaped c then escape c
    else if c == 0x5C || c == 0x22 then codes "\\" ++ encode_utf8 c
    else encode_utf8 c

-- a text between its quotes
abbrev pub quoted : List ℕ → List ℕ
quoted text = codes "\"" ++ (flat_map text_char (chars text) ++ codes "\"")

abbrev pub flag_text : Bool → List ℕ
flag_text true = codes "true"
flag_text false = codes "false"

-- the comma before a key, and the key
abbrev pub front_of : List ℕ → List ℕ → List ℕ
front_of key text = codes ",\"" ++ (key ++ (codes "\":" ++ text))

-- the text of a second, of at most 250,000,000,000: what some clock shows then
abbrev pub IsShown : ℕ → List ℕ → Type 0
IsShown second text = (at : CivilMinute) × IsClockText at (min second MAX_WALL) text

-- A key with its value. For a time the key has what a clock shows then, and the key with `_seconds` its second.
abbrev pub IsMember : List ℕ → Value → List ℕ → Type 0
IsMember key Absent text = text ≡ []
IsMember key (Flag flag) text = text ≡ front_of key (flag_text flag)
IsMember key (Number number) text = text ≡ codes ",\"" ++ (key ++ ([] ++ (codes "\":" ++ decimal number)))
IsMember key (Text told) text = text ≡ front_of key [] ++ quoted told.now
IsMember key (Json told) text = text ≡ front_of key told.now
IsMember key (Moment second) text =
    (shown : List ℕ) × IsShown second shown × (text ≡ front_of key (codes "\"") ++ (shown ++ (codes "\""
    ++ (codes ",\"" ++ (key ++ (codes "_seconds" ++ (codes "\":" ++ decimal second)))))))

-- it follows what was written before
abbrev pub TellsMember : List ℕ → Value → TextWriter → TextWriter → Type 0
TellsMember key value old new = (text : List ℕ) × IsMember key value text × Adds text old new

-- a member for each of the fields, in order
abbrev pub AreMembers : List Field → List ℕ → Type 0
AreMembers [] text = text ≡ []
AreMembers (field ∷ fields) text =
    (one : List ℕ) × (others : List ℕ) × IsMember field.0.now field.1 one × AreMembers fields others
    × (text ≡ one ++ others)

abbrev pub TellsMembers : List Field → TextWriter → TextWriter → Type 0
TellsMembers fields old new = (text : List ℕ) × AreMembers fields text × Adds text old new

-- an object: the key with the name, and a member for each of the fields, in order
abbrev pub IsObject : List ℕ → List ℕ → List Field → List ℕ → Type 0
IsObject key name fields text =
    (members : List ℕ) × AreMembers fields members
    × (text ≡ (codes "{\"" ++ (key ++ codes "\":")) ++ (quoted name ++ (members ++ codes "}")))

-- it follows what was written before
abbrev pub TellsObject : List ℕ → List ℕ → List Field → TextWriter → TextWriter → Type 0
TellsObject key name fields old new = (text : List ℕ) × IsObject key name fields text × Adds text old new

-- and ends the line
abbrev pub TellsLine : List ℕ → List ℕ → List Field → TextWriter → TextWriter → Type 0
TellsLine key name fields old new =
    (text : List ℕ) × IsObject key name fields text × Adds (text ++ codes "\n") old new

-- a character of JSON: one that is escaped is within a text, by its number
abbrev pub json_char : ℕ → List ℕ
json_char c = if is_escaped c then escape c else encode_utf8 c

-- a text of a list after the first
abbrev pub more_text : Bor (List ℕ) → List ℕ
more_text text = codes "," ++ quoted text.now

-- a list of texts
abbrev pub texts_list : List (Bor (List ℕ)) → List ℕ
texts_list [] = codes "[]"
texts_list (first ∷ more) = codes "[" ++ (quoted first.now ++ (flat_map more_text more ++ codes "]"))
