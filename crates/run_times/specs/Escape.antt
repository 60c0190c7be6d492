-- Text within XML (Extensible Markup Language 1.0, sections 2.2 and 2.4), and so within HTML too.
use Rattle.std.specs.Prelude.{ℕ, Bool, List, ◌||◌, ◌==◌, if◌then◌else◌, codes, encode_utf8}
use Rattle.std.specs.List.{flat_map}
use Rattle.plain_text.specs.Plain.{is_hidden}

-- whether the character is hidden in a text of others, or is not allowed in XML
abbrev pub is_unwritable : ℕ → Bool
is_unwritable c = is_hidden c || c == 0xFFFE || c == 0xFFFF

-- the bytes by which a character is written: the five characters of markup by their names, what is unwritable as U+FFFD
abbrev pub escaped : ℕ → List ℕ
escaped c =
    if c == 0x26 then codes "&amp;"
    else if c == 0x3C then codes "&lt;"
    else if c == 0x3E then codes "&gt;"
    else if c == 0x22 then codes "&quot;"
    else if c == 0x27 then codes "&#39;"
    else if is_unwritable c then encode_utf8 0xFFFD
    else encode_utf8 c

-- the text, each character by its escape
abbrev pub escaped_text : List ℕ → List ℕ
escaped_text cs = flat_map escaped cs
