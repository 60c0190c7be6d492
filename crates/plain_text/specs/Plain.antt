-- A text of others, as it is written to a terminal, a page or standard error.
use Rattle.std.specs.Prelude.{ℕ, Bool, List, ◌||◌, ◌&&◌, ◌==◌, if◌then◌else◌, nat_lt, encode_utf8}
use Rattle.std.specs.List.{flat_map}

-- a control character: C0, DEL or C1 (the category Cc of Unicode)
abbrev pub is_control : ℕ → Bool
is_control c = nat_lt c 0x20 || (nat_lt 0x7E c && nat_lt c 0xA0)

-- a bidirectional control character (the property Bidi_Control of Unicode). These are the Arabic letter mark, the marks from left
-- to right and from right to left, the embeddings and those that set a direction, and the isolates
abbrev pub is_direction_mark : ℕ → Bool
is_direction_mark c =
    (c == 0x61C || c == 0x200E || c == 0x200F) || (nat_lt 0x2029 c && nat_lt c 0x202F)
    || (nat_lt 0x2065 c && nat_lt c 0x206A)

-- one that may not reach a reader
abbrev pub is_hidden : ℕ → Bool
is_hidden c = is_control c || is_direction_mark c

-- a character as it is written: a hidden one as U+FFFD, any other as it is
abbrev pub plain_char : ℕ → ℕ
plain_char c = if is_hidden c then 0xFFFD else c

-- the bytes of a text, each character so
abbrev pub plain_text : List ℕ → List ℕ
plain_text cs = flat_map (λ c. encode_utf8 (plain_char c)) cs
