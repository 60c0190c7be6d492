-- What a text that is written piece by piece comes to.
use Rattle.std.specs.Prelude.{◌≡◌, ℕ, ◌++◌, ◌/◌, ◌%◌, false, List, string_bytes}
use Rattle.std.specs.Fmt.{decimal}
use Rattle.std.specs.List.{flat_map}
use Rattle.run_times.specs.declared.writer.TextWriter.{TextWriter}
use Rattle.run_times.specs.declared.writer.Piece.{Piece}
use Rattle.run_times.specs.declared.writer.Piece.TheVariants.{Text, Number, TwoDigits}

-- the bytes of a piece
abbrev pub piece_text : Piece → List ℕ
piece_text (Text part) = part.now
piece_text (Number number) = decimal number
piece_text (TwoDigits number) = decimal (number / 10 % 10) ++ decimal (number % 10)

-- the bytes of the pieces, one after the other
abbrev pub pieces_text : List Piece → List ℕ
pieces_text pieces = flat_map piece_text pieces

-- this follows what was written before, unless memory was refused; and a refusal stays
pub record Adds (text : List ℕ) (old new : TextWriter) : Type 0 where
  pub kept : new.is_refused ≡ false → old.is_refused ≡ false
  pub added : new.is_refused ≡ false → string_bytes new.text ≡ string_bytes old.text ++ text

-- some text does
abbrev pub Grows : TextWriter → TextWriter → Type 0
Grows old new = (text : List ℕ) × Adds text old new
