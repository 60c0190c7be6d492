-- What a line, and a text of lines, come to.
use Rattle.std.specs.Prelude.{◌≡◌, ℕ, List, [], ◌∷◌, ◌++◌, Bool, false}
use Rattle.json.specs.Token.{Token}
use Rattle.json.specs.Print.{print}
use Rattle.status_file.specs.declared.line.LineWriter.{LineWriter}
use Rattle.status_file.specs.declared.line.StatusText.{StatusText}

-- These tokens follow those of before, unless memory was refused; and a refusal stays.
pub record Puts (tokens : List Token) (old new : LineWriter) : Type 0 where
  pub kept : new.is_refused ≡ false → old.is_refused ≡ false
  pub before : new.writer.before ≡ old.writer.before
  pub added : new.is_refused ≡ false → new.writer.tokens ≡ old.writer.tokens ++ tokens

-- a line of JSON with its newline
abbrev pub line_of : List Token → List ℕ
line_of tokens = print tokens ++ 10 ∷ []

-- The line of these tokens follows the text of before, unless memory was refused.
pub record Adds (tokens : List Token) (old new : StatusText) : Type 0 where
  pub kept : new.is_refused ≡ false → old.is_refused ≡ false
  pub added : new.is_refused ≡ false → new.bytes.items ≡ old.bytes.items ++ line_of tokens
