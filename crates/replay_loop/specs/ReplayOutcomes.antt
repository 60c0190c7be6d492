-- The lines of a whole input, and what a machine answers to the lines that still come.
use Rattle.std.specs.Prelude.{◌≡◌, [], ◌∷◌, ◌++◌, Option, Some, None, if◌then◌else◌}
use Rattle.std.specs.List.{take_while}
use Rattle.ctl_protocol.specs.Lines.{lines_of, rest_of, is_short, fits, line_limit}
use Rattle.replay_loop.specs.LineMachine.{Bytes, Lines, Output, Future}

-- this is written for the lines that still come: without a machine the header comes first
abbrev pub Answers : Output → Option Future → Lines → Option Bytes → Type 0
Answers output None lines text = output lines text
Answers output (Some future) lines text = text ≡ Some (future lines)

-- what no newline has ended is a last line, unless it is empty
abbrev pub last_line : Bytes → Lines
last_line [] = []
last_line (b ∷ bs) = (b ∷ bs) ∷ []

-- all lines of an input
abbrev pub input_lines : Bytes → Lines
input_lines input = lines_of input ++ last_line (rest_of input)

-- the lines of an input, up to one that is too long
abbrev pub counted_lines : Bytes → Lines
counted_lines input =
    if fits line_limit input then input_lines input
    else take_while (is_short line_limit) (lines_of input)

-- the first line came whole, and opens no machine, whatever comes after it
pub record OpensNone (output : Output) (lines : Lines) : Type 0 where
  pub line : Bytes
  pub others : Lines
  pub first : lines ≡ line ∷ others
  pub none : (more : Lines) → output (line ∷ more) None
