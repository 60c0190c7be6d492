-- What a whole run read and wrote, and why it ended.
use Rattle.std.specs.Prelude.{◌≡◌, ◌≤◌, ◌⊎◌, length, ℕ, [], ◌++◌, Option, Some, None, unwrap_or, true, false}
use Rattle.std.specs.Io.KnownBytes.{Appends, Consumes, IsAtEnd}
use Rattle.std.specs.List.{take_while}
use Rattle.ctl_protocol.specs.Lines.{lines_of, is_short, fits, line_limit}
use Rattle.replay_loop.specs.declared.fault.ReplayFault.{ReplayFault}
use Rattle.replay_loop.specs.declared.fault.ReplayFault.TheVariants.{NoMemory, Header, Read, Write, TooLong, ReadCount}
use Rattle.replay_loop.specs.LineMachine.{Bytes, Lines, Held, Output}
use Rattle.ctl_protocol.specs.Writing.{AppendsFront}
use Rattle.replay_loop.specs.ReplayOutcomes.{OpensNone, input_lines, counted_lines}

-- what a reader had left before and has left after, and what a writer held before and holds after
pub record Streams : Type 0 where
  pub unread : Held
  pub rest : Held
  pub held : Held
  pub holds : Held

-- the reader met its end, and what was written is the output of all that it gave
pub record Finished (output : Output) (unread rest held holds : Held) : Type 0 where
  pub input : Bytes
  pub consumed : Consumes unread rest input
  pub ended : IsAtEnd rest
  pub text : Bytes
  pub short : fits line_limit input ≡ true
  pub is : output (input_lines input) (Some text)
  pub wrote : Appends held holds text

-- what was written for these lines; nothing, if no header was read
pub record Wrote (output : Output) (held holds : Held) (lines : Lines) : Type 0 where
  pub answer : Option Bytes
  pub is : output lines answer
  pub text : Bytes
  pub all : text ≡ unwrap_or answer []
  pub wrote : Appends held holds text

-- what was written is that for the lines before one at which memory ran out
abbrev pub RanOut : Output → Held → Held → Lines → Type 0
RanOut output held holds lines =
    (done : Lines) × (others : Lines) × (lines ≡ done ++ others) × Wrote output held holds done

-- what was written is a front of that for the lines
abbrev pub CutOff : Output → Held → Held → Lines → Type 0
CutOff output held holds lines =
    (all : Bytes) × output lines (Some all) × AppendsFront held holds all

-- the whole lines of an input, up to one that is too long
abbrev pub short_lines : Bytes → Lines
short_lines input = take_while (is_short line_limit) (lines_of input)

-- the first line is too long, so no line came before it
abbrev pub IsLongAtOnce : Bytes → Type 0
IsLongAtOnce input = (fits line_limit input ≡ false) × (short_lines input ≡ [])

-- the input came to its end, and all its lines open no machine
abbrev pub EndsUnopened : Output → Bytes → Held → Type 0
EndsUnopened output input rest =
    IsAtEnd rest × (fits line_limit input ≡ true) × output (input_lines input) None

-- why no machine was opened; a first line that was cut by a read is not a reason
abbrev pub HasNoMachine : Output → Bytes → Held → Type 0
HasNoMachine output input rest =
    OpensNone output (short_lines input) ⊎ (IsLongAtOnce input ⊎ EndsUnopened output input rest)

-- a machine was opened, and all that it answers to these lines was written
abbrev pub WroteAll : Output → Held → Held → Lines → Type 0
WroteAll output held holds lines =
    (text : Bytes) × output lines (Some text) × Appends held holds text

-- what was written if the run ended by a fault, after at most this number of reads
abbrev pub Failed : Output → ℕ → Streams → ReplayFault → Type 0
Failed output reads s Header =
    (input : Bytes) × Consumes s.unread s.rest input × HasNoMachine output input s.rest
    × Appends s.held s.holds []
Failed output reads s Read =
    (input : Bytes) × Consumes s.unread s.rest input
    × Wrote output s.held s.holds (lines_of input)
Failed output reads s ReadCount =
    (input : Bytes) × Consumes s.unread s.rest input × (reads ≤ length input)
    × Wrote output s.held s.holds (lines_of input)
Failed output reads s TooLong =
    (input : Bytes) × Consumes s.unread s.rest input × (fits line_limit input ≡ false)
    × WroteAll output s.held s.holds (short_lines input)
Failed output reads s NoMemory =
    (input : Bytes) × Consumes s.unread s.rest input
    × RanOut output s.held s.holds (counted_lines input)
Failed output reads s Write =
    (input : Bytes) × Consumes s.unread s.rest input
    × CutOff output s.held s.holds (counted_lines input)
