-- What the handling of some lines does to the machine and to what a writer holds. The stage is the
-- machine, or None until the header has come. Lines lead from a stage to a stage, and each stage
-- stands for the future that is written for the lines that still come:
--
--     no machine --header--> machine --line--> machine --line--> machine ..   `Leads`
--         |                     |                 |                 |
--         None             Some future       Some future       Some future    `Stands`
--
-- What is written along an arrow, and then what the stage at its end answers, is what the stage at
-- its beginning answers to the lines of both (`Handles`). If an arrow stops, the fault says where:
--
--     Header    at None: the first line opens no machine, and nothing is written    `Stops`
--     NoMemory  at some line: the lines before it are handled                       `Stops`
--     Write     at some line: a front of the answer is written                      `Stops`
--     TooLong   at a machine: the lines before the long one are handled             `PieceStops`
use Rattle.std.specs.Prelude.{◌≡◌, ◌≢◌, ◌⊎◌, [], ◌∷◌, ◌++◌, Option, Some, None, option_map, Bool, true, false, if◌then◌else◌}
use Rattle.std.specs.Io.KnownBytes.{Appends}
use Rattle.replay_loop.specs.declared.fault.ReplayFault.{ReplayFault}
use Rattle.replay_loop.specs.declared.fault.ReplayFault.TheVariants.{NoMemory, Header, Read, Write, TooLong, ReadCount}
use Rattle.ctl_protocol.specs.Lines.{Feed, takes, fed, stopped}
use Rattle.replay_loop.specs.LineMachine.{Bytes, Lines, Held, Output, Future, Will}
use Rattle.ctl_protocol.specs.Writing.{AppendsFront}
use Rattle.replay_loop.specs.ReplayOutcomes.{Answers, OpensNone}

-- the machine, if the header has come, will write this
abbrev pub Stands : {M : Type 0} → (M → Future → Type 0) → Option M → Option Future → Type 0
Stands will_write None None = Unit {0}
Stands will_write (Some machine) (Some future) = Will will_write machine future
Stands will_write None (Some future) = ⊥
Stands will_write (Some machine) None = ⊥

-- with no more line nothing more is written
abbrev pub IsQuiet : Option Future → Type 0
IsQuiet None = Unit {0}
IsQuiet (Some future) = future [] ≡ []

-- what was written for the lines is the front of each answer to them and more
pub record Handles (output : Output) (old new : Option Future) (held holds : Held) (lines : Lines)
    : Type 0 where
  pub text : Bytes
  pub wrote : Appends held holds text
  pub goes_on : (more : Lines) (after : Option Bytes) → Answers output new more after
      → Answers output old (lines ++ more) (option_map (λ x. text ++ x) after)
  pub silent : new ≡ None → text ≡ []
  pub stays : new ≡ None → old ≡ None
  pub unopened : new ≡ None → lines ≡ []
  pub quiet : IsQuiet new

-- a stage before and after some lines, and what the writer held before them and holds after them
pub record Passage (M : Type 0) : Type 0 where
  pub old : Option M
  pub new : Option M
  pub held : Held
  pub holds : Held

-- the lines were handled, and the machine is where they lead
abbrev pub Leads : {M : Type 0} → Output → (M → Future → Type 0) → Passage M → Lines → Type 0
Leads output will_write p lines =
    (past : Option Future) → Stands will_write p.old past
    → (next : Option Future) × Stands will_write p.new next
    × Handles output past next p.held p.holds lines

-- the lines were handled, and there is a machine at their end
abbrev pub LeadsPast : {M : Type 0} → Output → (M → Future → Type 0) → Passage M → Lines → Type 0
LeadsPast output will_write p lines =
    (past : Option Future) → Stands will_write p.old past
    → (next : Option Future) × (next ≢ None) × Handles output past next p.held p.holds lines

-- lines to be handled, and what the writer held before and holds after that
pub record Attempt : Type 0 where
  pub lines : Lines
  pub held : Held
  pub holds : Held

-- why no more lines were handled
abbrev pub Stops : Output → Attempt → ReplayFault → Option Future → Type 0
Stops output a Header old =
    (old ≡ None) × Appends a.held a.holds [] × OpensNone output a.lines
Stops output a NoMemory old =
    (done : Lines) × (rest : Lines) × (new : Option Future) × (a.lines ≡ done ++ rest)
    × Handles output old new a.held a.holds done
Stops output a Write old =
    (more : Lines) → (all : Bytes) × (Answers output old (a.lines ++ more) (Some all))
    × AppendsFront a.held a.holds all
Stops output a Read old = ⊥
Stops output a TooLong old = ⊥
Stops output a ReadCount old = ⊥

-- this holds of every future that the stage stands for
abbrev pub Ends : {M : Type 0} → (M → Future → Type 0) → Option M → (Option Future → Type 0)
    → Type 0
Ends will_write old stops = (past : Option Future) → Stands will_write old past → stops past

-- a feed whose lines were all taken
abbrev pub drained : Feed → Feed
drained f = record { lines = []; rest = f.rest; limit = f.limit; refusing = f.refusing }

-- one line of the feed was handled, or it has none
abbrev pub HandlesNext : {M : Type 0} → Output → (M → Future → Type 0)
    → Bool → Feed → Feed → Passage M → Type 0
HandlesNext output will_write true f g p =
    (line : Bytes) × (f.lines ≡ line ∷ g.lines) × (drained g ≡ drained f)
    × Leads output will_write p (line ∷ [])
HandlesNext output will_write false f g p =
    (f.lines ≡ []) × (g ≡ f) × Leads output will_write p []

-- the lines that a piece ends, up to one that is too long
abbrev pub come : Feed → Bytes → Lines
come f piece = if takes f piece then (fed f piece).lines else (stopped f piece).lines

-- a piece to be taken into a feed, and what the writer held before and holds after that
pub record PieceAttempt : Type 0 where
  pub feed : Feed
  pub piece : Bytes
  pub held : Held
  pub holds : Held

-- the handling of the lines that the piece ends
abbrev pub piece_lines : PieceAttempt → Attempt
piece_lines a = record { lines = come a.feed a.piece; held = a.held; holds = a.holds }

-- why a piece was not taken to its end
abbrev pub PieceStops : Output → PieceAttempt → ReplayFault → Option Future → Type 0
PieceStops output a Header old =
    (old ≡ None) × Appends a.held a.holds []
    × (OpensNone output (come a.feed a.piece)
    ⊎ ((takes a.feed a.piece ≡ false) × (come a.feed a.piece ≡ [])))
PieceStops output a TooLong old =
    (takes a.feed a.piece ≡ false) × (new : Option Future) × (new ≢ None)
    × Handles output old new a.held a.holds (stopped a.feed a.piece).lines
PieceStops output a NoMemory old = Stops output (piece_lines a) NoMemory old
PieceStops output a Write old = Stops output (piece_lines a) Write old
PieceStops output a Read old = ⊥
PieceStops output a ReadCount old = ⊥

-- why the last line, if there is one, was not taken
abbrev pub LastStops : Output → Attempt → ReplayFault → Option Future → Type 0
LastStops output a Header old =
    (old ≡ None) × Appends a.held a.holds [] × (Answers output old a.lines None)
LastStops output a TooLong old = ⊥
LastStops output a NoMemory old = Stops output a NoMemory old
LastStops output a Write old = Stops output a Write old
LastStops output a Read old = ⊥
LastStops output a ReadCount old = ⊥
