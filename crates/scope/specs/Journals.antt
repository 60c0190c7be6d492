-- The table of a journal: the machine that its header opened, after its lines.
use Rattle.std.specs.Option.{option_map}
use Rattle.std.specs.Prelude.{◌≡◌, ◌≢◌, ℕ, Bool, true, false, List, [], ◌∷◌, ◌++◌, map, Option, Some, None}
use Rattle.std.specs.Io.KnownBytes.{Consumes, Keeps, IsAtEnd}
use Rattle.history_model.specs.Machine.{State}
use Rattle.history_model.specs.Step.{run}
use Rattle.ctl_protocol.specs.declared.header.Header.{Header}
use Rattle.ctl_protocol.specs.Headers.{header_at}
use Rattle.ctl_protocol.specs.Lines.{Feed, GivesLine, lines_of, rest_of, takes, fed, line_limit}
use Rattle.loaded_jobs.specs.Tables.{Table}
use Rattle.loaded_jobs.specs.StandsFor.{KeepsState}
use Rattle.table_opening.specs.Output.{Opens}
use Rattle.table_opening.specs.JournalEvents.{event_in}
use Rattle.scope.specs.declared.journal.reader.OpenJournal.{OpenJournal}
use Rattle.scope.specs.declared.journal.lines.JournalLines.{JournalLines}
use Rattle.scope.specs.declared.journal.source.PieceRead.{PieceRead}
use Rattle.scope.specs.declared.journal.source.PieceRead.TheVariants.{End, Nothing, Piece}

-- the table keeps the machine that the header's line opens
abbrev pub IsOpenedAt : List ℕ → Table → Type 0
IsOpenedAt line table = (s : State) × Opens line s × KeepsState table s

-- so of a header, whatever line it was read from
abbrev pub IsOpenedBy : Header → Table → Type 0
IsOpenedBy header table = (line : List ℕ) → header_at line ≡ Some header → IsOpenedAt line table

-- the table keeps the machine that the first of these lines opened and that heard the others; with
-- no line there is none
abbrev pub KeepsLines : List (List ℕ) → Option Table → Type 0
KeepsLines [] None = Unit {0}
KeepsLines [] (Some table) = ⊥
KeepsLines (header ∷ lines) None = ⊥
KeepsLines (header ∷ lines) (Some table) =
    (s : State) × Opens header s × KeepsState table (run (map event_in lines) s)

-- the lines with one more; a header begins a new list
abbrev pub with_line : Bool → List (List ℕ) → List ℕ → List (List ℕ)
with_line true lines line = line ∷ []
with_line false lines line = lines ++ line ∷ []

-- what represented some lines represents them with this one
abbrev pub ReceivesLine : {A : Type 0} → (A → List (List ℕ) → Type 0) → A → List ℕ → Bool → A → Type 0
ReceivesLine stands old line is_header new =
    (lines : List (List ℕ)) → stands old lines → stands new (with_line is_header lines line)

-- the table of a journal, if its header was read
abbrev pub table_of : Option OpenJournal → Option Table
table_of journal = option_map (λ j. j.table) journal

-- the journal stands for these lines
abbrev pub StandsAfter : Option OpenJournal → List (List ℕ) → Type 0
StandsAfter journal lines = KeepsLines lines (table_of journal)

-- what represented some lines, none if none was counted, represents them and these
abbrev pub ReceivesLines : {A : Type 0} → (A → List (List ℕ) → Type 0) → ℕ → A → List (List ℕ) → A →
    Type 0
ReceivesLines stands count old done new =
    (lines : List (List ℕ)) → (count ≡ 0 → lines ≡ []) → stands old lines →
    stands new (lines ++ done)

-- the first line that the feed has was heard, or it has none
abbrev pub HandsOn : {A : Type 0} → (A → List (List ℕ) → Type 0) → Bool → JournalLines → A → JournalLines → A →
    Type 0
HandsOn stands false old before new after =
    (old.feed.lines ≡ []) × (new.feed ≡ old.feed) × (new.count ≡ old.count) × (after ≡ before)
    × (old.is_long ≡ false)
HandsOn stands true old before new after =
    (line : List ℕ) × GivesLine old.feed (Some line) new.feed × (new.count ≢ 0)
    × (new.is_long ≡ old.is_long)
    × ReceivesLines stands old.count before (line ∷ []) after

-- ---- what is read

-- each line that the feed had was passed on, and none was too long
pub record Drains (old new : JournalLines) : Type 0 where
  pub feed : new.feed ≡ record old.feed { lines = [] }
  pub short : old.is_long ≡ false
  pub counted : new.count ≡ 0 → (old.count ≡ 0) × (old.feed.lines ≡ [])

-- the piece was taken, or a line of it is too long
abbrev pub IsFed : JournalLines → List ℕ → JournalLines → Type 0
IsFed old piece new =
    (new.count ≡ old.count)
    × (new.is_long ≡ false → (takes old.feed piece ≡ true) × (new.feed ≡ fed old.feed piece))

-- a feed that has passed on each line of these bytes
abbrev pub feed_behind : List ℕ → Feed
feed_behind bytes =
    record { lines = []; rest = rest_of bytes; limit = line_limit; refusing = false }

-- these bytes came, and each line that a newline ends there was heard, the first as the header; the
-- feed and the count of lines are as they are then
pub record HasReceived {A : Type 0} (stands : A → List (List ℕ) → Type 0) (bytes : List ℕ)
    (feed : Feed) (count : ℕ) (receiver : A) : Type 0 where
  pub fed : feed ≡ feed_behind bytes
  pub counted : count ≡ 0 → lines_of bytes ≡ []
  pub received : stands receiver (lines_of bytes)

-- a piece of what the reader had was taken after those that had come, and so its lines are received
abbrev pub ReceivesPiece : {A : Type 0} → (A → List (List ℕ) → Type 0) → Option (List ℕ) →
    Option (List ℕ) → JournalLines → A → JournalLines → A → Type 0
ReceivesPiece stands unread rest old before new after =
    (bytes : List ℕ) → HasReceived stands bytes old.feed old.count before →
    (piece : List ℕ) × Consumes unread rest piece
    × HasReceived stands (bytes ++ piece) new.feed new.count after

-- so of all that it had
abbrev pub ReceivesAll : {A : Type 0} → (A → List (List ℕ) → Type 0) → Option (List ℕ) →
    Option (List ℕ) → JournalLines → A → JournalLines → A → Type 0
ReceivesAll stands unread rest old before new after =
    ReceivesPiece stands unread rest old before new after × IsAtEnd rest

-- what one read gave: the end, nothing, or a piece
abbrev pub Reads : PieceRead → Option (List ℕ) → Option (List ℕ) → JournalLines → JournalLines → Type 0
Reads End unread rest old new = Consumes unread rest [] × IsAtEnd rest × (new ≡ old)
Reads Nothing unread rest old new = Keeps unread rest × (new ≡ old)
Reads Piece unread rest old new =
    (piece : List ℕ) × Consumes unread rest piece × IsFed old piece new
