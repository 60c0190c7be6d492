-- A journal as contracts see it, and how it grows.
use Rattle.std.specs.Prelude.{◌≡◌, ℕ, Bool, true, false, List, Option, Some, None, is_some}
use Rattle.std.specs.Io.KnownBytes.{Appends}
use Rattle.ctl_protocol.specs.Writing.{AppendsFront}
use Rattle.launcher.specs.declared.journal.Phase.{Phase}
use Rattle.launcher.specs.declared.journal.Phase.TheVariants.{Open, Closed, Reported}
use Rattle.launcher.specs.declared.journal_writer.Cause.{Cause}

-- what contracts see of a journal's writer: the bytes that it holds if they are known, and what was
-- refused to the journal, if anything was
pub record Poured : Type 0 where
  pub bytes : Option (List ℕ)
  pub cause : Option Cause

-- a call that was refused leaves its cause, and another one the cause that was there
abbrev pub cause_after : Bool → Cause → Option Cause → Option Cause
cause_after true cause before = before
cause_after false cause before = Some cause

-- the bytes that a writer holds, if there is one
abbrev pub poured_bytes : Option Poured → Option (List ℕ)
poured_bytes None = None
poured_bytes (Some writer) = writer.bytes

-- what was refused; nothing is where there is no writer
abbrev pub poured_cause : Option Poured → Option Cause
poured_cause None = None
poured_cause (Some writer) = writer.cause

-- whether there is a writer, the bytes that it holds if they are known, what was refused to the
-- journal, if anything was, and the state of the journal
pub record JournalState : Type 0 where
  pub has_writer : Bool
  pub bytes : Option (List ℕ)
  pub cause : Option Cause
  pub phase : Phase

-- an open journal is one to which nothing was refused
abbrev pub IsSound : Phase → Option Cause → Type 0
IsSound Open cause = cause ≡ None
IsSound Closed cause = is_some cause ≡ true
IsSound Reported cause = is_some cause ≡ true

-- an open journal over a writer with these bytes, or over none
abbrev pub fresh : Option (List ℕ) → Bool → JournalState
fresh bytes has_writer =
    record { has_writer = has_writer; bytes = bytes; cause = None; phase = Open }

-- the bytes that a writer holds, if there is one
abbrev pub held : {W : Type 0} → (W → Option (List ℕ)) → Option W → Option (List ℕ)
held contents None = None
held contents (Some writer) = contents writer

-- lines are still written, by the state of the journal and whether there is a writer
abbrev writes_in : Phase → Bool → Bool
writes_in Open has_writer = has_writer
writes_in Closed has_writer = false
writes_in Reported has_writer = false

-- lines are still written
abbrev pub is_writing : JournalState → Bool
is_writing kept = writes_in kept.phase kept.has_writer

-- a journal that was shut stays as it was; an open one grew by all of the text, or it is closed and
-- grew by a front of it
abbrev pub GrowsIn : Phase → Phase → JournalState → JournalState → List ℕ → Type 0
GrowsIn Open Open old new text = Appends old.bytes new.bytes text
GrowsIn Open Closed old new text = AppendsFront old.bytes new.bytes text
GrowsIn Open Reported old new text = ⊥
GrowsIn Closed Open old new text = ⊥
GrowsIn Closed Closed old new text = new ≡ old
GrowsIn Closed Reported old new text = ⊥
GrowsIn Reported Open old new text = ⊥
GrowsIn Reported Closed old new text = ⊥
GrowsIn Reported Reported old new text = new ≡ old

-- A journal that was open is closed only if it has a writer and nothing was refused to it before. It is closed when a
-- write or a flush is refused, or memory for a line. Else what was refused to it is as it was.
abbrev pub CausedIn : Phase → Phase → JournalState → JournalState → Type 0
CausedIn Open Open old new = new.cause ≡ old.cause
CausedIn Open Closed old new =
    (old.has_writer ≡ true) × (old.cause ≡ None) × (is_some new.cause ≡ true)
CausedIn Open Reported old new = ⊥
CausedIn Closed phase old new = new.cause ≡ old.cause
CausedIn Reported phase old new = new.cause ≡ old.cause

-- a journal over the same writer that grew so, and was closed only for a cause
pub record Grows (old new : JournalState) (text : List ℕ) : Type 0 where
  pub has_writer : new.has_writer ≡ old.has_writer
  pub grew : GrowsIn old.phase new.phase old new text
  pub cause : CausedIn old.phase new.phase old new

-- its state after its closing was reported
abbrev reported_phase : Phase → Phase
reported_phase Open = Open
reported_phase Closed = Reported
reported_phase Reported = Reported

-- the journal after its closing was reported
abbrev pub reported : JournalState → JournalState
reported kept =
    record {
      has_writer = kept.has_writer;
      bytes = kept.bytes;
      cause = kept.cause;
      phase = reported_phase kept.phase;
    }
