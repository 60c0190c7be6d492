-- How a journal grows by one line after another.
use Rattle.std.proofs.Common.{◌≡◌, ℕ, false, List, [], ◌++◌, Option, Some, None, refl, sym, ap, subst, ◌∙◌, append_assoc, append-nil}
use Rattle.std.specs.Io.KnownBytes.{Appends}
use Rattle.std.specs.Prelude.{is_some}
use Rattle.std.proofs.KnownBytes.{Appends-nil, Appends-trans}
use Rattle.ctl_protocol.specs.Writing.{AppendsFront}
use Rattle.launcher.specs.declared.journal.Phase.{Phase}
use Rattle.launcher.specs.declared.journal.Phase.TheVariants.{Open, Closed, Reported}
use Rattle.launcher.specs.Journals.{JournalState, Grows, GrowsIn, CausedIn, Poured, poured_bytes, poured_cause, is_writing}

unchanged_in : (phase : Phase) (kept : JournalState) → GrowsIn phase phase kept kept []
unchanged_in Open kept = Appends-nil kept.bytes
unchanged_in Closed kept = refl
unchanged_in Reported kept = refl

same_cause : (phase : Phase) (kept : JournalState) → CausedIn phase phase kept kept
same_cause Open kept = refl
same_cause Closed kept = refl
same_cause Reported kept = refl

-- no line was written
pub grows_nothing : (kept : JournalState) → Grows kept kept []
grows_nothing kept = record { has_writer = refl; grew = unchanged_in kept.phase kept; cause = same_cause kept.phase kept }

-- a front of the first text is one of both
pub front_first : (old new : Option (List ℕ)) (s t : List ℕ) → AppendsFront old new s → AppendsFront old new (s ++ t)
front_first old new s t grew = record { front = grew.front; rest = grew.rest ++ t; split = ap (λ l. l ++ t) grew.split ∙ append_assoc grew.front grew.rest t; wrote = grew.wrote }

-- the first text, and a front of the second
pub front_second : (a b c : Option (List ℕ)) (s t : List ℕ) → Appends a b s → AppendsFront b c t → AppendsFront a c (s ++ t)
front_second a b c s t first grew = record {
  front = s ++ grew.front;
  rest = grew.rest;
  split = ap (λ l. s ++ l) grew.split ∙ sym (append_assoc s grew.front grew.rest);
  wrote = Appends-trans a b c s grew.front first grew.wrote;
}

both_in : (p q r : Phase) (a b c : JournalState) (s t : List ℕ) → GrowsIn p q a b s → GrowsIn q r b c t → GrowsIn p r a c (s ++ t)
both_in Open Open Open a b c s t first second = Appends-trans a.bytes b.bytes c.bytes s t first second
both_in Open Open Closed a b c s t first second = front_second a.bytes b.bytes c.bytes s t first second
both_in Open Open Reported a b c s t first second = absurd second
both_in Open Closed Open a b c s t first second = absurd second
both_in Open Closed Closed a b c s t first second = front_first a.bytes c.bytes s t (subst (λ (k : JournalState). AppendsFront a.bytes k.bytes s) (sym second) first)
both_in Open Closed Reported a b c s t first second = absurd second
both_in Open Reported r a b c s t first second = absurd first
both_in Closed Open r a b c s t first second = absurd first
both_in Closed Closed Open a b c s t first second = absurd second
both_in Closed Closed Closed a b c s t first second = second ∙ first
both_in Closed Closed Reported a b c s t first second = absurd second
both_in Closed Reported r a b c s t first second = absurd first
both_in Reported Open r a b c s t first second = absurd first
both_in Reported Closed r a b c s t first second = absurd first
both_in Reported Reported Open a b c s t first second = absurd second
both_in Reported Reported Closed a b c s t first second = absurd second
both_in Reported Reported Reported a b c s t first second = second ∙ first

-- what closed it then
both_causes : (p q r : Phase) (a b c : JournalState) (s t : List ℕ) → b.has_writer ≡ a.has_writer → GrowsIn p q a b s → GrowsIn q r b c t → CausedIn p q a b → CausedIn q r b c → CausedIn p r a c
both_causes Open Open Open a b c s t same grew grows first second = second ∙ first
both_causes Open Open Closed a b c s t same grew grows first second = (sym same ∙ second.0, sym first ∙ second.1, second.2)
both_causes Open Open Reported a b c s t same grew grows first second = absurd second
both_causes Open Closed Open a b c s t same grew grows first second = absurd grows
both_causes Open Closed Closed a b c s t same grew grows first second = (first.0, first.1, ap is_some second ∙ first.2)
both_causes Open Closed Reported a b c s t same grew grows first second = absurd grows
both_causes Open Reported r a b c s t same grew grows first second = absurd grew
both_causes Closed q r a b c s t same grew grows first second = later q r grew grows second ∙ first where
  later : (q r : Phase) → GrowsIn Closed q a b s → GrowsIn q r b c t → CausedIn q r b c → c.cause ≡ b.cause
  later Open r grew grows second = absurd grew
  later Closed r grew grows second = second
  later Reported r grew grows second = second
both_causes Reported q r a b c s t same grew grows first second = later q r grew grows second ∙ first where
  later : (q r : Phase) → GrowsIn Reported q a b s → GrowsIn q r b c t → CausedIn q r b c → c.cause ≡ b.cause
  later Open r grew grows second = absurd grew
  later Closed r grew grows second = second
  later Reported r grew grows second = second

-- one text after another
pub grows_append : (a b c : JournalState) (s t : List ℕ) → Grows a b s → Grows b c t → Grows a c (s ++ t)
grows_append a b c s t first second = record {
  has_writer = second.has_writer ∙ first.has_writer;
  grew = both_in a.phase b.phase c.phase a b c s t first.grew second.grew;
  cause = both_causes a.phase b.phase c.phase a b c s t first.has_writer first.grew second.grew first.cause second.cause;
}

-- what is passed on adds nothing
pub grows_flushed : (a b c : JournalState) (s : List ℕ) → Grows a b s → Grows b c [] → Grows a c s
grows_flushed a b c s first second = subst (Grows a c) (append-nil s) (grows_append a b c s [] first second)

-- ---- a journal by its parts

-- as contracts see it
abbrev by_parts : Option Poured → Phase → JournalState
by_parts writer phase = record { has_writer = is_some writer; bytes = poured_bytes writer; cause = poured_cause writer; phase = phase }

-- if no line is written, none is missed
pub shut_grows : (writer : Option Poured) (phase : Phase) (text : List ℕ) → is_writing (by_parts writer phase) ≡ false → Grows (by_parts writer phase) (by_parts writer phase) text
shut_grows None Open text shut = record { has_writer = refl; grew = tt; cause = refl }
shut_grows (Some writer) Open text shut = cc
shut_grows writer Closed text shut = record { has_writer = refl; grew = refl; cause = refl }
shut_grows writer Reported text shut = record { has_writer = refl; grew = refl; cause = refl }
