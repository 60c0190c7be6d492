-- What the calls of a zone say of the header's text.
use Rattle.std.proofs.Common.{◌≡◌, ◌<◌, ◌≤◌, ℕ, Bool, true, false, nat_lt, length, List, Some, None, refl, arith, subst, sym}
use Rattle.std.specs.Prelude.{Result, Ok, Err, IsOk, IsSome, IfOk, ◌↔◌}
use Rattle.jiff_tz.specs.PosixReader.{read_whole}
use Rattle.calendar_due.specs.declared.zone.Zone.{Zone}
use Rattle.calendar_due.specs.declared.zone.ZoneFault.{ZoneFault}
use Rattle.calendar_due.specs.declared.zone.ZoneFault.TheVariants.{NoMemory, BadZone}
use Rattle.calendar_due.specs.declared.zone.TheConstants.{LONGEST_FILE}
use Rattle.calendar_due.specs.Zone.{IsOfRule, IsOfTable, IsBadFile}
use Rattle.calendar_due.specs.ZoneRules.{offsets}
use Rattle.ctl_protocol.specs.declared.header.ZoneText.TheVariants.{Posix, File}
use Rattle.table_opening.specs.Openings.{IsTold}
use Rattle.table_opening.proofs.opening.told.Goals as goal

of_posix : (text : List ℕ) (r : Result Zone ZoneFault) → (IsOk r ↔ IsSome (read_whole text)) → IfOk r (λ zone. IsOfRule text (offsets zone)) → IsTold (Posix text) r
of_posix text (Ok zone) reads rule = rule
of_posix text (Err NoMemory) reads rule = tt
of_posix text (Err BadZone) reads rule = go (read_whole text) refl
  where
    go : (o : _) → read_whole text ≡ o → read_whole text ≡ None
    go None is = is
    go (Some rule) is = let clash : false ≡ true = reads.1 (subst IsSome (sym is) refl) in absurd (cc clash)

-- a file that is read is not too long
of_file : (bytes : List ℕ) (r : Result Zone ZoneFault) → (LONGEST_FILE < length bytes → r ≡ Err BadZone) → (r ≡ Err BadZone → IsBadFile bytes)
    → IfOk r (λ zone. IsOfTable bytes (offsets zone)) → IsTold (File bytes) r
of_file bytes (Ok zone) long bad table = (short (nat_lt LONGEST_FILE (length bytes)) refl, table)
  where
    short : (b : Bool) → nat_lt LONGEST_FILE (length bytes) ≡ b → length bytes ≤ LONGEST_FILE
    short true is = let clash : Ok zone ≡ Err BadZone = long (grind (arith, is)) in cc clash
    short false is = grind (arith, is)
of_file bytes (Err NoMemory) long bad table = tt
of_file bytes (Err BadZone) long bad table = bad refl

pub returns-in-Posix : goal.returns-in-Posix
returns-in-Posix c = subst (λ zone. IsTold zone c.posix.result) (sym c.in-Posix.is)
    (subst (λ text. IsTold (Posix text) c.posix.result) c.as_str.ensures (of_posix _ _ c.posix.ensures.succeeds c.posix.ensures.zone))

pub returns-in-File : goal.returns-in-File
returns-in-File c = subst (λ zone. IsTold zone c.tzif.result) (sym c.in-File.is)
    (subst (λ bytes. IsTold (File bytes) c.tzif.result) c.as_slice.ensures (of_file _ _ c.tzif.ensures.long c.tzif.ensures.bad c.tzif.ensures.zone))
