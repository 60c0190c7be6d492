-- The goals of `Zone::shown_at` that the prover leaves open.
use Rattle.std.proofs.Common.{◌≡◌, ◌∙◌, ◌≤◌, ap, sym, arith, ℕ, pos, ℤ, ◌+ℤ◌, ◌*ℤ◌, w64, to_z, of_z}
use Rattle.std.proofs.lemmas.Int.{to_z_pos}
use Rattle.jiff_core.specs.DateTime.{civil_seconds, civil_nanos}
use Rattle.jiff_core.specs.Timestamp.{nanos_of_seconds}
use Rattle.jiff_core.specs.declared.civil.datetime.DateTime.{DateTime}
use Rattle.jiff_core.proofs.DateTimeLemmas.{civil_nanos-civil_seconds}
use Rattle.jiff.proofs.SpanFacts.{signed_arith}
use Rattle.jiff_tz.specs.Zone.{offset_at}
use Rattle.jiff.specs.ZoneView.{plain_zone}
use Rattle.calendar_due.specs.Offsets.{nanos_at, clock_seconds}
use Rattle.calendar_due.specs.ZoneRules.{offsets, offsets_by}
use Rattle.calendar_due.specs.Zone.{offsets_of_table}
use Rattle.jiff_tz.specs.Tzif.{offset_at as table_offset}
use Rattle.calendar_due.proofs.zone.Zone.shown_at.Goals as goal

-- whole seconds ahead of an instant, on the civil clock
shown : (dt : DateTime) (seconds : ℕ) (instant ahead : ℤ) → instant ≡ nanos_at seconds → civil_nanos dt ≡ instant +ℤ nanos_of_seconds ahead
    → civil_seconds dt ≡ pos seconds +ℤ ahead
shown dt seconds instant ahead at is = let split = civil_nanos-civil_seconds dt in omega (arith, signed_arith)

-- the instant that was made of the seconds
instant_at : (seconds : ℕ) (instant : ℤ) → seconds ≤ 250_000_000_000 → instant ≡ to_z w64 (of_z w64 (pos seconds)) *ℤ pos 1_000_000_000 → instant ≡ nanos_at seconds
instant_at seconds instant few is = is ∙ ap (λ z. z *ℤ pos 1_000_000_000) (to_z_pos w64 seconds (omega arith))

pub returns-in-Plain : goal.returns-in-Plain
unfolding offsets
returns-in-Plain c =
    let at = instant_at c.args.seconds c.in-Ok.instant.nanosecond c.requires c.in-Ok.ensures.value in
    shown c.to_datetime.result c.args.seconds c.in-Ok.instant.nanosecond (offset_at (plain_zone c.in-Plain.zone) (nanos_at c.args.seconds)) at
    (c.to_datetime.ensures ∙ ap (λ n. c.in-Ok.instant.nanosecond +ℤ nanos_of_seconds (offset_at (plain_zone c.in-Plain.zone) n)) at)
    ∙ ap (λ rules. clock_seconds (offsets_by rules) c.args.seconds) (sym c.in-Plain.is)

pub returns-in-Table : goal.returns-in-Table
unfolding offsets offset_at
returns-in-Table c =
    let n : ℤ = c.in-Ok.instant.nanosecond in
    let at = instant_at c.args.seconds n c.requires c.in-Ok.ensures.value in
    shown c.to_datetime-in-Table.result c.args.seconds n (offsets_of_table c.in-Table.table c.args.seconds) at
    (c.to_datetime-in-Table.ensures ∙ ap (λ zone. n +ℤ nanos_of_seconds (offset_at zone n)) c.tzif.ensures
    ∙ ap (λ m. n +ℤ nanos_of_seconds ((table_offset c.in-Table.table m).seconds)) at)
    ∙ ap (λ rules. clock_seconds (offsets_by rules) c.args.seconds) (sym c.in-Table.is)
