-- The goals of `Zone::fixed` that the prover leaves open.
use Rattle.std.proofs.lemmas.Int.{to_z-of_z}
use Rattle.std.proofs.Common.{FitsSigned, w32, to_z, of_z, ◌≡◌, ℤ, pos, ◌∙◌, ap, sym, refl, inl, inr}
use Rattle.std.proofs.Math.Path.{fun_ext}
use Rattle.std.proofs.lemmas.Bool.Decides.{Decides-int_eq}
use Rattle.std.proofs.lemmas.Bool.{cases_Bool}
use Rattle.std.specs.Ordering.{int_eq}
use Rattle.jiff.specs.Placed.{fixed_zone}
use Rattle.jiff_tz.specs.Zone.{offset_at}
use Rattle.jiff_core.specs.declared.Offset.{Offset}
use Rattle.calendar_due.specs.Offsets.{nanos_at}
use Rattle.calendar_due.specs.ZoneRules.{offsets}
use Rattle.calendar_due.proofs.zone.Zone.fixed.Goals as goal

-- the zone of an offset is ahead by it at each instant
fixed-ahead : (offset : Offset) (n : ℤ) → offset_at (fixed_zone offset) n ≡ offset.seconds
unfolding offset_at
fixed-ahead offset n = elim (cases_Bool (int_eq offset.seconds (pos 0))) [
  | inl same ↦ rw same (sym ((Decides-int_eq offset.seconds (pos 0)).0 same))
  | inr other ↦ rw other refl
]

pub returns-in-Ok-clause-zone : goal.returns-in-Ok-clause-zone
unfolding offsets
returns-in-Ok-clause-zone c =
    let fits : FitsSigned w32 c.args.seconds = c.ranges.seconds in
    let kept : to_z w32 (of_z w32 c.args.seconds) ≡ c.args.seconds = rw to_z-of_z in
    fun_ext λ second.
    ap (λ zone. offset_at zone (nanos_at second)) c.fixed.ensures ∙ fixed-ahead c.in-Ok.offset (nanos_at second) ∙ c.in-Ok.ensures.value ∙ kept
