-- The goals of `Zone::posix` that the prover leaves open.
use Rattle.std.proofs.Common.{List, ℕ, refl}
use Rattle.jiff.specs.Placed.{IsPosixZone}
use Rattle.jiff_tz.specs.declared.timezone.TimeZone.{TimeZone}
use Rattle.jiff_tz.specs.declared.timezone.TimeZone.TheVariants.{UTC, Unknown, Fixed, Posix, Tzif}
use Rattle.jiff_tz.specs.Zone.{offset_at}
use Rattle.jiff.specs.ZoneView.{plain_zone}
use Rattle.calendar_due.specs.Offsets.{nanos_at}
use Rattle.calendar_due.specs.ZoneRules.{offsets}
use Rattle.calendar_due.specs.Zone.{IsOfRule}
use Rattle.calendar_due.proofs.zone.Zone.posix.Goals as goal

-- the offsets of a zone that is the rule of a text
of_rule : (text : List ℕ) (zone : TimeZone) → IsPosixZone text zone → IsOfRule text (λ second. offset_at zone (nanos_at second))
unfolding offset_at
of_rule text (Posix rule) read = record { rule = rule; read = read; offsets = refl }
of_rule text UTC read = absurd read
of_rule text Unknown read = absurd read
of_rule text (Fixed offset) read = absurd read
of_rule text (Tzif table) read = absurd read

pub returns-in-Ok-clause-zone : goal.returns-in-Ok-clause-zone
unfolding offsets
returns-in-Ok-clause-zone c = of_rule c.args.text.now (plain_zone c.in-Ok.zone) c.in-Ok.ensures.value
