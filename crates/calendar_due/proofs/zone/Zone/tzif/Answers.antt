-- The goals of `Zone::tzif` that the prover leaves open.
use Rattle.std.proofs.Common.{refl}
use Rattle.calendar_due.specs.ZoneRules.{offsets}
use Rattle.calendar_due.proofs.RuleLemmas.{agrees-not-bad}
use Rattle.calendar_due.proofs.zone.Zone.tzif.Goals as goal

pub returns-in-Ok-clause-zone : goal.returns-in-Ok-clause-zone
unfolding offsets
returns-in-Ok-clause-zone c = record {
  table = c.in-Ok.table;
  read = c.in-Ok.ensures.value;
  agrees = c.in-Ok.ensures.agrees;
  offsets = refl;
}

pub returns-in-Ok-clause-bad_rule : goal.returns-in-Ok-clause-bad_rule
returns-in-Ok-clause-bad_rule c = λ bad. absurd (agrees-not-bad c.in-Ok.table _ c.in-Ok.ensures.value c.in-Ok.ensures.agrees bad)
