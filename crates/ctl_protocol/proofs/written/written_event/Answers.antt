-- What the check of `written::written_event` does not find by itself.
use Rattle.std.proofs.Common.{codes}
use Rattle.ctl_protocol.proofs.WrittenLinesLemmas.{told_after}
use Rattle.ctl_protocol.proofs.written.written_event.Goals as goal

pub returns-in-Some-after : goal.returns-in-Some-after
returns-in-Some-after c = told_after c.args.line.now (codes "{\"ev\":\"saw\"") c.in-Some-after.rest.now c.saw.result c.in-Some-after.ensures c.saw.ensures

pub returns-in-Some-after-2 : goal.returns-in-Some-after-2
returns-in-Some-after-2 c = told_after c.args.line.now (codes "{\"ev\":\"spawned\",\"job\":\"") c.in-Some-after-2.rest.now c.spawned.result c.in-Some-after-2.ensures c.spawned.ensures
