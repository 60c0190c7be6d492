-- What the check of `written::clock` does not find by itself.
use Rattle.ctl_protocol.proofs.WrittenLinesLemmas.{clock_told}
use Rattle.ctl_protocol.proofs.written.clock.Goals as goal

pub returns : goal.returns
returns c = clock_told c.args.bytes.now c.in_ok-up.rest.now c.in_ok-up.up c.in_ok-wall.wall c.in_ok-up.ensures c.in_ok-wall.ensures
