-- What the check of `written::after` does not find by itself.
use Rattle.ctl_protocol.proofs.WrittenLinesLemmas.{stripped}
use Rattle.ctl_protocol.proofs.written.after.Goals as goal

pub returns : goal.returns
returns c = stripped c.args.bytes.now c.args.text.now c.strip_prefix.result c.strip_prefix.ensures.cases
