-- What the check of `outcome::reply_from` does not find by itself.
use Rattle.std.proofs.Common.{ap, ◌∙◌}
use Rattle.serde_json.specs.Written.{has_float}
use Rattle.ctl_protocol.proofs.ObjectsLemmas.{reply_no_float}
use Rattle.ctl_protocol.proofs.outcome.reply_from.Goals as goal

pub line_from-requires : goal.line_from-requires
line_from-requires c = ap has_float c.in_ok-value.ensures ∙ reply_no_float c.args.code c.args.text.now
