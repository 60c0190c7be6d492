-- What the check of `line::Line::has` does not find by itself.
use Rattle.std.proofs.Common.{◌∙◌, sym, ap, is_some}
use Rattle.json.specs.Value.{value_view}
use Rattle.ctl_protocol.proofs.TreesLemmas.{has_at_key}
use Rattle.ctl_protocol.proofs.line.Line.has.Goals as goal

pub returns-in-Some : goal.returns-in-Some
returns-in-Some c = ap is_some c.in-Some.ensures ∙ sym (has_at_key c.args.key.now (value_view c.args.self.now.tree) c.args.self.now.readable)

pub returns-in-None : goal.returns-in-None
returns-in-None c = ap is_some c.in-None.ensures ∙ sym (has_at_key c.args.key.now (value_view c.args.self.now.tree) c.args.self.now.readable)
