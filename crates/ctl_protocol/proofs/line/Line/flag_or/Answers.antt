-- What the check of `line::Line::flag_or` does not find by itself.
use Rattle.std.proofs.Common.{◌∙◌, sym, ap}
use Rattle.json.specs.Value.{value_view}
use Rattle.ctl_protocol.specs.Trees.{flag_from}
use Rattle.ctl_protocol.proofs.TreesLemmas.{flag_or_at_key}
use Rattle.ctl_protocol.proofs.line.Line.flag_or.Goals as goal

pub returns-in-Some : goal.returns-in-Some
returns-in-Some c = c.as_bool.ensures ∙ ap (flag_from c.args.absent) c.in-Some.ensures ∙ sym (flag_or_at_key c.args.key.now c.args.absent (value_view c.args.self.now.tree) c.args.self.now.readable)

pub returns-in-None : goal.returns-in-None
returns-in-None c = ap (flag_from c.args.absent) c.in-None.ensures ∙ sym (flag_or_at_key c.args.key.now c.args.absent (value_view c.args.self.now.tree) c.args.self.now.readable)
