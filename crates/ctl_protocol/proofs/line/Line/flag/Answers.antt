-- What the check of `line::Line::flag` does not find by itself.
use Rattle.std.proofs.Common.{◌∙◌, sym, ap, option_and_then}
use Rattle.json.specs.Find as json
use Rattle.json.specs.Value.{value_view}
use Rattle.ctl_protocol.proofs.TreesLemmas.{flag_at_key}
use Rattle.ctl_protocol.proofs.line.Line.flag.Goals as goal

pub returns-in-Some : goal.returns-in-Some
returns-in-Some c = c.as_bool.ensures ∙ ap (option_and_then json.as_bool) c.in-Some.ensures ∙ sym (flag_at_key c.args.key.now (value_view c.args.self.now.tree) c.args.self.now.readable)

pub returns-in-None : goal.returns-in-None
returns-in-None c = ap (option_and_then json.as_bool) c.in-None.ensures ∙ sym (flag_at_key c.args.key.now (value_view c.args.self.now.tree) c.args.self.now.readable)
