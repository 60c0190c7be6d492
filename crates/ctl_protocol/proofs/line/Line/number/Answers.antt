-- What the check of `line::Line::number` does not find by itself.
use Rattle.std.proofs.Common.{◌∙◌, sym, ap, option_and_then}
use Rattle.ctl_protocol.specs.Trees.{integer_of}
use Rattle.json.specs.Value.{value_view}
use Rattle.ctl_protocol.proofs.TreesLemmas.{number_at_key}
use Rattle.ctl_protocol.proofs.line.Line.number.Goals as goal

pub returns-in-Some : goal.returns-in-Some
returns-in-Some c = c.integer_in.ensures ∙ ap (option_and_then integer_of) c.in-Some.ensures ∙ sym (number_at_key c.args.key.now (value_view c.args.self.now.tree) c.args.self.now.readable)

pub returns-in-None : goal.returns-in-None
returns-in-None c = ap (option_and_then integer_of) c.in-None.ensures ∙ sym (number_at_key c.args.key.now (value_view c.args.self.now.tree) c.args.self.now.readable)
