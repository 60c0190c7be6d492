-- What the check of `tree::tree_in` does not find by itself.
use Rattle.std.proofs.Common.{◌∙◌, sym, ap}
use Rattle.json.specs.Lex.{tokens}
use Rattle.json.specs.Json.{value}
use Rattle.serde_json.specs.Read.{max_depth}
use Rattle.ctl_protocol.proofs.TreesLemmas.{no_tree, tree_read}
use Rattle.ctl_protocol.proofs.tree.tree_in.Goals as goal

pub returns-in_default : goal.returns-in_default
returns-in_default c = sym (no_tree _ c.in_default.ensures.cases.0)

pub returns-in-Ok-read : goal.returns-in-Ok-read
returns-in-Ok-read c =
    let text = c.in-Ok.ensures.cases in
    let begun = c.in_ok-reader.ensures.ok ∙ ap tokens text.0 in
    sym (tree_read _ _ _ text.1 (ap (value max_depth) (sym begun) ∙ c.in-Ok-read.ensures.ok) c.in-None.ensures.value.0)
