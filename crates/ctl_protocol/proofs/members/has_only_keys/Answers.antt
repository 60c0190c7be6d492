-- What the check of `members::has_only_keys` does not find by itself.
use Rattle.std.proofs.Common.{◌∙◌, sym, ap}
use Rattle.json.specs.Value.{value_view}
use Rattle.ctl_protocol.specs.Members.{is_key}
use Rattle.json_kinds.specs.JsonKinds.{texts_in}
use Rattle.ctl_protocol.specs.Trees.{keys_are}
use Rattle.ctl_protocol.proofs.TreesLemmas.{data_keys}
use Rattle.ctl_protocol.proofs.members.has_only_keys.Goals as goal

pub returns-in-Some : goal.returns-in-Some
returns-in-Some c =
    let keys = texts_in c.args.keys.now in
    let answers = texts_in c.args.answers.now in
    c.all_are_keys.ensures ∙ ap (keys_are (is_key c.args.form keys answers)) c.in-Some.ensures
    ∙ sym (data_keys c.args.form keys answers (value_view c.args.line.now.tree) c.args.line.now.readable)

pub returns-in-None : goal.returns-in-None
returns-in-None c =
    let keys = texts_in c.args.keys.now in
    let answers = texts_in c.args.answers.now in
    ap (keys_are (is_key c.args.form keys answers)) c.in-None.ensures
    ∙ sym (data_keys c.args.form keys answers (value_view c.args.line.now.tree) c.args.line.now.readable)
