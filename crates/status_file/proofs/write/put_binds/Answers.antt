use Rattle.std.proofs.Common.{◌++◌, ◌∷◌, [], codes}
use Rattle.std.specs.List.{flat_map}
use Rattle.json.specs.Token.{begin_array, end_array, key}
use Rattle.status_file.specs.Tokens.{bind_tokens}
use Rattle.status_file.proofs.LinesLemmas.{followed, puts}
use Rattle.status_file.proofs.write.put_binds.Goals as goal

pub returns : goal.returns
returns c =
    let a = c.args.line.now in
    let b = c.put.new.self in
    let d = c.put_each_bind.new.line in
    let e = c.put-2.new.self in
    let first = key (codes "refused_binds") ∷ begin_array ∷ [] in
    let each = flat_map bind_tokens c.args.binds.now in
    let last = end_array ∷ [] in
    followed first (each ++ last) a b e (puts first a b c.put.ensures.kept c.put.ensures.before c.put.ensures.added)
    (followed each last b d e c.put_each_bind.ensures (puts last d e c.put-2.ensures.kept c.put-2.ensures.before c.put-2.ensures.added))
