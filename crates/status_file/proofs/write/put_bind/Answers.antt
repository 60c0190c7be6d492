use Rattle.std.proofs.Common.{◌++◌, ◌∷◌, [], codes, Some}
use Rattle.json.specs.Token.{end_object}
use Rattle.status_file.specs.Tokens.{bind_front_tokens, moment_tokens}
use Rattle.status_file.proofs.LinesLemmas.{followed, puts}
use Rattle.status_file.proofs.write.put_bind.Goals as goal

pub returns : goal.returns
returns c =
    let b = c.args.bind in
    let x = c.args.line.now in
    let y = c.put_bind_front.new.line in
    let z = c.put_moment.new.line in
    let w = c.put.new.self in
    let at = moment_tokens (codes "at") (Some b.at) in
    let last = end_object ∷ [] in
    followed (bind_front_tokens b) (at ++ last) x y w c.put_bind_front.ensures
    (followed at last y z w c.put_moment.ensures (puts last z w c.put.ensures.kept c.put.ensures.before c.put.ensures.added))
