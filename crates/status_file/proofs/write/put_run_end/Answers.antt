use Rattle.std.proofs.Common.{◌++◌, ◌∷◌, [], codes, Some}
use Rattle.json.specs.Token.{end_object}
use Rattle.status_file.specs.Tokens.{end_front_tokens, moment_tokens}
use Rattle.status_file.proofs.LinesLemmas.{followed, puts}
use Rattle.status_file.proofs.write.put_run_end.Goals as goal

pub returns : goal.returns
returns c =
    let a = c.args.line.now in
    let b = c.put_end_front.new.line in
    let d = c.put_moment.new.line in
    let e = c.put_moment-2.new.line in
    let f = c.put.new.self in
    let front = end_front_tokens c.args.end in
    let began = moment_tokens (codes "began") (Some c.args.end.began) in
    let ended = moment_tokens (codes "ended") (Some c.args.end.ended) in
    let last = end_object ∷ [] in
    followed front (began ++ (ended ++ last)) a b f c.put_end_front.ensures
    (followed began (ended ++ last) b d f c.put_moment.ensures
    (followed ended last d e f c.put_moment-2.ensures
    (puts last e f c.put.ensures.kept c.put.ensures.before c.put.ensures.added)))
