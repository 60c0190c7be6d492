use Rattle.std.proofs.Common.{◌++◌, ◌∷◌, []}
use Rattle.json.specs.Token.{end_object}
use Rattle.status_file.specs.Tokens.{awaited_tokens, child_tokens, held_tokens, wants_tokens}
use Rattle.status_file.proofs.LinesLemmas.{followed, puts}
use Rattle.status_file.proofs.write.put_reasons.Goals as goal

pub returns : goal.returns
returns c =
    let r = c.args.reasons.now in
    let a = c.args.line.now in
    let b = c.put_held.new.line in
    let d = c.put_child.new.line in
    let e = c.put_awaited.new.line in
    let f = c.put_wants.new.line in
    let g = c.put.new.self in
    let held = held_tokens r in
    let child = child_tokens r.child in
    let awaited = awaited_tokens r.awaited in
    let wants = wants_tokens r.wants in
    let last = end_object ∷ [] in
    followed held (child ++ (awaited ++ (wants ++ last))) a b g c.put_held.ensures
    (followed child (awaited ++ (wants ++ last)) b d g c.put_child.ensures
    (followed awaited (wants ++ last) d e g c.put_awaited.ensures
    (followed wants last e f g c.put_wants.ensures
    (puts last f g c.put.ensures.kept c.put.ensures.before c.put.ensures.added))))
