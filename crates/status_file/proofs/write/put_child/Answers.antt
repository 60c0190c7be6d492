-- What its pieces come to, one of which is made by a call.
use Rattle.std.proofs.Common.{Some, subst, sym}
use Rattle.status_file.specs.Lines.{Puts}
use Rattle.status_file.specs.Tokens.{child_tokens}
use Rattle.status_file.proofs.LinesLemmas.{puts}
use Rattle.status_file.proofs.write.put_child.Goals as goal

pub returns-in-Some : goal.returns-in-Some
returns-in-Some c =
    let a = c.args.line.now in
    let b = c.put.new.self in
    subst (λ child. Puts (child_tokens child) a b) (sym c.in-Some.is)
    (puts (child_tokens (Some c.in-Some.child)) a b c.put.ensures.kept c.put.ensures.before
    (λ well. rw (← c.wide_piece.ensures) (c.put.ensures.added well)))
