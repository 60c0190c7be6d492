-- What its pieces come to, some of which are made by a call.
use Rattle.status_file.specs.Tokens.{held_tokens}
use Rattle.status_file.proofs.LinesLemmas.{puts}
use Rattle.status_file.proofs.write.put_held.Goals as goal

pub returns : goal.returns
returns c =
    puts (held_tokens c.args.reasons) c.args.line.now c.put.new.self c.put.ensures.kept c.put.ensures.before
    (λ well. rw (← c.count_piece.ensures) (c.put.ensures.added well))
