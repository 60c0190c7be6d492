-- What its pieces come to, some of which are made by a call.
use Rattle.status_file.specs.Tokens.{limits_tokens}
use Rattle.status_file.proofs.LinesLemmas.{puts}
use Rattle.status_file.proofs.write.put_limits.Goals as goal

pub returns : goal.returns
returns c =
    puts (limits_tokens c.args.keys) c.args.line.now c.put.new.self c.put.ensures.kept c.put.ensures.before
    (λ well. rw (← c.wide_piece_if.ensures, ← c.wide_piece.ensures, ← c.wide_piece-2.ensures) (c.put.ensures.added well))
