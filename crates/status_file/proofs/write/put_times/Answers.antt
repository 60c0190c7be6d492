-- What its pieces come to, some of which are made by a call.
use Rattle.status_file.specs.Tokens.{times_tokens}
use Rattle.status_file.proofs.LinesLemmas.{puts}
use Rattle.status_file.proofs.write.put_times.Goals as goal

pub returns : goal.returns
returns c =
    puts (times_tokens c.args.moments c.args.spawn) c.args.line.now c.put.new.self c.put.ensures.kept c.put.ensures.before
    (λ well. rw (← c.count_piece.ensures, ← c.count_piece-2.ensures, ← c.count_piece-3.ensures, ← c.count_piece-4.ensures) (c.put.ensures.added well))
