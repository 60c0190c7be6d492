-- What its pieces come to, some of which are made by a call.
use Rattle.status_file.specs.Tokens.{start_front_tokens}
use Rattle.status_file.proofs.LinesLemmas.{puts}
use Rattle.status_file.proofs.write.put_start_front.Goals as goal

pub returns : goal.returns
returns c =
    puts (start_front_tokens c.args.run c.args.reason) c.args.line.now c.put.new.self c.put.ensures.kept c.put.ensures.before
    (λ well. rw (← c.text_piece.ensures) (c.put.ensures.added well))
