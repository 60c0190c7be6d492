-- What its pieces come to, one of which is made by a call.
use Rattle.status_file.specs.Tokens.{process_tokens}
use Rattle.status_file.proofs.LinesLemmas.{puts}
use Rattle.status_file.proofs.write.put_process.Goals as goal

pub returns : goal.returns
returns c =
    puts (process_tokens c.args.launcher) c.args.line.now c.put.new.self c.put.ensures.kept c.put.ensures.before
    (λ well. rw (← c.wide_piece.ensures) (c.put.ensures.added well))
