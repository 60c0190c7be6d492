-- What its pieces come to, some of which are made by a call.
use Rattle.status_file.specs.Tokens.{counts_tokens}
use Rattle.status_file.proofs.LinesLemmas.{puts}
use Rattle.status_file.proofs.write.put_counts.Goals as goal

pub returns : goal.returns
returns c =
    puts (counts_tokens c.args.pid c.args.run c.args.starts c.args.failures c.args.refusals c.args.connections) c.args.line.now c.put.new.self c.put.ensures.kept c.put.ensures.before
    (λ well. rw (← c.count_piece.ensures) (c.put.ensures.added well))
