-- What its pieces come to, some of which are made by a call.
use Rattle.status_file.specs.Tokens.{loaded_tokens}
use Rattle.status_file.proofs.LinesLemmas.{puts}
use Rattle.status_file.proofs.write.put_loaded.Goals as goal

pub returns : goal.returns
returns c =
    puts (loaded_tokens c.args.by c.args.definition) c.args.line.now c.put.new.self c.put.ensures.kept c.put.ensures.before
    (λ well. rw (← c.text_piece.ensures) (rw (← c.disabled_piece.ensures) (c.put.ensures.added well)))
