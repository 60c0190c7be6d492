-- What its pieces come to, some of which are made by a call.
use Rattle.status_file.specs.Tokens.{conditions_tokens}
use Rattle.status_file.proofs.LinesLemmas.{puts}
use Rattle.status_file.proofs.write.put_conditions.Goals as goal

pub returns : goal.returns
returns c =
    puts (conditions_tokens c.args.keys) c.args.line.now c.put.new.self c.put.ensures.kept c.put.ensures.before
    (λ well. rw (← c.flag_piece.ensures, ← c.flag_piece-2.ensures, ← c.text_piece.ensures, ← c.flag_piece-3.ensures, ← c.flag_piece-4.ensures) (c.put.ensures.added well))
