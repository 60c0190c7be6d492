-- What its pieces come to, some of which are made by a call.
use Rattle.status_file.specs.Tokens.{tallies_tokens}
use Rattle.status_file.proofs.LinesLemmas.{puts}
use Rattle.status_file.proofs.write.put_tallies.Goals as goal

pub returns : goal.returns
returns c =
    puts (tallies_tokens c.args.launcher) c.args.line.now c.put.new.self c.put.ensures.kept c.put.ensures.before
    (λ well. rw (← c.text_piece.ensures, ← c.count_piece.ensures, ← c.count_piece-2.ensures, ← c.flag_piece.ensures) (c.put.ensures.added well))
