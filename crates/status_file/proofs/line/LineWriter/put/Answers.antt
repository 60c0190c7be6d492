use Rattle.std.proofs.Common.{◌++◌, ◌∙◌, ap}
use Rattle.std.proofs.lemmas.List.{take_all}
use Rattle.status_file.specs.Tokens.{tokens_in}
use Rattle.status_file.proofs.LinesLemmas.{nothing, one_more, puts}
use Rattle.status_file.proofs.line.LineWriter.put.Goals as goal

pub loop-piece-init : goal.loop-piece-init
loop-piece-init c = nothing c.args.self.now

pub loop-piece-preserved : goal.loop-piece-preserved
loop-piece-preserved c =
    one_more c.args.pieces.now c.loop-piece.piece-index _ c.args.self.now c.loop-piece.self c.put_piece.new.self c.loop-piece-test.true c.loop-piece.invariant
    (puts _ c.loop-piece.self c.put_piece.new.self c.put_piece.ensures.kept c.put_piece.ensures.before c.put_piece.ensures.added)

pub returns-clause-kept : goal.returns-clause-kept
returns-clause-kept c = c.loop-piece.invariant.kept

pub returns-clause-before : goal.returns-clause-before
returns-clause-before c = c.loop-piece.invariant.before

pub returns-clause-added : goal.returns-clause-added
returns-clause-added c = λ well.
    c.loop-piece.invariant.added well
    ∙ ap (λ ps. c.args.self.now.writer.tokens ++ tokens_in ps) (take_all c.loop-piece.piece-index c.args.pieces.now c.loop-piece-test.false)
