use Rattle.std.proofs.Common.{◌++◌, ◌∙◌, ap, string_bytes, rules}
use Rattle.std.proofs.lemmas.List.{take_all}
use Rattle.run_times.proofs.WrittenLemmas.{written_more}
use Rattle.run_times.specs.Written.{pieces_text}
use Rattle.run_times.proofs.writer.TextWriter.put_all.Goals as goal

pub loop-piece-init : goal.loop-piece-init
loop-piece-init c = (λ well. search rules, λ well. well)

pub loop-piece-preserved : goal.loop-piece-preserved
loop-piece-preserved c =
    let at = c.loop-piece.piece-index in
    let xs = c.args.pieces.now in (
      λ well. written_more _ _ _ xs at _ c.loop-piece-test.true (c.loop-piece.invariant.0 (c.put_piece.ensures.kept well)) (c.put_piece.ensures.added well),
      λ well. c.loop-piece.invariant.1 (c.put_piece.ensures.kept well),
    )

pub returns-clause-added : goal.returns-clause-added
returns-clause-added c = λ well. c.loop-piece.invariant.0 well ∙ ap (λ pieces. string_bytes c.args.self.now.text ++ pieces_text pieces) (take_all c.loop-piece.piece-index c.args.pieces.now c.loop-piece-test.false)

pub returns-clause-kept : goal.returns-clause-kept
returns-clause-kept c = c.loop-piece.invariant.1
