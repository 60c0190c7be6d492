-- What stays true in the loop of `LineWriter::put`.
use Rattle.std.proofs.Common.{take}
use Rattle.status_file.specs.Tokens.{tokens_in}
use Rattle.status_file.specs.Lines.{Puts}
use Rattle.status_file.proofs.line.LineWriter.put.Given as goal

abbrev pub invariant-loop-piece : goal.invariant-loop-piece
invariant-loop-piece l = Puts (tokens_in (take l.piece-index l.pieces)) l.fn.self l.self
