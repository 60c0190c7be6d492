use Rattle.std.proofs.Common.{◌≡◌, ◌++◌, false, string_bytes, take}
use Rattle.run_times.specs.Written.{pieces_text}
use Rattle.run_times.proofs.writer.TextWriter.put_all.Given as goal

abbrev pub invariant-loop-piece : goal.invariant-loop-piece
invariant-loop-piece l =
    (l.self.is_refused ≡ false → string_bytes l.self.text ≡ string_bytes l.fn.self.text ++ pieces_text (take l.piece-index l.pieces))
    × (l.self.is_refused ≡ false → l.fn.self.is_refused ≡ false)
