use Rattle.std.proofs.Common.{◌<◌, length, refl, arith}
use Rattle.scope.proofs.journal.source.take_piece.Goals as goal

pub returns-in-Ok-eq0 : goal.returns-in-Ok-eq0
returns-in-Ok-eq0 g c =
    let read = c.in-Ok-eq0.ensures-1.bytes in
    let came = rw c.in-Ok-eq0.field-0-test at read.0 in
    let room : 0 < length c.read.new.buf = omega arith in
    (came, read.1 c.in-Ok-eq0.field-0-test room, refl)
