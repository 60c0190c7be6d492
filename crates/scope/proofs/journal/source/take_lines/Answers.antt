use Rattle.scope.specs.Journals.{Reads}
use Rattle.scope.specs.declared.journal.source.PieceRead.TheVariants.{Nothing, Piece}
use Rattle.scope.proofs.ReadingLemmas.{nothing_came, nothing_received, piece_received}
use Rattle.scope.proofs.journal.source.take_lines.Goals as goal

pub returns-in-Ok-clause-received : goal.returns-in-Ok-clause-received
returns-in-Ok-clause-received g c =
    let unread = g.R.Read.remaining c.args.source.now in
    let rest = g.R.Read.remaining c.take_piece.new.source in
    let read : Reads Piece unread rest c.args.lines.now c.take_piece.new.lines = rw c.in-Ok-Piece.field-0-is at c.in-Ok-Piece.ensures in
    let (piece, came, taken) = read in
    piece_received g.H.Receives.stands unread rest piece c.args.lines.now c.take_piece.new.lines c.hand_all_on.new.self c.args.receiver.now c.hand_all_on.new.receiver came taken c.in-Ok.ensures.received c.in-Ok.ensures.drained

pub returns-in-Ok-Nothing-clause-received : goal.returns-in-Ok-Nothing-clause-received
returns-in-Ok-Nothing-clause-received g c =
    let unread = g.R.Read.remaining c.args.source.now in
    let rest = g.R.Read.remaining c.take_piece.new.source in
    let read : Reads Nothing unread rest c.args.lines.now c.take_piece.new.lines = rw c.in-Ok-Nothing.field-0-is at c.in-Ok-Nothing.ensures in
    nothing_received g.H.Receives.stands unread rest c.args.lines.now c.take_piece.new.lines c.args.receiver.now (nothing_came unread rest read.0) read.1
