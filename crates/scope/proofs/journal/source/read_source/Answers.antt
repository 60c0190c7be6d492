use Rattle.scope.specs.Journals.{ReceivesPiece}
use Rattle.scope.proofs.ReadingLemmas.{none_received, received_on}
use Rattle.scope.proofs.journal.source.read_source.Goals as goal

pub pieces-init : goal.pieces-init
pieces-init g c = none_received g.H.Receives.stands (g.R.Read.remaining c.args.source.now) c.args.lines.now c.args.receiver.now

pub pieces-preserved : goal.pieces-preserved
pieces-preserved g c =
    let before = g.R.Read.remaining c.args.source.now in
    let then = g.R.Read.remaining c.pieces.source in
    let k = c.take_and_show.new in
    received_on g.H.Receives.stands before then (g.R.Read.remaining k.source) c.args.lines.now c.pieces.lines k.lines c.args.receiver.now c.pieces.receiver k.receiver c.pieces.invariant c.in-Ok-true.ensures.received

pub returns-in-Ok-false : goal.returns-in-Ok-false
returns-in-Ok-false g c =
    let before = g.R.Read.remaining c.args.source.now in
    let then = g.R.Read.remaining c.pieces.source in
    let k = c.take_and_show.new in (
      received_on g.H.Receives.stands before then (g.R.Read.remaining k.source) c.args.lines.now c.pieces.lines k.lines c.args.receiver.now c.pieces.receiver k.receiver c.pieces.invariant c.in-Ok-false.ensures.received,
      c.in-Ok-false.ensures.ended c.in-Ok-false.field-0-test,
    )
