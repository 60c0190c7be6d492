-- What came so far was heard.
use Rattle.scope.specs.Journals.{ReceivesPiece}
use Rattle.scope.proofs.journal.source.read_source.Given as goal

abbrev pub invariant-pieces : goal.invariant-pieces
invariant-pieces g l = ReceivesPiece g.H.Receives.stands (g.R.Read.remaining l.fn.source) (g.R.Read.remaining l.source) l.fn.lines l.fn.receiver l.lines l.receiver
