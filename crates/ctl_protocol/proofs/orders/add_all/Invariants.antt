-- What is written and the pieces to come are the text before and all pieces.
use Rattle.std.proofs.Common.{◌≡◌, ◌++◌, drop}
use Rattle.std.specs.List.{flat_map}
use Rattle.ctl_protocol.proofs.orders.add_all.Given as goal

abbrev pub invariant-loop-piece : goal.invariant-loop-piece
invariant-loop-piece l = l.text.items ++ flat_map (λ piece. piece.now) (drop l.piece-index l.pieces) ≡ l.initial.text.items ++ flat_map (λ piece. piece.now) l.pieces
