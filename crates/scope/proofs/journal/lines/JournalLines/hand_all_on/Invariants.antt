-- What stays true in the loop of `journal::lines::JournalLines::hand_all_on`.
use Rattle.std.proofs.Common.{◌≡◌, ℕ, List, [], ◌++◌, length}
use Rattle.scope.specs.Journals.{ReceivesLines}
use Rattle.scope.proofs.journal.lines.JournalLines.hand_all_on.Given as goal

abbrev pub invariant-lines : goal.invariant-lines
invariant-lines g l =
    (done : List (List ℕ)) × (l.initial.self.feed ≡ record l.self.feed { lines = done ++ l.self.feed.lines }) × (l.self.is_long ≡ l.initial.self.is_long)
    × (l.self.count ≡ 0 → (l.initial.self.count ≡ 0) × (done ≡ []))
    × ReceivesLines g.H.Receives.stands l.initial.self.count l.initial.receiver done l.receiver

abbrev pub decreases-lines : goal.decreases-lines
decreases-lines g l = length l.self.feed.lines
