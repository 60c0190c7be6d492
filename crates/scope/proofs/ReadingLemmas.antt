-- What a reader gave was heard, piece by piece.
use Rattle.std.proofs.Common.{◌≡◌, ℕ, Bool, true, false, List, [], ◌∷◌, ◌++◌, Option, Some, None, refl, sym, ap, ◌∙◌, subst, append_assoc, append-nil}
use Rattle.std.specs.Io.KnownBytes.{Consumes, Keeps, IsAtEnd}
use Rattle.std.proofs.KnownBytes.{Consumes-trans, Consumes-nil, Consumes-kept}
use Rattle.ctl_protocol.specs.Lines.{Feed, lines_of, rest_of, takes, fed, line_limit}
use Rattle.ctl_protocol.proofs.CutLemmas.{lines_joined, rest_joined}
use Rattle.scope.specs.Journals.{ReceivesLines, Drains, IsFed, HasReceived, ReceivesPiece, feed_behind}
use Rattle.scope.specs.declared.journal.lines.JournalLines.{JournalLines}

-- a piece was taken after those that had come, and its lines were passed on
pub piece_received : {A : Type 0} (stands : A → List (List ℕ) → Type 0) (unread rest : Option (List ℕ)) (piece : List ℕ) (old mid new : JournalLines) (before after : A) → Consumes unread rest piece → IsFed old piece mid
    → ReceivesLines stands mid.count before mid.feed.lines after → Drains mid new → ReceivesPiece stands unread rest old before new after
piece_received stands unread rest piece old mid new before after came taken receives drains = λ bytes had.
    let now : mid.feed ≡ fed (feed_behind bytes) piece = (taken.1 drains.short).1 ∙ ap (λ f. fed f piece) had.fed in
    let lines : mid.feed.lines ≡ lines_of (rest_of bytes ++ piece) = ap (λ (f : Feed). f.lines) now in
    let all : lines_of bytes ++ mid.feed.lines ≡ lines_of (bytes ++ piece) = ap (λ ls. lines_of bytes ++ ls) lines ∙ sym (lines_joined bytes piece) in (
      piece,
      came,
      record {
        fed = drains.feed ∙ ap (λ (f : Feed). record f { lines = [] }) now ∙ rw (rest_joined bytes piece) refl;
        counted = λ none. let (first, nothing) = drains.counted none in sym all ∙ (λ i. had.counted (sym taken.0 ∙ first) i ++ nothing i);
        received = subst (stands after) all (receives (lines_of bytes) (λ none. had.counted (sym taken.0 ∙ none)) had.received);
      },
    )

-- nothing came
pub nothing_received : {A : Type 0} (stands : A → List (List ℕ) → Type 0) (unread rest : Option (List ℕ)) (old new : JournalLines) (receiver : A) → Consumes unread rest [] → new ≡ old
    → ReceivesPiece stands unread rest old receiver new receiver
nothing_received stands unread rest old new receiver came same = λ bytes had. (
  [],
  came,
  subst (λ (lines : JournalLines). HasReceived stands (bytes ++ []) lines.feed lines.count receiver) (sym same) (subst (λ all. HasReceived stands all old.feed old.count receiver) (sym (append-nil bytes)) had),
)

pub none_received : {A : Type 0} (stands : A → List (List ℕ) → Type 0) (unread : Option (List ℕ)) (lines : JournalLines) (receiver : A) → ReceivesPiece stands unread unread lines receiver lines receiver
none_received stands unread lines receiver = nothing_received stands unread unread lines lines receiver (Consumes-nil unread) refl

-- one piece after the other
pub received_on : {A : Type 0} (stands : A → List (List ℕ) → Type 0) (unread mid rest : Option (List ℕ)) (a b c : JournalLines) (x y z : A) → ReceivesPiece stands unread mid a x b y → ReceivesPiece stands mid rest b y c z
    → ReceivesPiece stands unread rest a x c z
received_on stands unread mid rest a b c x y z first second = λ bytes had.
    let (one, came, here) = first bytes had in
    let (other, comes, there) = second (bytes ++ one) here in
    (one ++ other, Consumes-trans unread mid rest one other came comes, subst (λ all. HasReceived stands all c.feed c.count z) (append_assoc bytes one other) there)

-- what stayed gave nothing
pub nothing_came : (a b : Option (List ℕ)) → Keeps a b → Consumes a b []
nothing_came a b kept = Consumes-kept a a b [] (Consumes-nil a) kept
