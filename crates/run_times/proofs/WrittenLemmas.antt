-- A text that is written piece by piece, after one piece more.
use Rattle.std.proofs.Common.{◌≡◌, ◌++◌, ◌∷◌, [], ◌∙◌, ◌+◌, ◌<◌, ap, sym, ℕ, List, take, length, get_or, append-nil}
use Rattle.std.proofs.lemmas.List.{take_more, append_assoc}
use Rattle.std.proofs.lemmas.Grind.{flat_map-append}
use Rattle.run_times.specs.declared.writer.Piece.{Piece}
use Rattle.run_times.specs.Written.{piece_text, pieces_text}

pub written_more : (was before now : List ℕ) (pieces : List Piece) (at : ℕ) (other : Piece) → at < length pieces →
    before ≡ was ++ pieces_text (take at pieces) → now ≡ before ++ piece_text (get_or pieces at other) →
    now ≡ was ++ pieces_text (take (at + 1) pieces)
written_more was before now pieces at other is_there earlier added =
    let piece = get_or pieces at other in
    let front = pieces_text (take at pieces) in
    let more : pieces_text (take (at + 1) pieces) ≡ front ++ piece_text piece =
    ap pieces_text (take_more pieces at other is_there) ∙ flat_map-append piece_text (take at pieces) (piece ∷ [])
    ∙ ap (λ last. front ++ last) (append-nil (piece_text piece)) in
    added ∙ ap (λ written. written ++ piece_text piece) earlier ∙ append_assoc was front (piece_text piece)
    ∙ ap (λ written. was ++ written) (sym more)
