-- Causes that are shown, with one more.
use Rattle.std.proofs.Common.{◌≡◌, ℕ, ◌+◌, ◌<◌, ◌≤◌, Bool, true, false, cond, List, [], ◌∷◌, ◌++◌, length, take, get_or, refl, ap, ◌∙◌}
use Rattle.std.proofs.lemmas.List.{take_more, take_all}
use Rattle.std.proofs.lemmas.List.Elements.{filter-append}
use Rattle.std.specs.List.{filter}
use Rattle.history_model.specs.declared.reasons.Reasons.{Reasons}
use Rattle.scope.specs.CauseLists.{when}
use Rattle.scope.specs.ShownCauses.{is_shown}
use Rattle.scope.specs.declared.journal.telling.JobCause.{JobCause}

single : (b : Bool) (cause : JobCause) → cond b (cause ∷ []) [] ≡ when b cause
single true cause = refl
single false cause = refl

-- those up to a place, and the one there
pub shown_more : (r : Reasons) (at : ℕ) (causes : List JobCause) (other : JobCause) → at < length causes
    → filter (is_shown r) (take (at + 1) causes) ≡ filter (is_shown r) (take at causes) ++ when (is_shown r (get_or causes at other)) (get_or causes at other)
shown_more r at causes other there =
    let cause = get_or causes at other in
    ap (filter (is_shown r)) (take_more causes at other there)
    ∙ filter-append (is_shown r) (take at causes) (cause ∷ [])
    ∙ ap (λ xs. filter (is_shown r) (take at causes) ++ xs) (single (is_shown r cause) cause)

-- all of them
pub shown_all : (r : Reasons) (causes : List JobCause) (at : ℕ) → length causes ≤ at → filter (is_shown r) (take at causes) ≡ filter (is_shown r) causes
shown_all r causes at over = ap (filter (is_shown r)) (take_all at causes over)
