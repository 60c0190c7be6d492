-- A line for each cause, and one more.
use Rattle.std.proofs.Common.{◌≡◌, ℕ, ◌+◌, ◌<◌, ◌≤◌, List, [], ◌∷◌, ◌++◌, length, take, get_or, refl, sym, ap, ◌∙◌, subst, append_assoc}
use Rattle.std.proofs.lemmas.List.{take_more, take_all}
use Rattle.run_times.specs.declared.writer.TextWriter.{TextWriter}
use Rattle.run_times.specs.Written.{Adds}
use Rattle.run_times.proofs.GrowingLemmas.{adds_on}
use Rattle.scope.specs.declared.journal.telling.JobCause.{JobCause}
use Rattle.scope.specs.Fronts.{front_of, AreLines, TellsEach}

lines_more : (causes : List JobCause) (cause : JobCause) (text more : List ℕ) → AreLines causes text → AreLines (causes ++ cause ∷ []) (text ++ (front_of cause ++ (more ++ 10 ∷ [])))
lines_more [] cause text more none = (more, [], refl, ap (λ t. t ++ (front_of cause ++ (more ++ 10 ∷ []))) none)
lines_more (c ∷ cs) cause text more (first, others, rest, is) =
    let line = front_of cause ++ (more ++ 10 ∷ []) in (
      first,
      others ++ line,
      lines_more cs cause others more rest,
      ap (λ t. t ++ line) is ∙ append_assoc (front_of c) (first ++ 10 ∷ others) line ∙ ap (λ t. front_of c ++ t) (append_assoc first (10 ∷ others) line),
    )

-- a line more after those of the causes up to a place
pub told_more : (at : ℕ) (causes : List JobCause) (other : JobCause) (a b c : TextWriter) → at < length causes → TellsEach (take at causes) a b
    → ((more : List ℕ) × Adds (front_of (get_or causes at other) ++ (more ++ 10 ∷ [])) b c) → TellsEach (take (at + 1) causes) a c
told_more at causes other a b c there (text, lines, before) (more, added) =
    let cause = get_or causes at other in (
      text ++ (front_of cause ++ (more ++ 10 ∷ [])),
      subst (λ cs. AreLines cs (text ++ (front_of cause ++ (more ++ 10 ∷ [])))) (sym (take_more causes at other there)) (lines_more (take at causes) cause text more lines),
      adds_on text (front_of cause ++ (more ++ 10 ∷ [])) a b c before added,
    )

-- so of all of them
pub told_all : (causes : List JobCause) (at : ℕ) (a b : TextWriter) → length causes ≤ at → TellsEach (take at causes) a b → TellsEach causes a b
told_all causes at a b over told = subst (λ cs. TellsEach cs a b) (take_all at causes over) told
