-- What is written of one more is written after what was written of those before.
use Rattle.std.proofs.Common.{◌≡◌, ◌++◌, ◌∷◌, [], ◌∙◌, ◌+◌, ◌<◌, ap, sym, ℕ, List, take, length, get_or, subst, append-nil}
use Rattle.std.proofs.lemmas.List.{take_more}
use Rattle.std.specs.List.{flat_map}
use Rattle.std.proofs.lemmas.Grind.{flat_map-append}
use Rattle.run_times.specs.declared.writer.TextWriter.{TextWriter}
use Rattle.run_times.specs.Written.{Adds}
use Rattle.run_times.proofs.GrowingLemmas.{adds_on}

pub adds_more : {A : Type 0} → (text_of : A → List ℕ) (before : List A) (item : A) (a b c : TextWriter) →
    Adds (flat_map text_of before) a b → Adds (text_of item) b c → Adds (flat_map text_of (before ++ item ∷ [])) a c
adds_more text_of before item a b c first second =
    let more : flat_map text_of before ++ text_of item ≡ flat_map text_of (before ++ item ∷ []) =
    ap (λ last. flat_map text_of before ++ last) (sym (append-nil (text_of item))) ∙ sym (flat_map-append text_of before (item ∷ [])) in
    subst (λ text. Adds text a c) more (adds_on (flat_map text_of before) (text_of item) a b c first second)

-- the next of a list
pub adds_next : {A : Type 0} → (text_of : A → List ℕ) (items : List A) (at : ℕ) (other : A) (a b c : TextWriter) → at < length items →
    Adds (flat_map text_of (take at items)) a b → Adds (text_of (get_or items at other)) b c → Adds (flat_map text_of (take (at + 1) items)) a c
adds_next text_of items at other a b c is_there first second =
    subst (λ front. Adds (flat_map text_of front) a c) (sym (take_more items at other is_there)) (adds_more text_of (take at items) (get_or items at other) a b c first second)
