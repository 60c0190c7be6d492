-- What is written of one more is written after what was written of those before.
use Rattle.std.proofs.Common.{◌≡◌, ◌++◌, ◌∷◌, [], ◌∙◌, ◌+◌, ◌<◌, ◌≤◌, ap, sym, refl, ℕ, List, take, length, get_or, subst, append-nil, append_assoc}
use Rattle.std.proofs.lemmas.List.{take_more, take_all}
use Rattle.std.specs.List.{flat_map}
use Rattle.std.proofs.lemmas.Grind.{flat_map-append}
use Rattle.run_times.specs.declared.writer.TextWriter.{TextWriter}
use Rattle.run_times.specs.Written.{Adds}
use Rattle.run_times.proofs.GrowingLemmas.{adds_on}
use Rattle.json_lines.specs.declared.Field.{Field}
use Rattle.json_lines.specs.Objects.{IsMember, AreMembers, TellsMember, TellsMembers}

pub adds_more : {A : Type 0} → (text_of : A → List ℕ) (before : List A) (item : A) (a b c : TextWriter) →
    Adds (flat_map text_of before) a b → Adds (text_of item) b c → Adds (flat_map text_of (before ++ item ∷ [])) a c
adds_more text_of before item a b c first second =
    let more : flat_map text_of before ++ text_of item ≡ flat_map text_of (before ++ item ∷ []) =
    ap (λ last. flat_map text_of before ++ last) (sym (append-nil (text_of item))) ∙ sym (flat_map-append text_of before (item ∷ [])) in
    subst (λ text. Adds text a c) more (adds_on (flat_map text_of before) (text_of item) a b c first second)

members_more : (fields : List Field) (field : Field) (text one : List ℕ) → AreMembers fields text → IsMember field.0.now field.1 one → AreMembers (fields ++ field ∷ []) (text ++ one)
members_more [] field text one none is = (one, [], is, refl, ap (λ t. t ++ one) none ∙ sym (append-nil one))
members_more (f ∷ fs) field text one (first, others, so, rest, whole) is = (
  first,
  others ++ one,
  so,
  members_more fs field others one rest is,
  ap (λ t. t ++ one) whole ∙ append_assoc first others one,
)

-- a member more after those of the fields up to a place
pub told_more : (at : ℕ) (fields : List Field) (other : Field) (a b c : TextWriter) → at < length fields → TellsMembers (take at fields) a b
    → TellsMember (get_or fields at other).0.now (get_or fields at other).1 b c → TellsMembers (take (at + 1) fields) a c
told_more at fields other a b c there (text, members, before) (one, is, added) =
    let field = get_or fields at other in (
      text ++ one,
      subst (λ fs. AreMembers fs (text ++ one)) (sym (take_more fields at other there)) (members_more (take at fields) field text one members is),
      adds_on text one a b c before added,
    )

-- so of all of them
pub told_all : (fields : List Field) (at : ℕ) (a b : TextWriter) → length fields ≤ at → TellsMembers (take at fields) a b → TellsMembers fields a b
told_all fields at a b over told = subst (λ fs. TellsMembers fs a b) (take_all at fields over) told

-- the next of a list
pub adds_next : {A : Type 0} → (text_of : A → List ℕ) (items : List A) (at : ℕ) (other : A) (a b c : TextWriter) → at < length items →
    Adds (flat_map text_of (take at items)) a b → Adds (text_of (get_or items at other)) b c → Adds (flat_map text_of (take (at + 1) items)) a c
adds_next text_of items at other a b c is_there first second =
    subst (λ front. Adds (flat_map text_of front) a c) (sym (take_more items at other is_there)) (adds_more text_of (take at items) (get_or items at other) a b c first second)
