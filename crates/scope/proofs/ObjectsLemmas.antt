-- An object for each cause, and one more.
use Rattle.std.proofs.Common.{◌≡◌, ℕ, ◌+◌, ◌<◌, ◌≤◌, List, [], ◌∷◌, ◌++◌, length, take, get_or, refl, sym, ap, ◌∙◌, subst, codes, append-nil, append_assoc}
use Rattle.std.proofs.lemmas.List.{take_more, take_all}
use Rattle.json_lines.specs.declared.Field.{Field}
use Rattle.json_lines.specs.Objects.{IsObject, TellsObject}
use Rattle.run_times.specs.declared.writer.TextWriter.{TextWriter}
use Rattle.run_times.specs.Written.{Adds}
use Rattle.run_times.proofs.GrowingLemmas.{adds_on}
use Rattle.scope.specs.declared.journal.telling.JobCause.{JobCause}
use Rattle.scope.specs.CauseObjects.{kind_text, IsCause, AreMore, TellsCause, TellsMore, TellsCauses}

more_more : (causes : List JobCause) (cause : JobCause) (text one : List ℕ) → AreMore causes text → IsCause cause one → AreMore (causes ++ cause ∷ []) (text ++ (codes "," ++ one))
more_more [] cause text one none is =
    (one, [], is, refl, ap (λ t. t ++ (codes "," ++ one)) none ∙ ap (λ t. codes "," ++ t) (sym (append-nil one)))
more_more (c ∷ cs) cause text one (first, others, so, rest, whole) is =
    let object = codes "," ++ one in (
      first,
      others ++ object,
      so,
      more_more cs cause others one rest is,
      ap (λ t. t ++ object) whole ∙ append_assoc (codes ",") (first ++ others) object ∙ ap (λ t. codes "," ++ t) (append_assoc first others object),
    )

-- an object more after those of the causes up to a place
pub told_more : (at : ℕ) (causes : List JobCause) (other : JobCause) (a b c d : TextWriter) → at < length causes → TellsMore (take at causes) a b
    → Adds (codes ",") b c → TellsCause (get_or causes at other) c d → TellsMore (take (at + 1) causes) a d
told_more at causes other a b c d there (text, mores, before) comma (one, is, added) =
    let cause = get_or causes at other in
    let object = codes "," ++ one in (
      text ++ object,
      subst (λ cs. AreMore cs (text ++ object)) (sym (take_more causes at other there)) (more_more (take at causes) cause text one mores is),
      adds_on text object a b d before (adds_on (codes ",") one b c d comma added),
    )

-- so of all of them
pub told_all : (causes : List JobCause) (at : ℕ) (a b : TextWriter) → length causes ≤ at → TellsMore (take at causes) a b → TellsMore causes a b
told_all causes at a b over told = subst (λ cs. TellsMore cs a b) (take_all at causes over) told

-- the first, and the others
pub told_first : (first : JobCause) (more : List JobCause) (a b c : TextWriter) → TellsCause first a b → TellsMore more b c → TellsCauses (first ∷ more) a c
told_first first more a b c (one, is, added) (others, are, on) = (one ++ others, (one, others, is, are, refl), adds_on one others a b c added on)

-- by the name of its kind
pub cause_of : (cause : JobCause) (kind : List ℕ) (fields : List Field) (a b : TextWriter) → kind ≡ kind_text cause → TellsObject (codes "kind") kind fields a b → TellsCause cause a b
cause_of cause kind fields a b same (text, is, added) = (text, (fields, subst (λ k. IsObject (codes "kind") k fields text) same is), added)
