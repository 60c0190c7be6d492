-- Tokens that are put on a line one after the other.
use Rattle.std.proofs.Common.{◌≡◌, ◌++◌, ◌∷◌, [], ◌∙◌, ◌+◌, ◌<◌, ap, refl, sym, subst, ℕ, List, map, take, length, get_or, append-nil, false}
use Rattle.std.proofs.lemmas.List.{take_more, append_assoc, map-append}
use Rattle.std.proofs.lemmas.Grind.{flat_map-append}
use Rattle.std.specs.List.{flat_map}
use Rattle.json.specs.Print.{print}
use Rattle.json.specs.Token.{Token}
use Rattle.status_file.specs.declared.line.LineWriter.{LineWriter}
use Rattle.status_file.specs.declared.line.Piece.{Piece}
use Rattle.status_file.specs.declared.line.StatusText.{StatusText}
use Rattle.status_file.specs.Tokens.{token_in, tokens_in}
use Rattle.status_file.specs.Lines.{Adds, Puts, line_of}

pub nothing : (line : LineWriter) → Puts [] line line
nothing line = record { kept = λ well. well; before = refl; added = λ well. sym (append-nil line.writer.tokens) }

-- the same from its clauses
pub puts : (ts : List Token) (x y : LineWriter) → (y.is_refused ≡ false → x.is_refused ≡ false) → y.writer.before ≡ x.writer.before →
    (y.is_refused ≡ false → y.writer.tokens ≡ x.writer.tokens ++ ts) → Puts ts x y
puts ts x y kept before added = record { kept = kept; before = before; added = added }

pub followed : (a b : List Token) (x y z : LineWriter) → Puts a x y → Puts b y z → Puts (a ++ b) x z
followed a b x y z first second = record {
  kept = λ well. first.kept (second.kept well);
  before = second.before ∙ first.before;
  added = λ well.
      second.added well ∙ ap (λ ts. ts ++ b) (first.added (second.kept well))
      ∙ append_assoc x.writer.tokens a b;
}

-- the pieces before this one, and this one
pub one_more : (ps : List Piece) (at : ℕ) (other : Piece) (x y z : LineWriter) → at < length ps →
    Puts (tokens_in (take at ps)) x y → Puts (token_in (get_or ps at other) ∷ []) y z →
    Puts (tokens_in (take (at + 1) ps)) x z
one_more ps at other x y z is_there first second =
    let more : tokens_in (take (at + 1) ps) ≡ tokens_in (take at ps) ++ (token_in (get_or ps at other) ∷ []) =
    ap tokens_in (take_more ps at other is_there) ∙ map-append token_in (take at ps) (get_or ps at other ∷ []) in
    subst (λ ts. Puts ts x z) (sym more) (followed (tokens_in (take at ps)) (token_in (get_or ps at other) ∷ []) x y z first second)

-- so of the items of a list, each of which has these tokens
pub one_item_more : {A : Type 0} (f : A → List Token) (es : List A) (at : ℕ) (other : A) (x y z : LineWriter) → at < length es →
    Puts (flat_map f (take at es)) x y → Puts (f (get_or es at other)) y z → Puts (flat_map f (take (at + 1) es)) x z
one_item_more f es at other x y z is_there first second =
    let entry = get_or es at other in
    let front = flat_map f (take at es) in
    let more : flat_map f (take (at + 1) es) ≡ front ++ f entry =
    ap (flat_map f) (take_more es at other is_there) ∙ flat_map-append f (take at es) (entry ∷ [])
    ∙ ap (λ last. front ++ last) (append-nil (f entry)) in
    subst (λ ts. Puts ts x z) (sym more) (followed front (f entry) x y z first second)

-- a line that was begun after a text, and ended with these tokens
pub ended : (ts : List Token) (old new : StatusText) (x y : LineWriter) →
    x.is_refused ≡ old.is_refused → x.writer.before ≡ old.bytes.items → x.writer.tokens ≡ [] → Puts ts x y →
    (new.is_refused ≡ false → new.bytes.items ≡ y.writer.before ++ line_of y.writer.tokens) →
    (new.is_refused ≡ false → y.is_refused ≡ false) → Adds ts old new
ended ts old new x y refused before empty puts taken kept = record {
  kept = λ well. sym refused ∙ puts.kept (kept well);
  added = λ well.
      taken well ∙ ap (λ b. b ++ line_of y.writer.tokens) (puts.before ∙ before)
      ∙ ap (λ all. old.bytes.items ++ line_of all) (puts.added (kept well) ∙ ap (λ none. none ++ ts) empty);
}
