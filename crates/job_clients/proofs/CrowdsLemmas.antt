-- A list that is filled with one entry after another, where there is room for all.
use Rattle.std.proofs.Common.{◌≡◌, ◌≤◌, ◌<◌, ◌+◌, ℕ, Bool, true, List, [], ◌∷◌, ◌++◌, length, map, refl, sym, ap, ◌∙◌, arith}
use Rattle.std.specs.Prelude.{if◌then◌else◌}

assoc : {B : Type 0} (front back more : List B) → (front ++ back) ++ more ≡ front ++ (back ++ more)
assoc [] back more = refl
assoc (b ∷ front) back more = ap (λ l. b ∷ l) (assoc front back more)

-- after one more there is room for those that are left, and for `w` others
pub room_left : {A : Type 0} (n n' cap cap' w : ℕ) (left rest : List A) (x : A) → left ≡ x ∷ rest → n' ≤ n + 1 → cap ≤ cap' →
    n + length left + w ≤ cap → n' + length rest + w ≤ cap'
room_left n n' cap cap' w left rest x is one more room =
    let shorter : length left ≡ length (x ∷ rest) = ap length is in
    grind (arith, shorter, one, more, room)

-- there is room for one more
pub has_room : {A : Type 0} (n cap w : ℕ) (left rest : List A) (x : A) → left ≡ x ∷ rest → n + length left + w ≤ cap → n < cap
has_room n cap w left rest x is room =
    let shorter : length left ≡ length (x ∷ rest) = ap length is in
    grind (arith, shorter, room)

-- what is listed and what is left are all, as before
pub one_more : {A B : Type 0} (f : A → B) (done : Bool) (old new all : List B) (left rest : List A) (x : A) → left ≡ x ∷ rest → done ≡ true →
    new ≡ (if done then old ++ (f x ∷ []) else old) → old ++ map f left ≡ all → new ++ map f rest ≡ all
one_more f done old new all left rest x is pushed listed whole =
    let grown : new ≡ old ++ (f x ∷ []) = listed ∙ ap (λ (b : Bool). if b then old ++ (f x ∷ []) else old) pushed in
    ap (λ l. l ++ map f rest) grown ∙ assoc old (f x ∷ []) (map f rest) ∙ ap (λ l. old ++ map f l) (sym is) ∙ whole
