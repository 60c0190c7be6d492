-- A loop that writes each element of a list writes what a map gives, also if it sees a path.
use Rattle.std.proofs.Common.{◌≡◌, ℕ, ◌+◌, ◌<◌, Bool, true, false, cond, Option, Some, None, List, [], ◌∷◌, ◌++◌, map, length, take, drop, get_or, set, refl, sym, ap, ◌∙◌, arith, append_assoc}
use Rattle.std.proofs.lemmas.List.{drop_more, map_more, set_at, length-map, length-take-le, get_or_at}
use Rattle.history_model.specs.declared.Obs.{Obs}
use Rattle.history_model.specs.Search.{or_else}

-- the first ones are written
abbrev pub written : {X : Type 0} → (X → X) → ℕ → List X → List X
written f i xs = map f (take i xs) ++ drop i xs

-- the element at the index is not yet written
pub at_written : {X : Type 0} (f : X → X) (xs : List X) (i : ℕ) (d : X) → i < length xs → get_or (written f i xs) i d ≡ get_or xs i d
at_written f xs i d lt =
    let len : length (map f (take i xs)) ≡ i = length-map (take i xs) f ∙ length-take-le i xs (omega (arith, lt)) in
    ap (λ l. get_or (map f (take i xs) ++ l) i d) (drop_more xs i d lt) ∙ get_or_at (map f (take i xs)) (get_or xs i d) (drop (i + 1) xs) d i len

-- one more is written
pub write_more : {X : Type 0} (f : X → X) (xs : List X) (i : ℕ) (d : X) → i < length xs →
    set (written f i xs) i (f (get_or xs i d)) ≡ written f (i + 1) xs
write_more f xs i d lt =
    let x = get_or xs i d in
    let len : length (map f (take i xs)) ≡ i = length-map (take i xs) f ∙ length-take-le i xs (omega (arith, lt)) in
    ap (λ l. set (map f (take i xs) ++ l) i (f (get_or xs i d))) (drop_more xs i d lt)
    ∙ set_at (map f (take i xs)) (get_or xs i d) (drop (i + 1) xs) (f (get_or xs i d)) i len
    ∙ sym (append_assoc (map f (take i xs)) (f (get_or xs i d) ∷ []) (drop (i + 1) xs))
    ∙ ap (λ l. l ++ drop (i + 1) xs) (sym (map_more f xs i d lt))

-- one more is written,
pub write_step : {X : Type 0} (f : X → X) (xs s : List X) (i : ℕ) (x y : X) → i < length xs → s ≡ written f i xs → x ≡ get_or s i x → y ≡ f x → set s i y ≡ written f (i + 1) xs
write_step f xs s i x y lt same is made =
    let old : x ≡ get_or xs i x = is ∙ ap (λ l. get_or l i x) same ∙ at_written f xs i x lt in
    (λ j. set (same j) i ((made ∙ ap f old) j)) ∙ write_more f xs i x lt

-- the newer observation if there is one
pub newer : (b : Bool) (obs : Obs) (before : Option Obs) → cond b (Some obs) before ≡ or_else (cond b (Some obs) None) before
newer true obs before = refl
newer false obs before = refl
