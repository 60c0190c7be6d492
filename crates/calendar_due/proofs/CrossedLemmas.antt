-- The minutes that a step of the clock crosses, counted one more at a time.
use Rattle.std.proofs.Common.{◌≡◌, ℕ, zero, suc, ◌+◌, ◌*◌, List, [], ◌∷◌, ◌++◌, map, sym, ap, ◌∙◌, arith}
use Rattle.std.proofs.lemmas.List.{map-append}
use Rattle.history_model.specs.Calendar.{minutes_above}

minutes_above-suc : (k n j : ℕ) → j ≡ k + n → minutes_above k (suc n) ≡ minutes_above k n ++ (60 * (j + 1)) ∷ []
minutes_above-suc k zero j e = ap (λ x. 60 * (x + 1) ∷ []) (omega (arith, e))
minutes_above-suc k (suc n) j e = ap (λ xs. 60 * (k + 1) ∷ xs) (minutes_above-suc (k + 1) n j (omega (arith, e)))

-- one more minute was read
pub map-minutes_above-suc : {A : Type 0} (f : ℕ → A) (k n m j next : ℕ) (xs : List A) → xs ≡ map f (minutes_above k n) → j ≡ k + n → m ≡ suc n → next ≡ 60 * (j + 1)
    → xs ++ f next ∷ [] ≡ map f (minutes_above k m)
map-minutes_above-suc f k n m j next xs so_far e more is =
    ap (λ y. xs ++ f y ∷ []) is ∙ ap (λ ys. ys ++ f (60 * (j + 1)) ∷ []) so_far ∙ sym (map-append f (minutes_above k n) (60 * (j + 1) ∷ []))
    ∙ ap (map f) (sym (minutes_above-suc k n j e)) ∙ ap (λ x. map f (minutes_above k x)) (sym more)
