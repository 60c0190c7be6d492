-- What a permutation has.
use Rattle.std.proofs.Common.{inl, inr, ℕ, ◌<◌, zero, suc, List, [], ◌∷◌, length, get_or, All, refl, sym, subst, arith}
use Rattle.std.specs.List.Sorted.{IsPermutation}
use Rattle.std.proofs.lemmas.List.Sorted.{All-permutation}
use Rattle.sqlite_rules.specs.Lists.{Has}

has_at : {X : Type 0} (xs : List X) (i : ℕ) (d : X) → i < length xs → Has xs (get_or xs i d)
has_at [] i d low = absurd (omega (arith, low))
has_at (x ∷ xs) zero d low = inl refl
has_at (x ∷ xs) (suc i) d low = inr (has_at xs i d (omega (arith, low)))

from_all : {X : Type 0} (P : X → Type 0) (xs : List X) (x : X) → All P xs → Has xs x → P x
from_all P [] x all h = absurd h
from_all P (y ∷ xs) x all (inl same) = subst P (sym same) (all 0 x (omega arith))
from_all P (y ∷ xs) x all (inr later) = from_all P xs x (λ i d low. all (suc i) d (omega (arith, low))) later

-- what is in a permutation was in the list
pub has_permuted : {X : Type 0} (xs ys : List X) (x : X) → IsPermutation xs ys → Has ys x → Has xs x
has_permuted xs ys x same h = from_all (Has xs) ys x (All-permutation (Has xs) xs ys same (λ i d low. has_at xs i d low)) h
