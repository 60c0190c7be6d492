-- Names that are gathered in byte order.
use Rattle.std.proofs.Common.{◌≡◌, List, [], ◌∷◌, ◌++◌, map, String, string_bytes, refl, ap}
use Rattle.std.specs.Ordering.{nat_cmp, match_ordering}
use Rattle.std.specs.Cmp.Lexicographic.{slice_cmp}
use Rattle.std.specs.BTreeSet.{insert_key}
use Rattle.std.specs.String.{string_cmp}
use Rattle.std.specs.declared.alloc.Global.{Global}
use Rattle.std.specs.declared.cmp.Ordering.{Ordering}
use Rattle.std.specs.declared.cmp.Ordering.TheVariants.{Less, Equal, Greater}
use Rattle.json_kinds.specs.Names.{Key}
use Rattle.job_defs.specs.Ignored.{with_names}

-- some names, and then others
pub with_both : (names xs ys : List Key) → with_names names (xs ++ ys) ≡ with_names (with_names names xs) ys
with_both names [] ys = refl
with_both names (x ∷ xs) ys = with_both (with_names names (x ∷ [])) xs ys

insert_at : (o : Ordering) (k x : String Global) (xs : List (String Global)) (rest : map string_bytes (insert_key string_cmp xs k) ≡ insert_key (slice_cmp nat_cmp) (map string_bytes xs) (string_bytes k))
    → map string_bytes (match_ordering o (k ∷ x ∷ xs) (x ∷ xs) (x ∷ insert_key string_cmp xs k))
    ≡ match_ordering o (string_bytes k ∷ string_bytes x ∷ map string_bytes xs) (string_bytes x ∷ map string_bytes xs) (string_bytes x ∷ insert_key (slice_cmp nat_cmp) (map string_bytes xs) (string_bytes k))
insert_at Less k x xs rest = refl
insert_at Equal k x xs rest = refl
insert_at Greater k x xs rest = ap (λ ts. string_bytes x ∷ ts) rest

-- a string has its place by its bytes
pub inserted : (k : String Global) (ks : List (String Global)) → map string_bytes (insert_key string_cmp ks k) ≡ insert_key (slice_cmp nat_cmp) (map string_bytes ks) (string_bytes k)
inserted k [] = refl
inserted k (x ∷ xs) = insert_at (string_cmp k x) k x xs (inserted k xs)
