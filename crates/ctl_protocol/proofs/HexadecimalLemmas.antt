-- Bytes that are read two digits at a time.
use Rattle.std.proofs.Common.{◌≡◌, ◌≢◌, ◌<◌, ◌≤◌, ◌-◌, ℕ, List, [], ◌∷◌, ◌++◌, length, take, drop, get_or, Option, Some, None, refl, sym, ap, ◌∙◌, append_assoc, append-nil, arith}
use Rattle.std.proofs.Math.Seq.{take-length}
use Rattle.ctl_protocol.specs.Members.{◌>>=◌}
use Rattle.ctl_protocol.specs.Headers.{with_front, byte_of, bytes_of_hex}

regroup : (front : List ℕ) (x : ℕ) (tail : Option (List ℕ)) → with_front front (tail >>= λ xs. Some (x ∷ xs)) ≡ with_front (front ++ x ∷ []) tail
regroup front x (Some xs) = ap Some (simp append_assoc)
regroup front x None = refl

pub byte_on : (front pushed rest : List ℕ) (byte : ℕ) (total : Option (List ℕ)) → pushed ≡ front ++ byte ∷ [] → 1 < length rest → Some byte ≡ byte_of (get_or rest 0 0) (get_or rest 1 0)
    → with_front front (bytes_of_hex rest) ≡ total → with_front pushed (bytes_of_hex (take (length rest - 2) (drop 2 rest))) ≡ total
unfolding bytes_of_hex
byte_on front pushed [] byte total p l h so_far = absurd (omega arith)
byte_on front pushed (x ∷ []) byte total p l h so_far = absurd (omega arith)
byte_on front pushed (x ∷ y ∷ rest) byte total p l h so_far =
    let two : length (x ∷ y ∷ rest) - 2 ≡ length rest = omega arith in
    let one : with_front front (bytes_of_hex (x ∷ y ∷ rest)) ≡ with_front (front ++ byte ∷ []) (bytes_of_hex rest) = rw (sym h) (regroup front byte (bytes_of_hex rest)) in
    rw (two, take-length rest, p) (sym one ∙ so_far)

pub byte_ends : (front rest : List ℕ) (total : Option (List ℕ)) → 1 < length rest → byte_of (get_or rest 0 0) (get_or rest 1 0) ≡ None
    → with_front front (bytes_of_hex rest) ≡ total → total ≡ None
unfolding bytes_of_hex
byte_ends front [] total l h so_far = absurd (omega arith)
byte_ends front (x ∷ []) total l h so_far = absurd (omega arith)
byte_ends front (x ∷ y ∷ rest) total l h so_far =
    let one : with_front front (bytes_of_hex (x ∷ y ∷ rest)) ≡ None = rw h refl in
    sym so_far ∙ one

pub all_read : (front rest : List ℕ) (total : Option (List ℕ)) → length rest ≡ 0 → with_front front (bytes_of_hex rest) ≡ total → total ≡ Some front
unfolding bytes_of_hex
all_read front [] total l so_far = sym so_far ∙ ap Some (append-nil front)
all_read front (x ∷ rest) total l so_far = absurd (omega arith)

pub one_left : (front rest : List ℕ) (total : Option (List ℕ)) → length rest ≢ 0 → length rest ≤ 1 → with_front front (bytes_of_hex rest) ≡ total → total ≡ None
unfolding bytes_of_hex
one_left front [] total some l so_far = absurd (some refl)
one_left front (x ∷ []) total some l so_far = sym so_far
one_left front (x ∷ y ∷ rest) total some l so_far = absurd (omega arith)
