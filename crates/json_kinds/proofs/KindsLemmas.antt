-- Reading the members of an array or an object one after the other, as a loop does.
use Rattle.std.proofs.Common.{◌≡◌, ℕ, List, ◌++◌, Result, Ok, Err, refl, sym, ap, ◌∙◌, append_assoc}
use Rattle.serde_json.specs.Data.{Data, Members, member}
use Rattle.history_model.specs.Machine.{Fault}
use Rattle.json_kinds.specs.DefFaults.{◌>>=◌}
use Rattle.json_kinds.specs.JsonKinds.{each_member}

-- what was read before, and what is still read
abbrev pub with_front : {A : Type 0} → List A → Result (List A) Fault → Result (List A) Fault
with_front front wanted = wanted >>= λ xs. Ok (front ++ xs)

rejoin : {A : Type 0} (front xs : List A) (wanted : Result (List A) Fault) → with_front front (wanted >>= λ ys. Ok (xs ++ ys)) ≡ with_front (front ++ xs) wanted
rejoin front xs (Ok ys) = ap Ok (sym (append_assoc front xs ys))
rejoin front xs (Err e) = refl

-- one member more is read
pub member_on : {A : Type 0} (f : List ℕ → Data → Result (List A) Fault) (front : List A) (k : List ℕ) (d : Data) (ms : Members) (xs : List A) (total : Result (List A) Fault) → f k d ≡ Ok xs
    → with_front front (each_member f (member k d ms)) ≡ total → with_front (front ++ xs) (each_member f ms) ≡ total
member_on f front k d ms xs total h so_far =
    let one : with_front front (each_member f (member k d ms)) ≡ with_front (front ++ xs) (each_member f ms) = rw h (rejoin front xs (each_member f ms)) in
    sym one ∙ so_far
