-- Digits alone are read at one go as they are read part by part.
use Rattle.std.proofs.Common.{◌≡◌, ◌==◌, ℕ, ◌^◌, ◌<◌, List, [], ◌∷◌, ◌++◌, length, get_or, drop, cond, false, Some, Ok, Result, refl, sym, ap, subst, ◌∙◌, arith, append-nil, lt-ltb, ne_eqb}
use Rattle.std.specs.Char.{digit_value}
use Rattle.std.specs.Str.Parse.{AllDigits, IsNumeral, ParsesUnsigned, digits_value, without_leading_plus}
use Rattle.fast_float.specs.Text.{Parts, scan, digits_of, IsWellFormed}
use Rattle.fast_float.proofs.Writing.{scan-text_of}
use Rattle.serde_json.specs.Data.{unsigned}
use Rattle.serde_json.specs.Read.{number_of}

abbrev parts : List ℕ → Parts
parts ds = record { whole = ds; point = false; fraction = []; exponent_negative = false; exponent = []; len = length (ds ++ []) }

no_minus : (ds : List ℕ) → AllDigits 10 ds → get_or ds 0 0 ≡ 45 → ⊥
no_minus [] h e = omega (arith, e)
no_minus (d ∷ ds) h e = let digit : digit_value d < 10 = h.0 in let is : d ≡ 45 = e in grind arith

pub number_of-digits : (ds : List ℕ) → 0 < length ds → AllDigits 10 ds → digits_value 10 ds < 2 ^ 64 → number_of ds ≡ Some (unsigned (digits_value 10 ds))
unfolding number_of
number_of-digits ds some all fits =
    let formed : IsWellFormed (parts ds) = record { whole_digits = all; fraction_digits = tt; exponent_digits = tt; no_point = λ _. refl; no_exponent = λ _. refl; len_is = refl } in
    let scanned : scan ds ≡ parts ds = ap scan (sym (append-nil ds)) ∙ scan-text_of (parts ds) formed in
    let value : digits_of (parts ds) ≡ digits_value 10 ds = ap (digits_value 10) (append-nil ds) in
    rw (ne_eqb (get_or ds 0 0) 45 (no_minus ds all)) (rw scanned (rw (lt-ltb _ _ some, value) (rw (lt-ltb _ _ fits))))

pub number_of-parsed : {E : Type 0} (bs : List ℕ) (r : Result ℕ E) (n : ℕ) → (get_or bs 0 0 == 43) ≡ false → ParsesUnsigned 64 10 bs r → r ≡ Ok n → number_of bs ≡ Some (unsigned n)
number_of-parsed {E} bs r n plain parsed is =
    let same : without_leading_plus bs ≡ bs = ap (λ b. drop (cond b 1 0) bs) plain in
    let got : ParsesUnsigned {E = E} 64 10 bs (Ok n) = subst (λ x. ParsesUnsigned 64 10 bs x) is parsed in
    let all : (IsNumeral 10 bs × (digits_value 10 bs < 2 ^ 64)) × (n ≡ digits_value 10 bs) =
    subst (λ ds. (IsNumeral 10 ds × (digits_value 10 ds < 2 ^ 64)) × (n ≡ digits_value 10 ds)) same got in
    number_of-digits bs all.0.0.0 all.0.0.1 all.0.1 ∙ ap (λ m. Some (unsigned m)) (sym all.1)
