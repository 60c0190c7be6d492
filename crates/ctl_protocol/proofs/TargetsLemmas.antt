-- The first slash of a text.
use Rattle.std.proofs.Common.{◌≡◌, suc, ◌<◌, ◌+◌, ℕ, List, [], ◌∷◌, length, Bool, true, false, not, ◌||◌, nat_lt, cond, refl, sym, ◌∙◌, arith}
use Rattle.std.specs.List.{list_any, position_or_len}
use Rattle.ctl_protocol.specs.Targets.{is_slash}
use Rattle.std.proofs.lemmas.Bool.{lt-ltb}

nowhere : (n m : ℕ) → n ≡ m → nat_lt n m ≡ false
nowhere n m e = grind arith

less_more : (n m : ℕ) → nat_lt (1 + n) (suc m) ≡ nat_lt n m
less_more n m = grind arith

any_at : (t : Bool) (n m : ℕ) (rest : Bool) → nat_lt n m ≡ rest → nat_lt (cond (not t) (1 + n) 0) (suc m) ≡ (t || rest)
any_at true n m rest e = lt-ltb 0 (suc m) (omega arith)
any_at false n m rest e = less_more n m ∙ e

pub any_place : (xs : List ℕ) → nat_lt (position_or_len is_slash xs) (length xs) ≡ list_any is_slash xs
any_place [] = refl
any_place (x ∷ xs) = any_at (is_slash x) (position_or_len is_slash xs) (length xs) (list_any is_slash xs) (any_place xs)

pub none_there : (text : List ℕ) → position_or_len is_slash text ≡ length text → list_any is_slash text ≡ false
none_there text e = sym (any_place text) ∙ nowhere _ _ e

pub one_there : (text : List ℕ) → position_or_len is_slash text < length text → list_any is_slash text ≡ true
one_there text l = sym (any_place text) ∙ lt-ltb _ _ l
