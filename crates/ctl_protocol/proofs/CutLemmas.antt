-- Lines of a stream that comes in pieces: what is joined has the lines of its parts.
use Rattle.std.proofs.Common.{◌≡◌, ℕ, zero, ◌+◌, ◌-◌, ◌<◌, ◌≤◌, List, [], ◌∷◌, ◌++◌, length, take, drop, get_or, Bool, true, false, ◌&&◌, nat_eq, nat_lt, cond, IfSome, refl, sym, ap, ◌∙◌, subst, append_assoc, append-nil, arith, length-append, Option, Some, None, suc}
use Rattle.std.proofs.Math.Seq.{take-append_seam, take-length, drop-append_seam, take-append-add}
use Rattle.std.proofs.lemmas.Bool.{lt-leb, le-leb, ltb-true, ltb-false, eqb-true, false_from_ne_true}
use Rattle.std.specs.List.{flat_map, list_all, take_while}
use Rattle.std.proofs.lemmas.List.{take_more, drop_more, take_all, drop-drop, get_or-drop, length-drop, take-append-drop, take-append-le, take-take, length-take-le, nil_from_length}
use Rattle.std.proofs.lemmas.List.Folds.{list_all-append}
use Rattle.std.proofs.lemmas.List.Sums.{take_while-cons}
use Rattle.memchr.specs.Find.{IsFirstByte, Nowhere, Passes, is_byte}
use Rattle.ctl_protocol.specs.Lines.{lines_after, rest_after, lines_of, rest_of, is_short, fits, stream_of}
use Rattle.ctl_protocol.specs.Scan.{IsScan, last_scan}
use Rattle.ctl_protocol.specs.declared.cut.Scan.TheVariants.{Fits, Long}

lines_step : (line : List ℕ) (b : ℕ) (bs : List ℕ) → lines_after line (b ∷ bs) ≡ cond (nat_eq b 10) (line ∷ lines_after [] bs) (lines_after (line ++ b ∷ []) bs)
unfolding lines_after
lines_step line b bs = refl

rest_step : (line : List ℕ) (b : ℕ) (bs : List ℕ) → rest_after line (b ∷ bs) ≡ cond (nat_eq b 10) (rest_after [] bs) (rest_after (line ++ b ∷ []) bs)
unfolding rest_after
rest_step line b bs = refl

pub lines_none : (line : List ℕ) → lines_after line [] ≡ []
unfolding lines_after
lines_none line = refl

pub rest_none : (line : List ℕ) → rest_after line [] ≡ line
unfolding rest_after
rest_none line = refl

lines_append_at : (t : Bool) (line : List ℕ) (b : ℕ) (x y : List ℕ)
    → lines_after [] (x ++ y) ≡ lines_after [] x ++ lines_after (rest_after [] x) y
    → lines_after (line ++ b ∷ []) (x ++ y) ≡ lines_after (line ++ b ∷ []) x ++ lines_after (rest_after (line ++ b ∷ []) x) y
    → cond t (line ∷ lines_after [] (x ++ y)) (lines_after (line ++ b ∷ []) (x ++ y)) ≡ cond t (line ∷ lines_after [] x) (lines_after (line ++ b ∷ []) x) ++ lines_after (cond t (rest_after [] x) (rest_after (line ++ b ∷ []) x)) y
lines_append_at true line b x y here there = ap (λ ls. line ∷ ls) here
lines_append_at false line b x y here there = there

pub lines_append : (line x y : List ℕ) → lines_after line (x ++ y) ≡ lines_after line x ++ lines_after (rest_after line x) y
unfolding lines_after rest_after
lines_append line [] y = refl
lines_append line (b ∷ x) y = lines_append_at (nat_eq b 10) line b x y (lines_append [] x y) (lines_append (line ++ b ∷ []) x y)

rest_append_at : (t : Bool) (line : List ℕ) (b : ℕ) (x y : List ℕ)
    → rest_after [] (x ++ y) ≡ rest_after (rest_after [] x) y
    → rest_after (line ++ b ∷ []) (x ++ y) ≡ rest_after (rest_after (line ++ b ∷ []) x) y
    → cond t (rest_after [] (x ++ y)) (rest_after (line ++ b ∷ []) (x ++ y)) ≡ rest_after (cond t (rest_after [] x) (rest_after (line ++ b ∷ []) x)) y
rest_append_at true line b x y here there = here
rest_append_at false line b x y here there = there

pub rest_append : (line x y : List ℕ) → rest_after line (x ++ y) ≡ rest_after (rest_after line x) y
unfolding rest_after
rest_append line [] y = refl
rest_append line (b ∷ x) y = rest_append_at (nat_eq b 10) line b x y (rest_append [] x y) (rest_append (line ++ b ∷ []) x y)

-- a text with no newline
abbrev pub IsUnended : List ℕ → Type 0
IsUnended line = (lines_of line ≡ []) × (rest_of line ≡ line)

-- a byte that is not a newline goes at the end of the line
longer : (line : List ℕ) (b : ℕ) → nat_eq b 10 ≡ false → IsUnended line → IsUnended (line ++ b ∷ [])
longer line b e h = (
  lines_append [] line (b ∷ []) ∙ rw (h.0, h.1, lines_step line b [], e) (lines_none _),
  rest_append [] line (b ∷ []) ∙ rw (h.1, rest_step line b [], e) (rest_none _),
)

empty : IsUnended []
empty = (lines_none [], rest_none [])

rest_unended_at : (t : Bool) (line : List ℕ) (b : ℕ) (bs : List ℕ) → nat_eq b 10 ≡ t → IsUnended (rest_after [] bs) → (nat_eq b 10 ≡ false → IsUnended (rest_after (line ++ b ∷ []) bs))
    → IsUnended (rest_after line (b ∷ bs))
rest_unended_at true line b bs e here there = rw (rest_step line b bs, e) here
rest_unended_at false line b bs e here there = rw (rest_step line b bs, e) (there e)

rest_unended : (line bs : List ℕ) → IsUnended line → IsUnended (rest_after line bs)
rest_unended line [] h = rw (rest_none line) h
rest_unended line (b ∷ bs) h = rest_unended_at (nat_eq b 10) line b bs refl (rest_unended [] bs empty) (λ e. rest_unended (line ++ b ∷ []) bs (longer line b e h))

-- what a rest goes on with, as a text of its own
pub lines_on : (x y : List ℕ) → lines_of (rest_of x ++ y) ≡ lines_after (rest_of x) y
lines_on x y = let h = rest_unended [] x empty in lines_append [] (rest_of x) y ∙ rw (h.0, h.1) refl

pub rest_on : (x y : List ℕ) → rest_of (rest_of x ++ y) ≡ rest_after (rest_of x) y
rest_on x y = let h = rest_unended [] x empty in rest_append [] (rest_of x) y ∙ rw h.1 refl

pub lines_joined : (x y : List ℕ) → lines_of (x ++ y) ≡ lines_of x ++ lines_of (rest_of x ++ y)
lines_joined x y = lines_append [] x y ∙ ap (λ ls. lines_of x ++ ls) (sym (lines_on x y))

pub rest_joined : (x y : List ℕ) → rest_of (x ++ y) ≡ rest_of (rest_of x ++ y)
rest_joined x y = rest_append [] x y ∙ sym (rest_on x y)

-- a text as its whole lines, and the rest
pub record Parts (bytes : List ℕ) (lines : List (List ℕ)) (rest : List ℕ) : Type 0 where
  pub front : List ℕ
  pub whole : bytes ≡ front ++ rest
  pub lines_is : lines_of front ≡ lines
  pub rest_is : rest_of front ≡ []

parts_at : (t : Bool) (line : List ℕ) (b : ℕ) (bs : List ℕ) → nat_eq b 10 ≡ t → IsUnended line → Parts bs (lines_after [] bs) (rest_after [] bs)
    → (nat_eq b 10 ≡ false → Parts ((line ++ b ∷ []) ++ bs) (lines_after (line ++ b ∷ []) bs) (rest_after (line ++ b ∷ []) bs))
    → Parts (line ++ b ∷ bs) (lines_after line (b ∷ bs)) (rest_after line (b ∷ bs))
parts_at true line b bs e h here there = rw (lines_step line b bs, rest_step line b bs, e) (record {
  front = line ++ b ∷ here.front;
  whole = ap (λ x. line ++ b ∷ x) here.whole ∙ sym (append_assoc line (b ∷ here.front) (rest_after [] bs));
  lines_is = lines_append [] line (b ∷ here.front) ∙ rw (h.0, h.1, lines_step line b here.front, e) (ap (λ ls. line ∷ ls) here.lines_is);
  rest_is = rest_append [] line (b ∷ here.front) ∙ rw (h.1, rest_step line b here.front, e) here.rest_is;
})
parts_at false line b bs e h here there = rw (lines_step line b bs, rest_step line b bs, e) (subst (λ x. Parts x (lines_after (line ++ b ∷ []) bs) (rest_after (line ++ b ∷ []) bs)) (append_assoc line (b ∷ []) bs) (there e))

parts_after : (line bs : List ℕ) → IsUnended line → Parts (line ++ bs) (lines_after line bs) (rest_after line bs)
parts_after line [] h = rw (lines_none line, rest_none line) (record { front = []; whole = append-nil line; lines_is = lines_none []; rest_is = rest_none [] })
parts_after line (b ∷ bs) h = parts_at (nat_eq b 10) line b bs refl h (parts_after [] bs empty) (λ e. parts_after (line ++ b ∷ []) bs (longer line b e h))

pub parts : (bytes : List ℕ) → Parts bytes (lines_of bytes) (rest_of bytes)
parts bytes = parts_after [] bytes empty

pub rest_within : (bytes : List ℕ) → length (rest_of bytes) ≤ length bytes
rest_within bytes = let p = parts bytes in omega (arith, ap length p.whole ∙ length-append p.front (rest_of bytes))

pub rest_stands : (bytes : List ℕ) → drop (length bytes - length (rest_of bytes)) bytes ≡ rest_of bytes
rest_stands bytes =
    let p = parts bytes in
    let k : length bytes - length (rest_of bytes) ≡ length p.front = omega (arith, ap length p.whole ∙ length-append p.front (rest_of bytes)) in
    ap (λ n. drop n bytes) k ∙ ap (drop (length p.front)) p.whole ∙ drop-append_seam p.front (rest_of bytes)

pub rest_is : (bytes : List ℕ) (n : ℕ) → n ≡ length (rest_of bytes) → take (length bytes - (length bytes - n)) (drop (length bytes - n) bytes) ≡ rest_of bytes
rest_is bytes n e =
    let stands : drop (length bytes - n) bytes ≡ rest_of bytes = ap (λ k. drop (length bytes - k) bytes) e ∙ rest_stands bytes in
    let k : length bytes - (length bytes - n) ≡ length (rest_of bytes) = omega (arith, e, rest_within bytes) in
    ap (λ m. take m (drop (length bytes - n) bytes)) k ∙ ap (take (length (rest_of bytes))) stands ∙ take-length (rest_of bytes)

pub front_stands : (bytes : List ℕ) → Parts bytes (lines_of bytes) (rest_of bytes) × (lines_of (take (length bytes - length (rest_of bytes)) bytes) ≡ lines_of bytes) × (rest_of (take (length bytes - length (rest_of bytes)) bytes) ≡ [])
front_stands bytes =
    let p = parts bytes in
    let k : length bytes - length (rest_of bytes) ≡ length p.front = omega (arith, ap length p.whole ∙ length-append p.front (rest_of bytes)) in
    let e : take (length bytes - length (rest_of bytes)) bytes ≡ p.front = ap (λ n. take n bytes) k ∙ ap (take (length p.front)) p.whole ∙ take-append_seam p.front (rest_of bytes) in
    (p, ap lines_of e ∙ p.lines_is, ap rest_of e ∙ p.rest_is)

-- where the rest is all, there is no line
pub rest_alone : (bytes : List ℕ) → length (rest_of bytes) ≡ length bytes → lines_of bytes ≡ []
rest_alone bytes all =
    let p = parts bytes in
    let none : length p.front ≡ 0 = omega (arith, all, ap length p.whole ∙ length-append p.front (rest_of bytes)) in
    sym p.lines_is ∙ ap lines_of (nil_from_length p.front none) ∙ lines_none []

-- ---- going over a piece

pub newline_next : (line piece : List ℕ) (i : ℕ) → i < length piece → nat_eq (get_or piece i 0) 10 ≡ true
    → (lines_after line (take (i + 1) piece) ≡ lines_after line (take i piece) ++ rest_after line (take i piece) ∷ []) × (rest_after line (take (i + 1) piece) ≡ [])
newline_next line piece i h e =
    let b = get_or piece i 0 in
    let more = take_more piece i 0 h in (
      ap (lines_after line) more ∙ lines_append line (take i piece) (b ∷ []) ∙ rw (lines_step (rest_after line (take i piece)) b [], e, lines_none []) refl,
      ap (rest_after line) more ∙ rest_append line (take i piece) (b ∷ []) ∙ rw (rest_step (rest_after line (take i piece)) b [], e) (rest_none []),
    )

pub other_next : (line piece : List ℕ) (i : ℕ) → i < length piece → nat_eq (get_or piece i 0) 10 ≡ false
    → (lines_after line (take (i + 1) piece) ≡ lines_after line (take i piece)) × (rest_after line (take (i + 1) piece) ≡ rest_after line (take i piece) ++ get_or piece i 0 ∷ [])
other_next line piece i h e =
    let b = get_or piece i 0 in
    let more = take_more piece i 0 h in
    let r = rest_after line (take i piece) in (
      ap (lines_after line) more ∙ lines_append line (take i piece) (b ∷ []) ∙ rw (lines_step r b [], e, lines_none (r ++ b ∷ [])) (append-nil _),
      ap (rest_after line) more ∙ rest_append line (take i piece) (b ∷ []) ∙ rw (rest_step r b [], e) (rest_none _),
    )

-- a line that is too long never gets shorter
pub long_tail_at : (t : Bool) (limit : ℕ) (line : List ℕ) (b : ℕ) (bs : List ℕ) → nat_eq b 10 ≡ t → limit < length line
    → (take_while (is_short limit) (lines_after (line ++ b ∷ []) bs) ≡ []) × ((list_all (is_short limit) (lines_after (line ++ b ∷ []) bs) && is_short limit (rest_after (line ++ b ∷ []) bs)) ≡ false)
    → (take_while (is_short limit) (lines_after line (b ∷ bs)) ≡ []) × ((list_all (is_short limit) (lines_after line (b ∷ bs)) && is_short limit (rest_after line (b ∷ bs))) ≡ false)
long_tail_at true limit line b bs e h later = let n = lt-leb (length line) limit h in rw (lines_step line b bs, rest_step line b bs, e) (take_while-cons (is_short limit) line (lines_after [] bs) ∙ rw n refl, rw n refl)
long_tail_at false limit line b bs e h later = rw (lines_step line b bs, rest_step line b bs, e) later

pub long_tail : (limit : ℕ) (line bs : List ℕ) → limit < length line
    → (take_while (is_short limit) (lines_after line bs) ≡ []) × ((list_all (is_short limit) (lines_after line bs) && is_short limit (rest_after line bs)) ≡ false)
long_tail limit line [] h = rw (lines_none line, rest_none line) (refl, lt-leb (length line) limit h)
long_tail limit line (b ∷ bs) h = long_tail_at (nat_eq b 10) limit line b bs refl h (long_tail limit (line ++ b ∷ []) bs (omega (arith, length-append line (b ∷ []))))

while_at : (t : Bool) (limit : ℕ) (x : List ℕ) (xs ys : List (List ℕ)) → is_short limit x ≡ t → (t && list_all (is_short limit) xs) ≡ true → (list_all (is_short limit) xs ≡ true → take_while (is_short limit) (xs ++ ys) ≡ xs ++ take_while (is_short limit) ys)
    → take_while (is_short limit) (x ∷ (xs ++ ys)) ≡ x ∷ (xs ++ take_while (is_short limit) ys)
while_at true limit x xs ys e all later = take_while-cons (is_short limit) x (xs ++ ys) ∙ rw e (ap (λ ls. x ∷ ls) (later all))
while_at false limit x xs ys e all later = absurd (cc)

pub while_append : (limit : ℕ) (xs ys : List (List ℕ)) → list_all (is_short limit) xs ≡ true → take_while (is_short limit) (xs ++ ys) ≡ xs ++ take_while (is_short limit) ys
while_append limit [] ys all = refl
while_append limit (x ∷ xs) ys all = while_at (is_short limit x) limit x xs ys refl all (while_append limit xs ys)

-- if a byte passes the limit
pub long_here : (limit : ℕ) (line piece : List ℕ) (i : ℕ) → i < length piece → nat_eq (get_or piece i 0) 10 ≡ false → limit ≤ length (rest_after line (take i piece))
    → list_all (is_short limit) (lines_after line (take i piece)) ≡ true
    → (take_while (is_short limit) (lines_after line piece) ≡ lines_after line (take i piece)) × ((list_all (is_short limit) (lines_after line piece) && is_short limit (rest_after line piece)) ≡ false)
long_here limit line piece i h e long all =
    let b = get_or piece i 0 in
    let r = rest_after line (take i piece) in
    let after = drop (i + 1) piece in
    let split : piece ≡ take i piece ++ b ∷ after = sym (take-append-drop i piece) ∙ ap (λ x. take i piece ++ x) (drop_more piece i 0 h) in
    let ls : lines_after line piece ≡ lines_after line (take i piece) ++ lines_after (r ++ b ∷ []) after = ap (lines_after line) split ∙ lines_append line (take i piece) (b ∷ after) ∙ rw (lines_step r b after, e) refl in
    let rs : rest_after line piece ≡ rest_after (r ++ b ∷ []) after = ap (rest_after line) split ∙ rest_append line (take i piece) (b ∷ after) ∙ rw (rest_step r b after, e) refl in
    let past : limit < length (r ++ b ∷ []) = omega (arith, length-append r (b ∷ [])) in
    let tail = long_tail limit (r ++ b ∷ []) after past in (
      ap (take_while (is_short limit)) ls ∙ while_append limit _ _ all ∙ rw tail.0 (append-nil _),
      rw (ls, rs, list_all-append, all) tail.1,
    )

-- ---- the first newline

-- before place k there is no newline, after what has come
abbrev pub NoNewline : List ℕ → ℕ → Type 0
NoNewline bytes k = Nowhere (Passes (is_byte 10) bytes) 0 k

-- bytes with no newline among them go on with the line
pub plain_more : (line piece : List ℕ) (begun k : ℕ) → begun + k ≤ length piece → NoNewline (drop begun piece) k
    → (lines_after line (take (begun + k) piece) ≡ lines_after line (take begun piece)) × (rest_after line (take (begun + k) piece) ≡ rest_after line (take begun piece) ++ take k (drop begun piece))
plain_more line piece begun zero h none =
    let same : begun + 0 ≡ begun = omega arith in (
      ap (λ n. lines_after line (take n piece)) same,
      ap (λ n. rest_after line (take n piece)) same ∙ sym (append-nil _),
    )
plain_more line piece begun (suc k) h none =
    let before = plain_more line piece begun k (omega (arith, h)) (λ j low high. none j low (omega (arith, high))) in
    let stands : get_or (drop begun piece) k 0 ≡ get_or piece (begun + k) 0 = get_or-drop begun piece k 0 in
    let other : nat_eq (get_or piece (begun + k) 0) 10 ≡ false = ap (λ b. nat_eq b 10) (sym stands) ∙ false_from_ne_true _ (none k (omega arith) (omega arith)) in
    let next = other_next line piece (begun + k) (omega (arith, h)) other in
    let on : begun + suc k ≡ begun + k + 1 = omega arith in
    let one : suc k ≡ k + 1 = omega arith in
    let more : take (suc k) (drop begun piece) ≡ take k (drop begun piece) ++ get_or piece (begun + k) 0 ∷ [] =
    ap (λ n. take n (drop begun piece)) one ∙ take_more (drop begun piece) k 0 (omega (arith, h, length-drop begun piece)) ∙ ap (λ b. take k (drop begun piece) ++ b ∷ []) stands in (
      ap (λ n. lines_after line (take n piece)) on ∙ next.0 ∙ before.0,
      ap (λ n. rest_after line (take n piece)) on ∙ next.1 ∙ ap (λ r. r ++ get_or piece (begun + k) 0 ∷ []) before.1 ∙ append_assoc (rest_after line (take begun piece)) (take k (drop begun piece)) (get_or piece (begun + k) 0 ∷ []) ∙ ap (λ x. rest_after line (take begun piece) ++ x) (sym more),
    )

pub within_piece : (piece : List ℕ) (begun : ℕ) (r : Option ℕ) → IsFirstByte (is_byte 10) (drop begun piece) r → IfSome r (λ count. count < length piece - begun)
within_piece piece begun None first = tt
within_piece piece begun (Some count) first = omega (arith, first.0.high, length-drop begun piece)

-- what is known of a piece before place `begun`, where a line begins or goes on: of it so many bytes have come
abbrev pub Gone : ℕ → List ℕ → List ℕ → ℕ → ℕ → Type 0
Gone limit rest piece begun n =
    (begun ≤ length piece) × (n ≤ limit) × (n ≡ length (rest_after rest (take begun piece)))
    × (list_all (is_short limit) (lines_after rest (take begun piece)) ≡ true)

-- a line that is short enough, and its newline
pub gone_on : (limit : ℕ) (rest piece : List ℕ) (begun n k : ℕ) → Gone limit rest piece begun n → k ≤ limit - n → k < length (drop begun piece) → NoNewline (drop begun piece) k
    → Passes (is_byte 10) (drop begun piece) k → Gone limit rest piece (begun + (k + 1)) 0
gone_on limit rest piece begun n k gone short low none ends =
    let i = begun + k in
    let within : i < length piece = omega (arith, low, length-drop begun piece) in
    let plain = plain_more rest piece begun k (omega (arith, within)) none in
    let newline : nat_eq (get_or piece i 0) 10 ≡ true = ap (λ b. nat_eq b 10) (sym (get_or-drop begun piece k 0)) ∙ ends in
    let next = newline_next rest piece i within newline in
    let at : begun + (k + 1) ≡ i + 1 = omega arith in
    let line = rest_after rest (take i piece) in
    let len : length line ≡ n + k = omega (arith, ap length plain.1, length-append (rest_after rest (take begun piece)) (take k (drop begun piece)), length-take-le k (drop begun piece) (omega (arith, low)), gone.2) in
    let fits : is_short limit line ≡ true = le-leb _ _ (omega (arith, len, short, gone.1)) in (
      omega (arith, within),
      omega arith,
      sym (ap (λ m. length (rest_after rest (take m piece))) at ∙ ap length next.1),
      ap (λ m. list_all (is_short limit) (lines_after rest (take m piece))) at ∙ rw (next.0, list_all-append, plain.0, gone.3, fits) refl,
    )

-- a line that is too long
pub gone_too_far : (limit : ℕ) (rest piece : List ℕ) (begun n k : ℕ) → Gone limit rest piece begun n → limit - n < k → k ≤ length (drop begun piece) → NoNewline (drop begun piece) k
    → IsScan limit rest piece (Long (begun + (limit - n)) limit)
gone_too_far limit rest piece begun n k gone long low none =
    let m = limit - n in
    let at = begun + m in
    let within : at < length piece = omega (arith, low, long, length-drop begun piece, gone.0) in
    let plain = plain_more rest piece begun m (omega (arith, within)) (λ j from below. none j from (omega (arith, below, long))) in
    let other : nat_eq (get_or piece at 0) 10 ≡ false = ap (λ b. nat_eq b 10) (sym (get_or-drop begun piece m 0)) ∙ false_from_ne_true _ (none m (omega arith) long) in
    let len : length (rest_after rest (take at piece)) ≡ limit = omega (arith, ap length plain.1, length-append (rest_after rest (take begun piece)) (take m (drop begun piece)), length-take-le m (drop begun piece) (omega (arith, low, long)), gone.1, gone.2) in
    let all : list_all (is_short limit) (lines_after rest (take at piece)) ≡ true = ap (list_all (is_short limit)) plain.0 ∙ gone.3 in
    let past = long_here limit rest piece at within other (omega (arith, len)) all in
    (within, sym len, past.0, past.1)

-- a piece with no more newline
pub gone_over : (limit : ℕ) (rest piece : List ℕ) (begun n : ℕ) → Gone limit rest piece begun n → NoNewline (drop begun piece) (length piece - begun) → IsScan limit rest piece (last_scan limit piece begun n)
gone_over limit rest piece begun n gone none = at (nat_lt (limit - n) (length piece - begun)) refl
  where
    k : ℕ
    k = length piece - begun

    at : (t : Bool) → nat_lt (limit - n) k ≡ t → IsScan limit rest piece (cond t (Long (begun + (limit - n)) limit) (Fits (n + k)))
    at true e = gone_too_far limit rest piece begun n k gone (ltb-true _ _ e) (omega (arith, length-drop begun piece)) none
    at false e =
        let short : k ≤ limit - n = ltb-false _ _ e in
        let whole : take (begun + k) piece ≡ piece = take_all (begun + k) piece (omega (arith, gone.0)) in
        let plain = plain_more rest piece begun k (omega (arith, gone.0)) none in
        let len : length (rest_after rest (take (begun + k) piece)) ≡ n + k = omega (arith, ap length plain.1, length-append (rest_after rest (take begun piece)) (take k (drop begun piece)), length-take-le k (drop begun piece) (omega (arith, length-drop begun piece)), gone.2) in (
          sym (ap (λ x. length (rest_after rest x)) (sym whole) ∙ len),
          omega (arith, short, gone.1),
          ap (λ x. list_all (is_short limit) (lines_after rest x)) (sym whole) ∙ ap (list_all (is_short limit)) plain.0 ∙ gone.3,
        )

-- a text with no newline has no line
pub first_missing : (bytes : List ℕ) → IsFirstByte (is_byte 10) bytes None → lines_of bytes ≡ []
first_missing bytes none =
    let all = plain_more [] bytes 0 (length bytes) (omega arith) none in
    ap lines_of (sym (take_all (0 + length bytes) bytes (omega arith))) ∙ all.0 ∙ lines_none []

pub first_found : (bytes : List ℕ) (at : ℕ) → IsFirstByte (is_byte 10) bytes (Some at)
    → (at < length bytes) × (lines_of bytes ≡ take at bytes ∷ lines_of (drop 1 (drop at bytes))) × (rest_of bytes ≡ rest_of (drop 1 (drop at bytes)))
first_found bytes at found =
    let b = get_or bytes at 0 in
    let after = drop (at + 1) bytes in
    let front = plain_more [] bytes 0 at (omega (arith, found.0.high)) found.0.before in
    let same : 0 + at ≡ at = omega arith in
    let lines_front : lines_of (take at bytes) ≡ [] = ap (λ n. lines_of (take n bytes)) (sym same) ∙ front.0 ∙ lines_none [] in
    let rest_front : rest_of (take at bytes) ≡ take at bytes = ap (λ n. rest_of (take n bytes)) (sym same) ∙ front.1 ∙ ap (λ r. r ++ take at bytes) (rest_none []) in
    let split : bytes ≡ take at bytes ++ b ∷ after = sym (take-append-drop at bytes) ∙ ap (λ x. take at bytes ++ x) (drop_more bytes at 0 found.0.high) in
    let newline : nat_eq b 10 ≡ true = found.1 in
    let behind : drop 1 (drop at bytes) ≡ after = drop-drop 1 at bytes in (
      found.0.high,
      ap lines_of split ∙ lines_append [] (take at bytes) (b ∷ after) ∙ rw (lines_front, rest_front, lines_step (take at bytes) b after, newline, behind) refl,
      ap rest_of split ∙ rest_append [] (take at bytes) (b ∷ after) ∙ rw (rest_front, rest_step (take at bytes) b after, newline, behind) refl,
    )

-- ---- stopping at a line that is too long

pub record Stops (bytes piece : List ℕ) (at n : ℕ) : Type 0 where
  pub within : n ≤ length bytes + at
  pub lines_is : lines_of (take (length bytes + at - n) (bytes ++ take at piece)) ≡ lines_of bytes ++ lines_after (rest_of bytes) (take at piece)
  pub rest_is : rest_of (take (length bytes + at - n) (bytes ++ take at piece)) ≡ []

pub stops : (bytes piece : List ℕ) (at n : ℕ) → at < length piece → n ≡ length (rest_after (rest_of bytes) (take at piece)) → Stops bytes piece at n
stops bytes piece at n h e =
    let all = bytes ++ take at piece in
    let size : length all ≡ length bytes + at = length-append bytes (take at piece) ∙ ap (λ k. length bytes + k) (length-take-le at piece (omega arith)) in
    let rest : length (rest_of all) ≡ n = ap length (rest_append [] bytes (take at piece)) ∙ sym e in
    let k : length all - length (rest_of all) ≡ length bytes + at - n = omega (arith, size, rest) in
    let f = front_stands all in
    record {
      within = omega (arith, rest_within all, size, rest);
      lines_is = ap (λ m. lines_of (take m all)) (sym k) ∙ f.1 ∙ lines_append [] bytes (take at piece);
      rest_is = ap (λ m. rest_of (take m all)) (sym k) ∙ f.2;
    }

-- what stays, where the line began in the piece, and where it began before
pub kept_longer : (bytes piece : List ℕ) (at n : ℕ) → n ≤ at → at < length piece → take (length bytes + at - n) (bytes ++ take at piece) ≡ bytes ++ take (at - n) piece
kept_longer bytes piece at n le h =
    let k : length bytes + at - n ≡ length bytes + (at - n) = omega arith in
    ap (λ m. take m (bytes ++ take at piece)) k ∙ take-append-add bytes (take at piece) (at - n) ∙ ap (λ x. bytes ++ x) (take-take (at - n) at piece (omega arith))

pub kept_shorter : (bytes piece : List ℕ) (at n : ℕ) → at < n → n ≤ length bytes + at → take (length bytes + at - n) (bytes ++ take at piece) ≡ take (length bytes - (n - at)) bytes
kept_shorter bytes piece at n lt le =
    let k : length bytes + at - n ≡ length bytes - (n - at) = omega arith in
    let short : length bytes - (n - at) ≤ length bytes = omega arith in
    ap (λ m. take m (bytes ++ take at piece)) k ∙ take-append-le (length bytes - (n - at)) bytes (take at piece) short

-- ---- whether a piece is taken

pub taken : (x piece : List ℕ) (limit n : ℕ) → IsScan limit (rest_of x) piece (Fits n) → fits limit (rest_of x ++ piece) ≡ true
taken x piece limit n h = rw (lines_on x piece, rest_on x piece, h.2, ← h.0) (le-leb n limit h.1)

pub refused : (x piece : List ℕ) (limit at n : ℕ) → IsScan limit (rest_of x) piece (Long at n) → fits limit (rest_of x ++ piece) ≡ false
refused x piece limit at n h = rw (lines_on x piece, rest_on x piece) h.3

-- ---- the lines and the rest are the whole stream

whole_at : (t : Bool) (line : List ℕ) (b : ℕ) (bs : List ℕ) → nat_eq b 10 ≡ t → stream_of (lines_after [] bs) (rest_after [] bs) ≡ bs → stream_of (lines_after (line ++ b ∷ []) bs) (rest_after (line ++ b ∷ []) bs) ≡ (line ++ b ∷ []) ++ bs
    → stream_of (lines_after line (b ∷ bs)) (rest_after line (b ∷ bs)) ≡ line ++ b ∷ bs
whole_at true line b bs e here there =
    let ten : b ≡ 10 = eqb-true b 10 e in
    let ended = line ++ 10 ∷ [] in
    rw (lines_step line b bs, rest_step line b bs, e) (append_assoc ended (flat_map (λ l. l ++ 10 ∷ []) (lines_after [] bs)) (rest_after [] bs) ∙ ap (λ x. ended ++ x) here ∙ append_assoc line (10 ∷ []) bs ∙ ap (λ n. line ++ n ∷ bs) (sym ten))
whole_at false line b bs e here there = rw (lines_step line b bs, rest_step line b bs, e) (there ∙ append_assoc line (b ∷ []) bs)

whole_after : (line bs : List ℕ) → stream_of (lines_after line bs) (rest_after line bs) ≡ line ++ bs
whole_after line [] = rw (lines_none line, rest_none line) (sym (append-nil line))
whole_after line (b ∷ bs) = whole_at (nat_eq b 10) line b bs refl (whole_after [] bs) (whole_after (line ++ b ∷ []) bs)

pub whole : (bytes : List ℕ) → stream_of (lines_of bytes) (rest_of bytes) ≡ bytes
whole bytes = whole_after [] bytes
