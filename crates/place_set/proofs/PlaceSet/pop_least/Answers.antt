-- The lowest bit of the first number that has one is cleared.
use Rattle.std.proofs.Common.{◌≡◌, ◌<◌, ◌+◌, ◌*◌, ◌/◌, ◌%◌, ◌^◌, ◌==◌, ℕ, length, slice_index_or, slice_set, Some, sym, ap, subst, ◌∙◌, w64, rules, arith}
use Rattle.std.specs.Int.{bit_at, bit_not, trailing_zeros}
use Rattle.std.specs.Prelude.{bit_and}
use Rattle.std.proofs.lemmas.List.{length-set}
use Rattle.std.proofs.lemmas.Nat.Bits.{bit_at-trailing_zeros, bit_at_clear_same, bit_at_clear_other}
use Rattle.place_set.specs.Places.{Places, Pops, IsFirstWord}
use Rattle.place_set.proofs.WordsLemmas.{word-is, others-stay, own-bit, none-before}
use Rattle.place_set.proofs.PlaceSet.pop_least.Goals as goal

pub returns : goal.returns
returns c =
    let words = c.self.inside.words.items in
    let at : ℕ = c.in-Some.at in
    let word : ℕ = c.index-word.result.now in
    let first : IsFirstWord words (Some at) = subst (λ ws. IsFirstWord ws (Some at)) c.deref.ensures.value c.in-Some.ensures in
    let within : at < length words = first.0 in
    let is : word ≡ slice_index_or words at 0 = c.index-word.ensures ∙ word-is words at word within in
    let some : 0 < word = subst (λ w. 0 < w) (sym is) first.1 in
    let lowest = bit_at-trailing_zeros w64 word some (search rules) in
    let bit : ℕ = trailing_zeros w64 word in
    let small : bit < 64 = lowest.0 in
    let place : ℕ = at * 64 + bit in
    let here : place / 64 ≡ at = omega (arith, small) in
    let own : place % 64 ≡ bit = omega (arith, small) in
    let new : ℕ = bit_and word (bit_not w64 (1 * 2 ^ bit % 2 ^ 64)) in
    let later : Places = record { words = slice_set words at new } in
    subst (λ p. Pops p later place) c.self.view_is (record {
      there = (λ i. bit_at (slice_index_or words (here i) 0) (own i) == 1) ∙ ap (λ w. bit_at w bit == 1) (sym is) ∙ ap (λ n. n == 1) lowest.1;
      least = none-before words at bit first.2 (λ i low. ap (λ w. bit_at w i) (sym is) ∙ lowest.2 i low) small;
      own = own-bit words at new within place here 0 (ap (λ b. bit_at new b) own ∙ bit_at_clear_same w64 word bit small);
      others = others-stay words at new within place here (λ b low differ. bit_at_clear_other w64 word bit small b low (λ same. differ (same ∙ sym own)) ∙ ap (λ w. bit_at w b) is);
      room = ap (λ n. 64 * n) (length-set words at new);
    })
