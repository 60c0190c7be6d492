-- One bit of one number is set.
use Rattle.std.proofs.Common.{◌≡◌, ◌<◌, ◌*◌, ◌/◌, ◌%◌, ◌^◌, ℕ, length, slice_index_or, slice_set, sym, ap, subst, ◌∙◌, refl, w64, arith}
use Rattle.std.specs.Int.{bit_at}
use Rattle.std.specs.Prelude.{bit_or}
use Rattle.std.proofs.lemmas.List.{length-set}
use Rattle.std.proofs.lemmas.Nat.Bits.{bit_at_set_same, bit_at_set_other}
use Rattle.place_set.specs.Places.{Places, Inserts, place_room}
use Rattle.place_set.proofs.WordsLemmas.{word-is, others-stay, own-bit}
use Rattle.place_set.proofs.PlaceSet.insert.Goals as goal

pub returns : goal.returns
returns c =
    let words = c.self.inside.words.items in
    let place = c.args.place in
    let at : ℕ = place / 64 in
    let bit : ℕ = place % 64 in
    let old : ℕ = c.index_mut.result.now in
    let new : ℕ = bit_or old (1 * 2 ^ bit % 2 ^ 64) in
    let low : place < 64 * length words = subst (λ p. place < place_room p) (sym c.self.view_is) c.requires in
    let within : at < length words = omega (arith, low) in
    let small : bit < 64 = omega arith in
    let is : old ≡ slice_index_or words at 0 = c.index_mut.ensures.value ∙ word-is words at old within in
    let later : Places = record { words = slice_set words at new } in
    subst (λ p. Inserts p later place) c.self.view_is (record {
      own = own-bit words at new within place refl 1 (bit_at_set_same w64 old bit small);
      others = others-stay words at new within place refl (λ b low differ. bit_at_set_other w64 old bit small b differ ∙ ap (λ w. bit_at w b) is);
      room = ap (λ n. 64 * n) (length-set words at new);
    })
