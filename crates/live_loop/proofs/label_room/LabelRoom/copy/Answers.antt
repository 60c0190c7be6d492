-- A text that was copied into an empty one.
use Rattle.std.proofs.Common.{◌≡◌, ℕ, List, [], ◌++◌, ap, ◌∙◌, arith}
use Rattle.std.specs.Prelude.{Result, Ok, Err, IsOk, is_ok, if◌then◌else◌}
use Rattle.std.proofs.lemmas.Bool.{false≢true}
use Rattle.live_loop.proofs.label_room.LabelRoom.copy.Goals as goal

is-copied : {U E : Type 0} (r : Result U E) (new old found : List ℕ) → new ≡ (if is_ok r then old ++ found else old) → IsOk r → old ≡ [] → new ≡ found
is-copied (Ok u) new old found bytes ok empty = bytes ∙ ap (λ (x : List ℕ). x ++ found) empty
is-copied (Err e) new old found bytes ok empty = absurd (false≢true ok)

pub returns : goal.returns
returns c = λ short.
    is-copied c.push_str-copied.result _ _ c.args.text.now c.push_str-copied.ensures.bytes
    (c.push_str-copied.ensures.succeeds (omega (arith, short, c.clear.ensures.len, c.clear.ensures.capacity, c.self.invariant))) c.clear.ensures.bytes
