-- What is said of the front of a line holds besides what is known of the line.
use Rattle.std.proofs.Common.{◌≡◌, ℕ, List, Option, Some, None, IfSome, subst, sym}
use Rattle.json.specs.Token.{Token}
use Rattle.status_file.specs.Fronts.{BeginsWithLabel, HasProcess}
use Rattle.status_file.specs.declared.front.LineFront.{LineFront}

both : (is_json : Type 0) (ts : List Token) (found : Option LineFront) → is_json → IfSome found (λ front. BeginsWithLabel ts front.label.now) →
    IfSome found (λ front. is_json × BeginsWithLabel ts front.label.now)
both is_json ts None holds named = tt
both is_json ts (Some front) holds named = (holds, named)

both_process : (is_json : Type 0) (ts : List Token) (label : List ℕ) (pid : Option ℕ) → is_json → IfSome pid (λ it. HasProcess ts label it) →
    IfSome pid (λ it. is_json × HasProcess ts label it)
both_process is_json ts label None holds process = tt
both_process is_json ts label (Some pid) holds process = (holds, process)

each_process : (is_json : Type 0) (ts : List Token) (found : Option LineFront) → is_json →
    IfSome found (λ front. IfSome front.pid (λ pid. HasProcess ts front.label.now pid)) →
    IfSome found (λ front. IfSome front.pid (λ pid. is_json × HasProcess ts front.label.now pid))
each_process is_json ts None holds process = tt
each_process is_json ts (Some front) holds process = both_process is_json ts front.label.now front.pid holds process

-- what was read of tokens holds of the line that has them
pub told : (is_json : Type 0) (read ts : List Token) (found : Option LineFront) → read ≡ ts → is_json →
    IfSome found (λ front. BeginsWithLabel read front.label.now) →
    (found ≡ None → (label : List ℕ) → BeginsWithLabel read label → ⊥) →
    IfSome found (λ front. is_json × BeginsWithLabel ts front.label.now)
    × (found ≡ None → (label : List ℕ) → is_json × BeginsWithLabel ts label → ⊥)
told is_json read ts found are holds named unnamed = (
  both is_json ts found holds (subst (λ ts. IfSome found (λ front. BeginsWithLabel ts front.label.now)) are named),
  λ none label is. unnamed none label (subst (λ ts. BeginsWithLabel ts label) (sym are) is.1),
)

pub process_told : (is_json : Type 0) (read ts : List Token) (found : Option LineFront) → read ≡ ts → is_json →
    IfSome found (λ front. IfSome front.pid (λ pid. HasProcess read front.label.now pid)) →
    IfSome found (λ front. IfSome front.pid (λ pid. is_json × HasProcess ts front.label.now pid))
process_told is_json read ts found are holds process =
    each_process is_json ts found holds (subst (λ ts. IfSome found (λ front. IfSome front.pid (λ pid. HasProcess ts front.label.now pid))) are process)
