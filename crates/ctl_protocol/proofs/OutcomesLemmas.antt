-- The line of an outcome, as the texts of its parts.
use Rattle.std.proofs.Common.{◌≡◌, ℕ, List, [], ◌++◌, length, codes, decimal, ◌==◌, true, refl, sym, ap, ◌∙◌, append_assoc}
use Rattle.std.specs.Fmt.{digits}
use Rattle.std.proofs.lemmas.Bool.{eqb-true}
use Rattle.std.proofs.lemmas.List.{nil_from_length}
use Rattle.std.specs.Borrow.{Bor}
use Rattle.serde_json.specs.Data.{Items, no_items, array, number, string, unsigned, object, member, no_members}
use Rattle.serde_json.specs.Written.{compact_text}
use Rattle.serde_json.proofs.OnLiterals.{serde_json_on_literals}
use Rattle.history_model.specs.declared.Act.{Act}
use Rattle.ctl_protocol.specs.Objects.{line_of}
use Rattle.ctl_protocol.specs.OutcomeLines.{orders_data, plain_orders, line_parts, outcome_object}

regroup : (code orders said : List ℕ)
    → codes "{\"code\":" ++ (code ++ (codes ",\"orders\":" ++ (orders ++ (codes ",\"text\":" ++ (said ++ codes "}"))))) ++ codes "\n" ≡ line_parts code orders said
regroup code orders said = simp append_assoc

pub in_parts : (code : ℕ) (said : List ℕ) (items : Items)
    → line_of (object (member (codes "code") (number (unsigned code)) (member (codes "orders") (array items) (member (codes "text") (string said) no_members))))
    ≡ line_parts (compact_text (number (unsigned code))) (compact_text (array items)) (compact_text (string said))
unfolding serde_json_on_literals
in_parts code said items = regroup (compact_text (number (unsigned code))) (compact_text (array items)) (compact_text (string said))

pub from_parts : (code : ℕ) (said : List ℕ) (orders : List (List ℕ × Act)) (line number_text list_text said_text : List ℕ)
    → line ≡ line_parts number_text list_text said_text → number_text ≡ compact_text (number (unsigned code)) → list_text ≡ compact_text (array (orders_data orders)) → said_text ≡ compact_text (string said)
    → line ≡ line_of (outcome_object code said orders)
from_parts code said orders line number_text list_text said_text whole n l t = whole ∙ rw (n, l, t) (sym (in_parts code said (orders_data orders)))

pub number_written : (code : ℕ) → decimal code ≡ compact_text (number (unsigned code))
unfolding serde_json_on_literals
number_written code = refl

zero_digits : codes "0" ≡ decimal 0
unfolding digits
zero_digits = refl

zero_written : codes "0" ≡ compact_text (number (unsigned 0))
zero_written = zero_digits ∙ number_written 0

pub no_orders_written : codes "[]" ≡ compact_text (array no_items)
unfolding serde_json_on_literals
no_orders_written = refl

pub no_text_written : codes "\"\"" ≡ compact_text (string [])
unfolding serde_json_on_literals
no_text_written = refl

empty : {X : Type 0} (xs : List X) → true ≡ (length xs == 0) → xs ≡ []
empty xs is = nil_from_length xs (eqb-true (length xs) 0 (sym is))

-- the quotes of an empty text
pub text_written : (said quotes : List ℕ) → true ≡ (length said == 0) → quotes ≡ codes "\"\"" → quotes ≡ compact_text (string said)
text_written said quotes is written = written ∙ no_text_written ∙ ap (λ t. compact_text (string t)) (sym (empty said is))

-- the line of an outcome with no refusal, no order and no text
pub bare_line : (code : ℕ) (said : List ℕ) (orders : List (Bor (List ℕ) × Act)) (line : List ℕ)
    → code ≡ 0 → true ≡ (length orders == 0) → true ≡ (length said == 0) → line ≡ codes "{\"code\":0,\"orders\":[],\"text\":\"\"}\n"
    → line ≡ line_of (outcome_object code said (plain_orders orders))
bare_line code said orders line accepted no_orders no_text whole =
    from_parts code said (plain_orders orders) line (codes "0") (codes "[]") (codes "\"\"") whole
    (zero_written ∙ ap (λ n. compact_text (number (unsigned n))) (sym accepted))
    (no_orders_written ∙ ap (λ os. compact_text (array (orders_data (plain_orders os)))) (sym (empty orders no_orders)))
    (text_written said (codes "\"\"") no_text refl)
