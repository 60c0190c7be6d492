-- What is written has no float.
use Rattle.std.proofs.Common.{◌≡◌, ℕ, List, [], ◌∷◌, false, refl, codes, arith, if◌then◌else◌, ◌≤◌, max, pos, negsuc}
use Rattle.std.specs.Ordering.{nat_cmp, match_ordering}
use Rattle.std.specs.Cmp.Lexicographic.{slice_cmp}
use Rattle.std.specs.declared.cmp.Ordering.{Ordering}
use Rattle.std.specs.declared.cmp.Ordering.TheVariants.{Less, Equal, Greater}
use Rattle.serde_json.specs.Data.{Data, Members, no_members, member, put, depth, members_depth}
use Rattle.serde_json.specs.Read.{max_depth}
use Rattle.serde_json.specs.Written.{has_float, members_have_float, items_have_float}
use Rattle.ctl_protocol.specs.Objects.{Plain, text, flag, count, whole, plain_data, with_members, plain_object}
use Rattle.history_model.specs.declared.Act.{Act}
use Rattle.ctl_protocol.specs.declared.members.Form.{Form}
use Rattle.ctl_protocol.specs.Members.{tag_of, has_answers}
use Rattle.ctl_protocol.specs.EventWriter.{line_object}
use Rattle.ctl_protocol.specs.declared.header.Header.{Header}
use Rattle.ctl_protocol.specs.HeaderLines.{header_object, plain_members, setting_members}
use Rattle.ctl_protocol.specs.OutcomeLines.{order_members, orders_data, outcome_object, reply_object}
use Rattle.history_model.proofs.BooleanLemmas.{false-or, or-false-first, or-false-second}

put_at : (o : Ordering) (k l : List ℕ) (d e : Data) (ms : Members) → has_float d ≡ false → has_float e ≡ false → members_have_float ms ≡ false
    → members_have_float (put k d ms) ≡ false
    → members_have_float (match_ordering o (member k d (member l e ms)) (member l d ms) (member l e (put k d ms))) ≡ false
put_at Less k l d e ms here there more later = false-or _ _ here (false-or _ _ there more)
put_at Equal k l d e ms here there more later = false-or _ _ here more
put_at Greater k l d e ms here there more later = false-or _ _ there later

pub put_no_float : (k : List ℕ) (d : Data) (ms : Members) → has_float d ≡ false → members_have_float ms ≡ false → members_have_float (put k d ms) ≡ false
put_no_float k d no_members here more = false-or _ _ here refl
put_no_float k d (member l e ms) here more =
    let there = or-false-first (has_float e) (members_have_float ms) more in
    let rest = or-false-second (has_float e) (members_have_float ms) more in
    put_at (slice_cmp nat_cmp k l) k l d e ms here there rest (put_no_float k d ms here rest)

plain_no_float : (p : Plain) → has_float (plain_data p) ≡ false
plain_no_float (text s) = refl
plain_no_float (flag b) = refl
plain_no_float (count n) = refl
plain_no_float (whole (pos n)) = refl
plain_no_float (whole (negsuc n)) = refl

with_no_float : (ms : Members) (members : List (List ℕ × Plain)) → members_have_float ms ≡ false → members_have_float (with_members ms members) ≡ false
with_no_float ms [] h = h
with_no_float ms (m ∷ more) h = with_no_float (put m.0 (plain_data m.1) ms) more (put_no_float m.0 (plain_data m.1) ms (plain_no_float m.1) h)

pub object_no_float : (members : List (List ℕ × Plain)) → has_float (plain_object members) ≡ false
object_no_float members = with_no_float no_members members refl

pub orders_no_float : (orders : List (List ℕ × Act)) → items_have_float (orders_data orders) ≡ false
orders_no_float [] = refl
orders_no_float (o ∷ os) = false-or _ _ (object_no_float (order_members o)) (orders_no_float os)

pub outcome_no_float : (code : ℕ) (said : List ℕ) (orders : List (List ℕ × Act)) → has_float (outcome_object code said orders) ≡ false
outcome_no_float code said orders = rw (orders_no_float orders) refl

pub reply_no_float : (code : ℕ) (said : List ℕ) → has_float (reply_object code said) ≡ false
reply_no_float code said = object_no_float ((codes "code", count code) ∷ (codes "text", text said) ∷ [])

pub line_no_float : (form : Form) (name : List ℕ) (keys answers : List (List ℕ × Plain)) → has_float (line_object form name keys answers) ≡ false
line_no_float form name keys answers =
    with_no_float _ (if has_answers form then answers else []) (with_no_float _ keys (with_no_float no_members ((tag_of form, text name) ∷ []) refl))

-- ---- nor does it nest deep

higher : (a b n : ℕ) → a ≤ n → b ≤ n → max a b ≤ n
higher a b n p q = omega (arith, p, q)

left_below : (a b n : ℕ) → max a b ≤ n → a ≤ n
left_below a b n p = omega (arith, p)

right_below : (a b n : ℕ) → max a b ≤ n → b ≤ n
right_below a b n p = omega (arith, p)

put_depth_at : (n : ℕ) (o : Ordering) (k l : List ℕ) (d e : Data) (ms : Members) → depth d ≤ n → depth e ≤ n → members_depth ms ≤ n
    → members_depth (put k d ms) ≤ n
    → members_depth (match_ordering o (member k d (member l e ms)) (member l d ms) (member l e (put k d ms))) ≤ n
put_depth_at n Less k l d e ms here there more later = higher _ _ n here (higher _ _ n there more)
put_depth_at n Equal k l d e ms here there more later = higher _ _ n here more
put_depth_at n Greater k l d e ms here there more later = higher _ _ n there later

pub put_depth : (n : ℕ) (k : List ℕ) (d : Data) (ms : Members) → depth d ≤ n → members_depth ms ≤ n → members_depth (put k d ms) ≤ n
put_depth n k d no_members here more = higher _ _ n here more
put_depth n k d (member l e ms) here more =
    let there = left_below (depth e) (members_depth ms) n more in
    let rest = right_below (depth e) (members_depth ms) n more in
    put_depth_at n (slice_cmp nat_cmp k l) k l d e ms here there rest (put_depth n k d ms here rest)

plain_depth : (n : ℕ) (p : Plain) → depth (plain_data p) ≤ n
plain_depth n (text s) = omega arith
plain_depth n (flag b) = omega arith
plain_depth n (count m) = omega arith
plain_depth n (whole z) = omega arith

with_depth : (n : ℕ) (ms : Members) (members : List (List ℕ × Plain)) → members_depth ms ≤ n → members_depth (with_members ms members) ≤ n
with_depth n ms [] h = h
with_depth n ms (m ∷ more) h = with_depth n (put m.0 (plain_data m.1) ms) more (put_depth n m.0 (plain_data m.1) ms (plain_depth n m.1) h)

pub line_depth : (form : Form) (name : List ℕ) (keys answers : List (List ℕ × Plain)) → depth (line_object form name keys answers) ≤ max_depth
line_depth form name keys answers =
    let tagged = with_members no_members ((tag_of form, text name) ∷ []) in
    let last = if has_answers form then answers else [] in
    let below : members_depth (with_members (with_members tagged keys) last) ≤ 0 =
    with_depth 0 (with_members tagged keys) last (with_depth 0 tagged keys (with_depth 0 no_members ((tag_of form, text name) ∷ []) (omega arith))) in
    omega (arith, below)

pub header_no_float : (h : Header) → has_float (header_object h) ≡ false
header_no_float h =
    put_no_float (codes "overrides") (plain_object (setting_members h.overrides)) (with_members no_members (plain_members h))
    (object_no_float (setting_members h.overrides)) (with_no_float no_members (plain_members h) refl)

pub header_depth : (h : Header) → depth (header_object h) ≤ max_depth
header_depth h =
    let inside : members_depth (with_members no_members (setting_members h.overrides)) ≤ 0 = with_depth 0 no_members (setting_members h.overrides) (omega arith) in
    let overrides : depth (plain_object (setting_members h.overrides)) ≤ 1 = omega (arith, inside) in
    let below : members_depth (put (codes "overrides") (plain_object (setting_members h.overrides)) (with_members no_members (plain_members h))) ≤ 1 =
    put_depth 1 (codes "overrides") (plain_object (setting_members h.overrides)) (with_members no_members (plain_members h)) overrides (with_depth 1 no_members (plain_members h) (omega arith)) in
    omega (arith, below)
