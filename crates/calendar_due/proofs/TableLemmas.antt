-- What a zone file says settles what it gives: two tables of one file give the same at each instant.
use Rattle.std.proofs.Common.{◌≡◌, ℕ, ◌+◌, ◌-◌, ◌==◌, ℤ, pos, int_le, List, [], ◌∷◌, map, length, get_or, Bool, true, false, cond, Option, Some, None, option_map, refl, sym, ap, ◌∙◌, arith}
use Rattle.std.specs.Prelude.{if◌then◌else◌, vec_len}
use Rattle.std.specs.List.{prefix_len}
use Rattle.std.proofs.Math.ListN.{get_or-map}
use Rattle.std.proofs.lemmas.List.{length-map}
use Rattle.std.proofs.Math.Path.{fun_ext}
use Rattle.jiff_core.specs.declared.Offset.{Offset}
use Rattle.jiff_tz.specs.PosixRule.{match_some, offset_at as rule_offset}
use Rattle.jiff_tz.specs.PosixText.{tz_view}
use Rattle.jiff_tz.specs.Tzif.{tzif_view, floor_second, count_at, rule_after, type_after, no_transition, offset_at as table_offset}
use Rattle.jiff_tz.specs.TzifText.{TypeText, TransitionText, transition_text}
use Rattle.jiff_tz.specs.declared.posix.TimeZone.{TimeZone as Rule}
use Rattle.jiff_tz.specs.declared.tzif.Tzif.{Tzif as Table}
use Rattle.jiff_tz.specs.declared.tzif.transition.Transition.{Transition}
use Rattle.calendar_due.specs.Offsets.{Offsets, nanos_at}
use Rattle.calendar_due.specs.Zone.{IsOfTable}
use Rattle.calendar_due.proofs.RuleLemmas.{same_seconds}

-- how many rows lie at or before the second
abbrev rows_at : List TransitionText → ℤ → ℕ
rows_at rows second = prefix_len (λ row. int_le row.second second) rows

counted : (ts : List Transition) (second : ℤ) → prefix_len (λ t. int_le t.second second) ts ≡ rows_at (map transition_text ts) second
counted [] second = refl
counted (t ∷ ts) second = ap (λ n. cond (int_le t.second second) (1 + n) 0) (counted ts second)

-- in place of a row past the end
abbrev no_row : TypeText → TransitionText
no_row first = record { second = pos 0; before = first.seconds; after = first }

-- the seconds that hold after that many rows
abbrev seconds_after : TypeText → List TransitionText → ℕ → ℤ
seconds_after first rows count = if count == 0 then first.seconds else (get_or rows (count - 1) (no_row first)).after.seconds

seconds_of : (z : Table) (count : ℕ) → (type_after z count).offset.seconds ≡ seconds_after (tzif_view z).first (tzif_view z).transitions count
seconds_of z count = go (count == 0)
  where
    go : (b : Bool) → (if b then z.first else (get_or z.transitions.items (count - 1) (no_transition z)).after).offset.seconds
        ≡ (if b then (tzif_view z).first.seconds else (get_or (tzif_view z).transitions (count - 1) (no_row (tzif_view z).first)).after.seconds)
    go true = refl
    go false = ap (λ (row : TransitionText). row.after.seconds) (sym (get_or-map transition_text z.transitions.items (count - 1) (no_transition z)))

-- the rule, if that many rows are the whole table
rules_of : (z : Table) (count : ℕ) → option_map tz_view (rule_after z count) ≡ (if count == length (tzif_view z).transitions then (tzif_view z).rule else None)
rules_of z count = ap (λ n. option_map tz_view (if count == n then z.posix_tz else None)) len ∙ go (count == length (tzif_view z).transitions)
  where
    len : vec_len z.transitions ≡ length (map transition_text z.transitions.items)
    len = grind (arith, z.transitions.ok.0, length-map)

    go : (b : Bool) → option_map tz_view (if b then z.posix_tz else None) ≡ (if b then option_map tz_view z.posix_tz else None)
    go true = refl
    go false = refl

by_rule : (n : ℤ) (a b : Option Rule) (x y : Offset) → option_map tz_view a ≡ option_map tz_view b → x.seconds ≡ y.seconds →
    (match_some a x (λ tz. rule_offset tz n)).seconds ≡ (match_some b y (λ tz. rule_offset tz n)).seconds
by_rule n None None x y same seconds = seconds
by_rule n None (Some b) x y same seconds = cc
by_rule n (Some a) None x y same seconds = cc
by_rule n (Some a) (Some b) x y same seconds = let view : tz_view a ≡ tz_view b = cc in same_seconds a b n view

same_table : (a b : Table) (n : ℤ) → tzif_view a ≡ tzif_view b → (table_offset a n).seconds ≡ (table_offset b n).seconds
same_table a b n view =
    let at = floor_second n in
    let count : count_at a at ≡ count_at b at = counted a.transitions.items at ∙ ap (λ v. rows_at v.transitions at) view ∙ sym (counted b.transitions.items at) in
    by_rule n (rule_after a (count_at a at)) (rule_after b (count_at b at)) (type_after a (count_at a at)).offset (type_after b (count_at b at)).offset
    (rules_of a (count_at a at) ∙ (λ i. if count i == length (view i).transitions then (view i).rule else None) ∙ sym (rules_of b (count_at b at)))
    (seconds_of a (count_at a at) ∙ (λ i. seconds_after (view i).first (view i).transitions (count i)) ∙ sym (seconds_of b (count_at b at)))

-- a file is one table only
pub one_file_clock : (bytes : List ℕ) (one other : Offsets) → IsOfTable bytes one → IsOfTable bytes other → one ≡ other
one_file_clock bytes one other a b =
    let view : tzif_view a.table ≡ tzif_view b.table = cc (a.read, b.read) in
    a.offsets ∙ fun_ext (λ second. same_table a.table b.table (nanos_at second) view) ∙ sym b.offsets
