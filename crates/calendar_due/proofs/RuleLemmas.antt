-- What a rule says settles what it gives: two rules of one text give the same at each instant.
use Rattle.std.proofs.Common.{◌≡◌, ℕ, ℤ, ◌*ℤ◌, ◌+ℤ◌, ◌-ℤ◌, ◌&&◌, ◌||◌, int_lt, List, Bool, Option, Some, None, option_map, map, subst, IfSome, refl, sym, ap, ap₂, ◌∙◌, if◌then◌else◌, get_or, length, ◌-◌, Ok, false, true}
use Rattle.jiff_core.specs.Timestamp.{nanos_of_seconds}
use Rattle.jiff_core.specs.declared.Offset.{Offset}
use Rattle.jiff_tz.specs.Abbreviation.{abbreviation_text}
use Rattle.jiff_tz.specs.declared.abbreviation.Abbreviation.{Abbreviation}
use Rattle.jiff_tz.specs.declared.info.OffsetInfo.{OffsetInfo}
use Rattle.jiff_tz.specs.declared.info.Dst.{Dst as Flag}
use Rattle.jiff_tz.specs.declared.info.Dst.TheVariants.{No, Yes}
use Rattle.jiff_tz.specs.declared.posix.Day.{Day}
use Rattle.jiff_tz.specs.declared.posix.DayTime.{DayTime}
use Rattle.jiff_tz.specs.declared.posix.Dst.{Dst}
use Rattle.jiff_tz.specs.declared.posix.TimeZone.{TimeZone}
use Rattle.jiff_tz.specs.declared.tzif.Tzif.{Tzif}
use Rattle.jiff_tz.specs.PosixText.{tz_view, dst_view, day_time_view}
use Rattle.jiff_tz.specs.PosixRule.{match_some, clamp_to, first_nanosecond, last_nanosecond, nanos_per_day, rule_day, rule_nanos, utc_window, saturating_add, int_same, in_window, dst_at_by, dst_info, info_at, dst_at, offset_at as rule_offset}
use Rattle.std.proofs.Math.Path.{fun_ext}
use Rattle.calendar_due.specs.Offsets.{Offsets, nanos_at}
use Rattle.calendar_due.specs.Zone.{IsOfRule}
use Rattle.jiff_tz.specs.Year.{year_of_nanos}
use Rattle.jiff_tz.specs.Tzif.{HasBadRule, RuleAgrees, tzif_view}
use Rattle.jiff_tz.specs.TzifReader.{Parsed, TzifText}
use Rattle.jiff_tz.specs.TzifText.{TransitionText, transition_text, no_row}
use Rattle.jiff_tz.specs.TzifAgree.{FooterAgrees}

-- a moment of the year, by its day and time
same_moment : (y : ℤ) (a b : DayTime) (seconds also : ℤ) → day_time_view a ≡ day_time_view b → seconds ≡ also → rule_nanos y a seconds ≡ rule_nanos y b also
unfolding rule_nanos
same_moment y a b seconds also view same =
    ap₂ (λ (v : Day × ℤ) (s : ℤ). match_some (rule_day y v.0) (last_nanosecond y) (λ day.
    clamp_to (first_nanosecond y) (last_nanosecond y) (day *ℤ nanos_per_day +ℤ nanos_of_seconds (v.1 -ℤ s)))) view same

-- the window of daylight saving time, by its start and end and by standard time
window_of : ℤ → ℤ → ℤ → ℤ → ℤ × ℤ
window_of y start end std =
    if int_same start (first_nanosecond y)
    && (int_lt (saturating_add end (nanos_of_seconds std)) (first_nanosecond y) || int_lt (last_nanosecond y) (saturating_add end (nanos_of_seconds std)))
    then (start, last_nanosecond y)
    else (start, end)

same_window : (y : ℤ) (a b : Dst) (std also : Offset) → dst_view a ≡ dst_view b → std.seconds ≡ also.seconds → utc_window a y std ≡ utc_window b y also
unfolding utc_window window_of
same_window y a b std also view same =
    let start = same_moment y a.rule.start b.rule.start std.seconds also.seconds (ap (λ v. v.start) view) same in
    let end = same_moment y a.rule.end b.rule.end a.offset.seconds b.offset.seconds (ap (λ v. v.finish) view) (ap (λ v. v.seconds) view) in
    ap₂ (λ s e. window_of y s e std.seconds) start end ∙ ap (window_of y (rule_nanos y b.rule.start also.seconds) (rule_nanos y b.rule.end b.offset.seconds)) same

-- what is seen of what holds at an instant
abbrev info_view : OffsetInfo → ℤ × Flag × List ℕ
info_view info = (info.offset.seconds, info.dst, abbreviation_text info.abbreviation)

abbrev std_view : Offset → Abbreviation → OffsetInfo
std_view offset name = record { offset = offset; abbreviation = name; dst = No }

-- in the window daylight saving time holds, and outside it standard time
within_window : (a b : Dst) (std also : OffsetInfo) (here there : Bool) → here ≡ there → dst_view a ≡ dst_view b → info_view std ≡ info_view also
    → info_view (match_some (if here then Some a else None) std dst_info) ≡ info_view (match_some (if there then Some b else None) also dst_info)
within_window a b std also true true tests view same = ap₂ (λ s t. (s, Yes, t)) (ap (λ v. v.seconds) view) (ap (λ v. v.name) view)
within_window a b std also false false tests view same = same
within_window a b std also true false tests view same = cc
within_window a b std also false true tests view same = cc

same_info : (n : ℤ) (std also : Offset) (name other : Abbreviation) (a b : Option Dst) → std.seconds ≡ also.seconds → abbreviation_text name ≡ abbreviation_text other
    → option_map dst_view a ≡ option_map dst_view b
    → info_view (match_some (dst_at_by std a n) (std_view std name) dst_info) ≡ info_view (match_some (dst_at_by also b n) (std_view also other) dst_info)
same_info n std also name other None None same named view = ap₂ (λ s t. (s, No, t)) same named
same_info n std also name other None (Some b) same named view = cc
same_info n std also name other (Some a) None same named view = cc
same_info n std also name other (Some a) (Some b) same named view =
    let parts : dst_view a ≡ dst_view b = cc in
    let tests : in_window (utc_window a (year_of_nanos n) std) n ≡ in_window (utc_window b (year_of_nanos n) also) n =
    ap (λ w. in_window w n) (same_window (year_of_nanos n) a b std also parts same) in
    within_window a b (std_view std name) (std_view also other) (in_window (utc_window a (year_of_nanos n) std) n) (in_window (utc_window b (year_of_nanos n) also) n) tests parts
    (ap₂ (λ s t. (s, No, t)) same named)

-- two rules that say the same give the same
same_rule : (a b : TimeZone) (n : ℤ) → tz_view a ≡ tz_view b → info_view (info_at a n) ≡ info_view (info_at b n)
same_rule a b n view =
    same_info n a.std_offset b.std_offset a.std_abbrev b.std_abbrev a.dst b.dst (ap (λ v. v.std_seconds) view) (ap (λ v. v.std_name) view) (ap (λ v. v.dst) view)

-- and agree with the same tables
same_footer : (rows : List TransitionText) (a b : TimeZone) → tz_view a ≡ tz_view b → FooterAgrees rows a → FooterAgrees rows b
same_footer rows a b view agrees some =
    let row = get_or rows (length rows - 1) no_row in
    let same = same_rule b a (nanos_of_seconds row.second) (sym view) in
    let here = agrees some in
    (ap (λ v. v.0) same ∙ here.0, ap (λ v. v.1) same ∙ here.1, ap (λ v. v.2) same ∙ here.2)

-- a table that was read has no rule that disagrees
pub agrees-not-bad : (table : Tzif) (read : Parsed TzifText) → read ≡ Ok (tzif_view table) → RuleAgrees table → HasBadRule read → ⊥
agrees-not-bad table read is agrees bad =
    let text : bad.text ≡ tzif_view table = cc (bad.read, is) in
    let rule : option_map tz_view table.posix_tz ≡ Some (tz_view bad.rule) = sym (ap (λ t. t.rule) text) ∙ bad.is_rule in
    bad.disagrees (subst (λ (rows : List TransitionText). FooterAgrees rows bad.rule) (sym (ap (λ t. t.transitions) text))
    (of_rule (map transition_text table.transitions.items) table.posix_tz bad.rule rule agrees)) where
      of_rule : (rows : List TransitionText) (kept : Option TimeZone) (rule : TimeZone) → option_map tz_view kept ≡ Some (tz_view rule)
          → IfSome kept (λ tz. FooterAgrees rows tz) → FooterAgrees rows rule
      of_rule rows None rule is agrees = cc
      of_rule rows (Some tz) rule is agrees = let view : tz_view tz ≡ tz_view rule = cc in same_footer rows tz rule view agrees

offset_of_info : (rule : TimeZone) (n : ℤ) (dst : Option Dst) → (match_some dst (std_view rule.std_offset rule.std_abbrev) dst_info).offset ≡ match_some dst rule.std_offset (λ d. d.offset)
offset_of_info rule n None = refl
offset_of_info rule n (Some d) = refl

-- and have the same offset
pub same_seconds : (a b : TimeZone) (n : ℤ) → tz_view a ≡ tz_view b → (rule_offset a n).seconds ≡ (rule_offset b n).seconds
same_seconds a b n view =
    ap (λ o. o.seconds) (sym (offset_of_info a n (dst_at a n))) ∙ ap (λ v. v.0) (same_rule a b n view) ∙ ap (λ o. o.seconds) (offset_of_info b n (dst_at b n))

-- a text is one rule only
pub one_clock : (text : List ℕ) (one other : Offsets) → IsOfRule text one → IsOfRule text other → one ≡ other
one_clock text one other a b =
    let view : tz_view a.rule ≡ tz_view b.rule = cc (a.read, b.read) in
    a.offsets ∙ fun_ext (λ second. same_seconds a.rule b.rule (nanos_at second) view) ∙ sym b.offsets
