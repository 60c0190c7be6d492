-- Days that a clock may show on a day of UTC, and the days that a search may pass over.
use Rattle.std.proofs.Common.{◌≡◌, ℕ, ◌+◌, ◌-◌, ◌*◌, ◌/◌, ◌==◌, ◌<◌, ◌≤◌, ℤ, pos, ◌+ℤ◌, Bool, true, false, ◌&&◌, List, Option, Some, None, refl, sym, ap, ◌∙◌, unsigned_abs, max, min, arith}
use Rattle.std.proofs.lemmas.Bool.{eq-eqb}
use Rattle.std.proofs.lemmas.Bool.Decides.{nat_tests}
use Rattle.std.specs.Int.{int_div_euclid, int_rem_euclid}
use Rattle.std.specs.List.{list_any}
use Rattle.jiff.proofs.SpanFacts.{signed_arith}
use Rattle.jiff.specs.ZoneView.{plain_zone}
use Rattle.jiff_core.specs.Calendar.{IsWithin}
use Rattle.jiff_tz.specs.PosixRule as PosixRule
use Rattle.jiff_tz.specs.Tzif as TableRule
use Rattle.jiff_tz.specs.Zone.{offset_at, zero_in_range}
use Rattle.jiff_tz.specs.declared.timezone.TimeZone.{TimeZone}
use Rattle.jiff_tz.specs.declared.timezone.TimeZone.TheVariants.{UTC, Unknown, Fixed, Posix, Tzif}
use Rattle.history_model.specs.declared.Entry.{Entry}
use Rattle.history_model.specs.Calendar.{matches}
use Rattle.calendar_due.specs.declared.zone.Zone.{Zone}
use Rattle.calendar_due.specs.declared.zone.Rules.{Rules}
use Rattle.calendar_due.specs.declared.zone.Rules.TheVariants.{Plain, Table}
use Rattle.calendar_due.specs.Minute.{minute_of_day, shown_minute}
use Rattle.calendar_due.specs.Offsets.{always, nanos_at, shown_by}
use Rattle.calendar_due.specs.ZoneRules.{offsets, offsets_by, minute_at}
use Rattle.calendar_due.specs.Days.{is_on_day, is_same_day, is_some_on, AreIdle}
use Rattle.calendar_due.specs.Next.{is_matched, IsDueIn, IsFirstDue, IsFirstDueOn}
use Rattle.calendar_due.proofs.MinuteLemmas.{nonneg_abs}
use Rattle.calendar_due.proofs.DayLemmas.{idle-minute}

-- no zone is 26 hours from UTC
plain_near : (tz : TimeZone) (n : ℤ) → IsWithin 93_599 (offset_at tz n)
unfolding offset_at
plain_near UTC n = zero_in_range
plain_near Unknown n = zero_in_range
plain_near (Fixed offset) n = offset.in_range
plain_near (Posix tz) n = (PosixRule.offset_at tz n).in_range
plain_near (Tzif z) n = (TableRule.offset_at z.now n).in_range

rules_near : (rules : Rules) (second : ℕ) → IsWithin 93_599 (offsets_by rules second)
rules_near (Plain zone) second = plain_near (plain_zone zone) (nanos_at second)
rules_near (Table table) second = (TableRule.offset_at table (nanos_at second)).in_range

pub near : (zone : Zone) (second : ℕ) → IsWithin 93_599 (offsets zone second)
unfolding offsets
near zone second = rules_near zone.rules second

-- what the clock of UTC shows
pub utc-shown : (zone : Zone) (second : ℕ) → offsets zone ≡ always (pos 0) → minute_at zone second ≡ shown_minute (pos second)
unfolding minute_at shown_by
utc-shown zone second is =
    let sum : pos second +ℤ pos 0 ≡ pos second = omega (arith, signed_arith) in
    ap (λ ahead. shown_by ahead second) is ∙ ap shown_minute sum

same-and : (a b c : ℕ) → (a == a && b == b && c == c) ≡ true
same-and a b c = ap (λ x. x && b == b && c == c) (eq-eqb a a refl) ∙ ap (λ x. x && c == c) (eq-eqb b b refl) ∙ eq-eqb c c refl

-- two minutes of a day are of one day
one-day : (day : ℤ) (a b : ℕ) → is_same_day (minute_of_day day a) (minute_of_day day b) ≡ true
one-day day a b = same-and (minute_of_day day a).month (minute_of_day day a).day (minute_of_day day a).weekday

-- no entry matches what is shown on a day that no entry is on
shown-idle : (entries : List Entry) (shown : ℤ) (day : ℕ) → int_div_euclid shown (pos 86400) ≡ pos day → is_some_on entries day ≡ false
    → list_any (λ entry. matches entry (shown_minute shown)) entries ≡ false
shown-idle entries shown day is idle =
    let start : int_div_euclid (pos (day * 86_400)) (pos 86400) ≡ pos day = omega (arith, signed_arith) in
    let first : ℕ = unsigned_abs (int_rem_euclid (pos (day * 86_400)) (pos 86400)) in
    let second : ℕ = unsigned_abs (int_rem_euclid shown (pos 86400)) in
    let same : is_same_day (shown_minute (pos (day * 86_400))) (shown_minute shown) ≡ true =
    ap (λ d. is_same_day (minute_of_day d first) (shown_minute shown)) start ∙ ap (λ d. is_same_day (minute_of_day (pos day) first) (minute_of_day d second)) is ∙ one-day (pos day) first second in
    idle-minute entries (shown_minute (pos (day * 86_400))) (shown_minute shown) idle same

-- the day that is shown is at most two days away
day-near : (n day : ℕ) (ahead : ℤ) → IsWithin 93_599 ahead → n / 86_400 ≡ day → 2 ≤ day
    → (c : ℕ) × (int_div_euclid (pos n +ℤ ahead) (pos 86400) ≡ pos c) × (day - 2 ≤ c) × (c ≤ day + 2)
day-near n day ahead within of two =
    let low = within.0 in
    let high = within.1 in
    let shown : ℤ = int_div_euclid (pos n +ℤ ahead) (pos 86400) in
    let back : pos (unsigned_abs shown) ≡ shown = nonneg_abs shown (omega (arith, signed_arith)) in
    (unsigned_abs shown, sym back, omega (arith, signed_arith), omega (arith, signed_arith))

-- no minute is matched of a day about which no entry is
pub idle-about : (zone : Zone) (entries : List Entry) (day next n : ℕ) → 2 ≤ day → day + 2 < next → AreIdle entries (day - 2) next → n / 86_400 ≡ day
    → is_matched (minute_at zone) entries n ≡ false
unfolding minute_at shown_by
idle-about zone entries day next n two before idle of =
    let (c, is, low, high) = day-near n day (offsets zone n) (near zone n) of two in
    shown-idle entries (pos n +ℤ offsets zone n) c is (idle c low (omega (arith, high, before)))

module _ (zone : Zone) (entries : List Entry) (after until : ℕ) where
  -- every minute that is due is on the day or later
  abbrev pub AreFrom : ℕ → Type 0
  AreFrom day = (n : ℕ) → IsDueIn (minute_at zone) entries after until n → day ≤ n / 86_400

  pub from-start : AreFrom (after / 86_400)
  from-start n (whole, above, below, is) = omega (arith, above)

  -- a day is passed over
  pub from-idle : (day next : ℕ) → AreFrom day → 2 ≤ day → day + 2 < next → AreIdle entries (day - 2) next → AreFrom (day + 1)
  from-idle day next from two before idle n due = go (n / 86_400 == day) refl where
    so_far : day ≤ n / 86_400
    so_far = from n due

    go : (b : Bool) → (n / 86_400 == day) ≡ b → day + 1 ≤ n / 86_400
    go true same =
        let equal : n / 86_400 ≡ day = grind (arith, nat_tests, same) in
        let clash : false ≡ true = sym (idle-about zone entries day next n two before idle equal) ∙ due.3 in cc
    go false other = let differ : n / 86_400 ≡ day → ⊥ = (λ e. let t = eq-eqb (n / 86_400) day e in cc) in omega (arith, so_far, differ)

  -- a day has none
  pub from-none : (day : ℕ) (o : Option ℕ) → AreFrom day → IsFirstDueOn (minute_at zone) entries day after until o → o ≡ None → AreFrom (day + 1)
  from-none day None from none is n due =
      let differ = none n due in
      let so_far = from n due in omega (arith, so_far, differ)
  from-none day (Some m) from first is n due = cc

  -- a day has the first
  pub from-found : (day : ℕ) (o : Option ℕ) → AreFrom day → IsFirstDueOn (minute_at zone) entries day after until o → (o ≡ None → ⊥) → IsFirstDue (minute_at zone) entries after until o
  from-found day None from none some = absurd (some refl)
  from-found day (Some m) from (due, of, least) some = (due, later) where
    later : (n : ℕ) → IsDueIn (minute_at zone) entries after until n → m ≤ n
    later n other = go (n / 86_400 == day) refl where
      so_far : day ≤ n / 86_400
      so_far = from n other

      go : (b : Bool) → (n / 86_400 == day) ≡ b → m ≤ n
      go true same = let equal : n / 86_400 ≡ day = grind (arith, nat_tests, same) in least n other equal
      go false differs = let differ : n / 86_400 ≡ day → ⊥ = (λ e. let t = eq-eqb (n / 86_400) day e in cc) in omega (arith, so_far, differ, of)

  -- no day is left
  pub from-all : (day : ℕ) → AreFrom day → until / 86_400 + 1 ≤ day → IsFirstDue (minute_at zone) entries after until None
  from-all day from over n due = let so_far = from n due in let low = due.2 in omega (arith, so_far, low, over)

  -- what is the first between the ends of a day is the first of the day
  pub first-on : (day low high : ℕ) (o : Option ℕ) → IsFirstDue (minute_at zone) entries low high o
      → low ≡ max after (day * 86_400 - 1) → high ≡ min until (day * 86_400 + 86_399) → IsFirstDueOn (minute_at zone) entries day after until o
  first-on day low high None none l h = λ n due of.
      none n (due.0, omega (arith, due.1, of, l, due.0), omega (arith, due.2, of, h), due.3)
  first-on day low high (Some m) ((whole, above, below, is), least) l h = (
    (whole, omega (arith, above, l), omega (arith, below, h), is),
    omega (arith, above, below, l, h),
    (λ n (due : IsDueIn (minute_at zone) entries after until n) of. least n (due.0, omega (arith, due.1, of, l, due.0), omega (arith, due.2, of, h), due.3)),
  )

-- one more day is looked at
pub idle-more : (zone : Zone) (entries : List Entry) (from day : ℕ) → AreIdle entries from day → offsets zone ≡ always (pos 0)
    → list_any (λ entry. is_on_day entry (minute_at zone (day * 86_400))) entries ≡ false → AreIdle entries from (day + 1)
idle-more zone entries from day before utc none n low high = go (n == day) refl where
  go : (b : Bool) → (n == day) ≡ b → is_some_on entries n ≡ false
  go true same =
      let equal : n ≡ day = grind (arith, nat_tests, same) in
      ap (is_some_on entries) equal ∙ ap (λ at. list_any (λ entry. is_on_day entry at) entries) (sym (utc-shown zone (day * 86_400) utc)) ∙ none
  go false other = let differ : n ≡ day → ⊥ = (λ e. let t = eq-eqb n day e in cc) in before n low (omega (arith, high, differ))

-- what is idle stays so for the day after
pub idle-later : (entries : List Entry) (day next : ℕ) → AreIdle entries (day - 2) next → AreIdle entries (day + 1 - 2) next
idle-later entries day next idle n low high = idle n (omega (arith, low)) high
