-- The date and the time that jiff gives for a second are the civil minute that a clock shows then.
use Rattle.std.proofs.Common.{◌≡◌, ℕ, zero, suc, ◌+◌, ◌-◌, ◌%◌, ◌<◌, ◌≤◌, ℤ, pos, ◌-ℤ◌, ◌≤ℤ◌, negsuc, refl, ap, ◌∙◌, arith, inl, inr, unsigned_abs, w8, to_z, of_z}
use Rattle.jiff_core.proofs.SignedLemmas.{back_small}
use Rattle.std.proofs.lemmas.Bool.Decides.{leb_tells}
use Rattle.std.specs.Int.{int_div_euclid, int_rem_euclid}
use Rattle.jiff.proofs.SpanFacts.{signed_arith}
use Rattle.jiff_core.specs.Calendar.{days_of_months, days_from_civil, day_of_year, weekday_number}
use Rattle.jiff_core.specs.Date.{epoch_day}
use Rattle.jiff_core.specs.DateTime.{civil_seconds}
use Rattle.jiff_core.specs.Time.{time_seconds}
use Rattle.jiff_core.specs.declared.civil.date.Date.{Date}
use Rattle.jiff_core.specs.declared.civil.datetime.DateTime.{DateTime}
use Rattle.jiff_core.proofs.CalendarLemmas.{days_from_civil-day_count, day_count-day_of_year, days_of_months_mono, days_of_months_more}
use Rattle.jiff_core.specs.Weekday.{sunday_zero, monday_zero}
use Rattle.jiff_core.specs.declared.civil.weekday.Weekday.{Weekday}
use Rattle.jiff_core.specs.declared.civil.weekday.Weekday.TheVariants.{Monday, Tuesday, Wednesday, Thursday, Friday, Saturday, Sunday}
use Rattle.jiff_tz.proofs.YearLemmas.{year_of_day-date}
use Rattle.calendar_due.specs.Minute.{months_within, minute_in_year, minute_of_day, shown_minute}
use Rattle.history_model.specs.declared.CivilMinute.{CivilMinute}

pub day_shown : (dt : DateTime) → int_div_euclid (civil_seconds dt) (pos 86400) ≡ epoch_day dt.date
unfolding civil_seconds
day_shown dt = omega (arith, signed_arith)

pub second_shown : (dt : DateTime) → unsigned_abs (int_rem_euclid (civil_seconds dt) (pos 86400)) ≡ time_seconds dt.time
unfolding civil_seconds
second_shown dt = omega (arith, signed_arith)

abbrev pub made : ℤ → ℕ → ℕ → ℕ → ℕ → ℕ → CivilMinute
made y m d h min w = record { year = y; month = m; day = d; hour = h; minute = min; weekday = w }

pub nonneg_abs : (z : ℤ) → pos 0 ≤ℤ z → pos (unsigned_abs z) ≡ z
nonneg_abs (pos n) h = refl
nonneg_abs (negsuc n) h = absurd (omega (arith, signed_arith))

-- the place in its year of a date's day
pub place_shown : (d : Date) → unsigned_abs (epoch_day d -ℤ days_from_civil d.year 1 1) + 1 ≡ days_of_months d.year (d.month - 1) + d.day
place_shown d =
    let is_day : epoch_day d ≡ days_from_civil d.year d.month d.day = refl in
    let count = days_from_civil-day_count d.year d.month d.day in
    let first = days_from_civil-day_count d.year 1 1 in
    let place = day_count-day_of_year d.year d.month d.day d.day_in.0 in
    let of_year : day_of_year d.year d.month d.day ≡ days_of_months d.year (d.month - 1) + d.day = refl in
    let start : ℤ = days_from_civil d.year 1 1 in
    let from_start = nonneg_abs (epoch_day d -ℤ start) (omega (arith, signed_arith)) in
    omega (arith, signed_arith)

pub months_within_is : (y : ℤ) (n k last days : ℕ) → k ≤ n → last ≡ suc k → days_of_months y k ≤ days → days < days_of_months y last → months_within y n days ≡ k
unfolding months_within
months_within_is y zero k last days h l a b = omega arith
months_within_is y (suc n) k last days h l a b = elim (leb_tells (days_of_months y (suc n)) days) [
  | inl fits ↦
      let more = fits.1 in
      rw fits.0 (elim (leb_tells k n) [
        | inl small ↦
            let later = days_of_months_mono y last (suc n) (omega arith) in
            absurd (omega arith)
        | inr big ↦ omega arith
      ])
  | inr over ↦
      let less = over.1 in
      rw over.0 (months_within_is y n k last days (elim (leb_tells k n) [
        | inl small ↦ small.1
        | inr big ↦
            let same : k ≡ suc n = omega arith in
            let e = ap (days_of_months y) same in
            absurd (omega arith)
      ]) l a b)
]

pub months_shown : (d : Date) → months_within d.year 11 (unsigned_abs (epoch_day d -ℤ days_from_civil d.year 1 1)) ≡ d.month - 1
months_shown d =
    let place = place_shown d in
    let more = days_of_months_more d.year d.month d.month_in.0 in
    let day = d.day_in in
    months_within_is d.year 11 (d.month - 1) d.month (unsigned_abs (epoch_day d -ℤ days_from_civil d.year 1 1)) (omega arith) (omega arith) (omega arith) (omega arith)

pub same_fields : (y y' : ℤ) (m m' day day' h h' min min' w w' : ℕ) → y ≡ y' → m ≡ m' → day ≡ day' → h ≡ h' → min ≡ min' → w ≡ w'
    → made y m day h min w ≡ made y' m' day' h' min' w'
same_fields y y' m m' day day' h h' min min' w w' f a b c d e =
    ap (λ x. made x m day h min w) f ∙ ap (λ x. made y' x day h min w) a ∙ ap (λ x. made y' m' x h min w) b
    ∙ ap (λ x. made y' m' day' x min w) c ∙ ap (λ x. made y' m' day' h' x w) d ∙ ap (made y' m' day' h' min') e

pub sunday_zero-monday_zero : (w : Weekday) → sunday_zero w ≡ (monday_zero w + 1) % 7
sunday_zero-monday_zero Monday = refl
sunday_zero-monday_zero Tuesday = refl
sunday_zero-monday_zero Wednesday = refl
sunday_zero-monday_zero Thursday = refl
sunday_zero-monday_zero Friday = refl
sunday_zero-monday_zero Saturday = refl
sunday_zero-monday_zero Sunday = refl

-- the date and the time are what the clock shows
pub shown_minute-civil_seconds : (dt : DateTime) → shown_minute (civil_seconds dt) ≡ record {
  year = dt.date.year;
  month = dt.date.month;
  day = dt.date.day;
  hour = dt.time.hour;
  minute = dt.time.minute;
  weekday = (weekday_number (epoch_day dt.date) + 1) % 7;
}
shown_minute-civil_seconds dt =
    let d : Date = dt.date in
    let place : ℕ = unsigned_abs (epoch_day d -ℤ days_from_civil d.year 1 1) in
    let weekday : ℕ = (weekday_number (epoch_day d) + 1) % 7 in
    let of_parts : shown_minute (civil_seconds dt) ≡ minute_of_day (epoch_day d) (time_seconds dt.time) =
    ap (λ x. minute_of_day x (unsigned_abs (int_rem_euclid (civil_seconds dt) (pos 86400)))) (day_shown dt)
    ∙ ap (minute_of_day (epoch_day d)) (second_shown dt) in
    let of_year : minute_of_day (epoch_day d) (time_seconds dt.time) ≡ minute_in_year d.year place (months_within d.year 11 place) weekday (time_seconds dt.time) =
    ap (λ y. minute_in_year y (unsigned_abs (epoch_day d -ℤ days_from_civil y 1 1)) (months_within y 11 (unsigned_abs (epoch_day d -ℤ days_from_civil y 1 1))) weekday (time_seconds dt.time)) (year_of_day-date d) in
    let of_month : minute_in_year d.year place (months_within d.year 11 place) weekday (time_seconds dt.time) ≡ minute_in_year d.year place (d.month - 1) weekday (time_seconds dt.time) =
    ap (λ m. minute_in_year d.year place m weekday (time_seconds dt.time)) (months_shown d) in
    of_parts ∙ of_year ∙ of_month ∙ same_fields d.year d.year _ _ _ _ _ _ _ _ weekday weekday refl
    (omega (arith, d.month_in)) (omega (arith, place_shown d, d.day_in)) (omega arith) (omega arith) refl

-- a small number comes back from eight bits as it was
pub small_back : (n : ℕ) → n < 128 → unsigned_abs (to_z w8 (of_z w8 (pos n))) ≡ n
small_back n h = ap unsigned_abs (back_small w8 (pos n) h)
