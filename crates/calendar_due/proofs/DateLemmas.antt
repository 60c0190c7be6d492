-- The date of a day number: that it leads back to the day, and that it is on the calendar.
use Rattle.std.proofs.Common.{◌≡◌, ◌<◌, ◌≤◌, inl, inr, ℕ, zero, suc, ◌+◌, ◌-◌, ◌*◌, ◌/◌, ◌%◌, ℤ, pos, neg_ℤ, ◌+ℤ◌, ◌-ℤ◌, ◌*ℤ◌, ◌≤ℤ◌, ◌<ℤ◌, unsigned_abs, refl, ap, ◌∙◌, arith}
use Rattle.std.proofs.lemmas.Bool.Decides.{leb_tells}
use Rattle.std.specs.Int.{int_div_euclid, int_rem_euclid}
use Rattle.jiff.proofs.SpanFacts.{signed_arith}
use Rattle.jiff_core.specs.Calendar.{days_of_years, days_of_months, days_from_civil, day_count, days_in_year, days_in_month}
use Rattle.jiff_core.proofs.CalendarLemmas.{days_from_civil-day_count, days_of_months-zero, days_of_months_all, day_count-end, days_of_months_more}
use Rattle.jiff_tz.specs.Year.{years_within, year_of_day}
use Rattle.calendar_due.specs.Minute.{months_within, place_in_year, shown_minute, IsCivil}
use Rattle.calendar_due.specs.Changes.{start_of}
use Rattle.calendar_due.proofs.MinuteLemmas.{nonneg_abs}

-- the years that fit have no more days than that
years_fit : (n count : ℕ) → days_of_years (years_within n count) ≤ count
unfolding years_within days_of_years
years_fit zero count = omega arith
years_fit (suc n) count = elim (leb_tells (days_of_years (suc n)) count) [
  | inl fits ↦ rw fits.0 fits.1
  | inr over ↦ rw over.0 (years_fit n count)
]

-- and so have the months that fit
months_fit : (y : ℤ) (n days : ℕ) → days_of_months y (months_within y n days) ≤ days
unfolding months_within days_of_months
months_fit y zero days = omega arith
months_fit y (suc n) days = elim (leb_tells (days_of_months y (suc n)) days) [
  | inl fits ↦ rw fits.0 fits.1
  | inr over ↦ rw over.0 (months_fit y n days)
]

years_back : (years : ℕ) → unsigned_abs (pos years -ℤ pos 10000 +ℤ pos 10000) ≡ years
years_back years = let same = nonneg_abs (pos years -ℤ pos 10000 +ℤ pos 10000) (omega (arith, signed_arith)) in omega (arith, signed_arith)

-- the day number of the parts of a date: the years before it, the months before it and the place in the year
day_of_parts : (day y : ℤ) (years months place count : ℕ) → pos count ≡ day +ℤ pos 4_371_953 → y ≡ pos years -ℤ pos 10000 → days_of_years years + place ≡ count
    → days_of_months y months ≤ place → days_from_civil y (months + 1) (place - days_of_months y months + 1) ≡ day
unfolding day_count
day_of_parts day y years months place count of_count of_year sum fits =
    let d : ℕ = place - days_of_months y months + 1 in
    let number = days_from_civil-day_count y (months + 1) d in
    let parts : day_count y (months + 1) d ≡ days_of_years (unsigned_abs (y +ℤ pos 10000)) + (days_of_months y (months + 1 - 1) + d - 1) = refl in
    let same_years : unsigned_abs (y +ℤ pos 10000) ≡ years = ap (λ z. unsigned_abs (z +ℤ pos 10000)) of_year ∙ years_back years in
    let same_months : months + 1 - 1 ≡ months = omega arith in
    let all_years = ap days_of_years same_years in
    let all_months = ap (days_of_months y) same_months in
    omega (arith, signed_arith)

-- how many days of its year come before a day
place_of_day : (day : ℤ) (years count : ℕ) → pos count ≡ day +ℤ pos 4_371_953 → days_of_years years ≤ count
    → days_of_years years + unsigned_abs (day -ℤ days_from_civil (pos years -ℤ pos 10000) 1 1) ≡ count
unfolding day_count
place_of_day day years count of_count fits =
    let y : ℤ = pos years -ℤ pos 10000 in
    let first : ℤ = days_from_civil y 1 1 in
    let number = days_from_civil-day_count y 1 1 in
    let parts : day_count y 1 1 ≡ days_of_years (unsigned_abs (y +ℤ pos 10000)) + (days_of_months y 0 + 1 - 1) = refl in
    let none = days_of_months-zero y in
    let same_years : unsigned_abs (y +ℤ pos 10000) ≡ years = years_back years in
    let all_years = ap days_of_years same_years in
    let from_first = nonneg_abs (day -ℤ first) (omega (arith, signed_arith)) in
    omega (arith, signed_arith)

-- the day that a date names is the day that it was read off
day_of_date : (day : ℤ) → neg_ℤ (pos 4_371_953) ≤ℤ day →
    days_from_civil (year_of_day day) (months_within (year_of_day day) 11 (place_in_year day) + 1) (place_in_year day - days_of_months (year_of_day day) (months_within (year_of_day day) 11 (place_in_year day)) + 1) ≡ day
day_of_date day low =
    let count : ℕ = unsigned_abs (day +ℤ pos 4_371_953) in
    let years : ℕ = years_within 20000 count in
    let of_count = nonneg_abs (day +ℤ pos 4_371_953) (omega (arith, signed_arith)) in
    day_of_parts day (year_of_day day) years (months_within (year_of_day day) 11 (place_in_year day)) (place_in_year day) count of_count refl
    (place_of_day day years count of_count (years_fit 20000 count)) (months_fit (year_of_day day) 11 (place_in_year day))

-- the civil minute of a second of the clock starts at most 59 seconds before it
pub start_of-shown_minute : (shown : ℤ) → neg_ℤ (pos 93_599) ≤ℤ shown → (start_of (shown_minute shown) ≤ℤ shown) × (shown <ℤ (start_of (shown_minute shown) +ℤ pos 60))
start_of-shown_minute shown low =
    let day : ℤ = int_div_euclid shown (pos 86400) in
    let second : ℕ = unsigned_abs (int_rem_euclid shown (pos 86400)) in
    let date = day_of_date day (omega (arith, signed_arith)) in
    let start : start_of (shown_minute shown) ≡ day *ℤ pos 86400 +ℤ pos (second / 3600 * 3600 + second / 60 % 60 * 60) =
    ap (λ d. d *ℤ pos 86400 +ℤ pos (second / 3600 * 3600 + second / 60 % 60 * 60)) date in
    (omega (arith, signed_arith), omega (arith, signed_arith))

years_step : (n : ℕ) → days_of_years (suc n) ≡ days_of_years n + days_in_year (pos n -ℤ pos 10000)
unfolding days_of_years
years_step n = refl

-- one more year would have too many days
years_full : (n count : ℕ) → count < days_of_years (suc n) → count < days_of_years (suc (years_within n count))
unfolding years_within
years_full zero count less = less
years_full (suc n) count less = elim (leb_tells (days_of_years (suc n)) count) [
  | inl fits ↦ rw fits.0 less
  | inr over ↦ rw over.0 (years_full n count over.1)
]

-- and so would one more month
months_full : (y : ℤ) (n days : ℕ) → days < days_of_months y (suc n) → days < days_of_months y (suc (months_within y n days))
unfolding months_within
months_full y zero days less = less
months_full y (suc n) days less = elim (leb_tells (days_of_months y (suc n)) days) [
  | inl fits ↦ rw fits.0 less
  | inr over ↦ rw over.0 (months_full y n days over.1)
]

months_bound : (y : ℤ) (n days : ℕ) → months_within y n days ≤ n
unfolding months_within
months_bound y zero days = omega arith
months_bound y (suc n) days = elim (leb_tells (days_of_months y (suc n)) days) [
  | inl fits ↦ rw fits.0 (omega arith)
  | inr over ↦ rw over.0 (omega (arith, months_bound y n days))
]

-- the days from the year -10000 to the year 10000
all_years : days_of_years 20000 ≡ 7_304_850
unfolding day_count
all_years =
    let parts : day_count (pos 10000) 1 1 ≡ days_of_years 20000 + (days_of_months (pos 10000) 0 + 1 - 1) = refl in
    let none = days_of_months-zero (pos 10000) in
    omega (arith, day_count-end)

-- the day of the month that a day's place in its year gives is a day of that month
day_in_month : (y : ℤ) (place : ℕ) → place < days_in_year y →
    place - days_of_months y (months_within y 11 place) + 1 ≤ days_in_month y (months_within y 11 place + 1)
day_in_month y place less =
    let months : ℕ = months_within y 11 place in
    let fits = months_fit y 11 place in
    let full = months_full y 11 place (omega (arith, days_of_months_all y)) in
    let more = days_of_months_more y (suc months) (omega arith) in
    let same : suc months - 1 ≡ months = omega arith in
    let also : suc months ≡ months + 1 = omega arith in
    let before = ap (days_of_months y) same in
    let month = ap (days_in_month y) also in
    omega arith

-- the place of a day of the years up to 9999 is within its year
place_in_bounds : (day : ℤ) → neg_ℤ (pos 4_371_953) ≤ℤ day → day <ℤ pos 2_932_897 → place_in_year day < days_in_year (year_of_day day)
place_in_bounds day low high =
    let count : ℕ = unsigned_abs (day +ℤ pos 4_371_953) in
    let years : ℕ = years_within 20000 count in
    let of_count = nonneg_abs (day +ℤ pos 4_371_953) (omega (arith, signed_arith)) in
    let sum = place_of_day day years count of_count (years_fit 20000 count) in
    let step = years_step 20000 in
    let few : count < 7_304_850 = omega (arith, signed_arith) in
    let full = years_full 20000 count (omega (arith, all_years)) in
    let next = years_step years in
    omega arith

-- what the clock shows up to the year 9999 is a minute of the calendar
pub shown_minute-civil : (shown : ℤ) → neg_ℤ (pos 93_599) ≤ℤ shown → shown ≤ℤ pos 250_000_093_599 → IsCivil (shown_minute shown)
shown_minute-civil shown low high =
    let day : ℤ = int_div_euclid shown (pos 86400) in
    let second : ℕ = unsigned_abs (int_rem_euclid shown (pos 86400)) in
    let y : ℤ = year_of_day day in
    let place = place_in_bounds day (omega (arith, signed_arith)) (omega (arith, signed_arith)) in
    let months = months_bound y 11 (place_in_year day) in
    let within : second < 86400 = omega (arith, signed_arith) in
    record {
      month = (omega arith, omega arith);
      day = (omega arith, day_in_month y (place_in_year day) place);
      hour = omega arith;
      minute = omega arith;
      weekday = omega arith;
    }
