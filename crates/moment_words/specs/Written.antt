-- How times are written: a second of Unix time; yesterday, today or a date, each also with a time of day after it. Also a span
-- before now, and a time of day alone.
use Rattle.std.specs.Prelude.{ℕ, ◌+◌, ◌-◌, ◌*◌, Bool, true, false, ◌&&◌, ◌||◌, List, [], ◌∷◌, length, drop, Option, Some, None, option_map, pos, codes, nat_eq, nat_lt, nat_le, ◌==◌, if◌then◌else◌, slice_index, slice_range}
use Rattle.std.specs.Char.{is_ascii_digit}
use Rattle.std.specs.List.{list_all, starts_with}
use Rattle.history_model.specs.declared.TheConstants.{MAX_WALL}
use Rattle.history_model.specs.declared.CivilMinute.{CivilMinute}
use Rattle.moment_words.specs.declared.meaning.Time.{Time}
use Rattle.moment_words.specs.declared.meaning.Moment.{Moment}
use Rattle.moment_words.specs.declared.meaning.Moment.TheVariants.{Second, Ago, OfToday, OfYesterday, OfDate}

-- the decimal number that the digits are, after those that write the first number
abbrev pub value_behind : ℕ → List ℕ → ℕ
value_behind value [] = value
value_behind value (digit ∷ digits) = value_behind (value * 10 + (digit - 48)) digits

abbrev pub are_digits : List ℕ → Bool
are_digits text = nat_lt 0 (length text) && list_all is_ascii_digit text

-- the decimal number that the text is, if it is at most `most`
abbrev pub number_of : List ℕ → ℕ → Option ℕ
number_of text most =
    if nat_le (value_behind 0 text) most && are_digits text then Some (value_behind 0 text) else None

-- the number of the two digits, if it is below the bound
abbrev pub two_digit_number : List ℕ → ℕ → Option ℕ
two_digit_number digits bound =
    if (is_ascii_digit (slice_index digits 0) && is_ascii_digit (slice_index digits 1))
    && nat_lt ((slice_index digits 0 - 48) * 10 + (slice_index digits 1 - 48)) bound
    then Some ((slice_index digits 0 - 48) * 10 + (slice_index digits 1 - 48)) else None

-- a second, a minute, an hour, a day and a week, in seconds
abbrev pub unit_seconds : ℕ → Option ℕ
unit_seconds unit =
    if unit == 0x73 then Some 1
    else if unit == 0x6D then Some 60
    else if unit == 0x68 then Some (60 * 60)
    else if unit == 0x64 then Some (24 * 3_600)
    else if unit == 0x77 then Some (7 * 86_400)
    else None

-- the product of the number and the unit
abbrev pub times : Option ℕ → Option ℕ → Option ℕ
times (Some count) (Some seconds) = Some (count * seconds)
times _ _ = None

abbrev pub span_of : List ℕ → ℕ → Option ℕ
span_of digits unit = times (number_of digits MAX_WALL) (unit_seconds unit)

-- the time of this hour, this minute and this second
abbrev pub time_from : Option ℕ → Option ℕ → Option ℕ → Option Time
time_from (Some hour) (Some minute) (Some second) =
    Some (record { hour = hour; minute = minute; second = second })
time_from _ _ _ = None

abbrev pub time_by : List ℕ → List ℕ → List ℕ → Option Time
time_by hour minute second =
    time_from (two_digit_number hour 24) (two_digit_number minute 60) (two_digit_number second 60)

-- the two bytes from there on
abbrev pub pair_at : List ℕ → ℕ → List ℕ
pair_at text at = slice_index text at ∷ slice_index text (at + 1) ∷ []

-- HH:MM or HH:MM:SS
abbrev pub time_of_day : List ℕ → Option Time
time_of_day text =
    if (length text == 5) && (slice_index text 2 == 0x3A)
    then time_by (pair_at text 0) (pair_at text 3) (0x30 ∷ 0x30 ∷ [])
    else if (length text == 8) && (slice_index text 2 == 0x3A) && (slice_index text 5 == 0x3A)
    then time_by (pair_at text 0) (pair_at text 3) (pair_at text 6)
    else None

-- a time after a space or a T; midnight if there is no text
abbrev pub time_after : List ℕ → Option Time
time_after [] = Some (record { hour = 0; minute = 0; second = 0 })
time_after (between ∷ text) =
    if (between == 0x20) || (between == 0x54) then time_of_day text else None

-- the date of this century, this year in it, this month and this day; from 1970 to 9899
abbrev pub date_from : Option ℕ → Option ℕ → Option ℕ → Option ℕ → Option CivilMinute
date_from (Some century) (Some year) (Some month) (Some day) =
    if nat_lt (century * 100 + year) 1970 then None
    else Some (record { year = pos (century * 100 + year); month = month; day = day; hour = 0; minute = 0; weekday = 0 })
date_from _ _ _ _ = None

abbrev pub date_by : List ℕ → List ℕ → List ℕ → List ℕ → Option CivilMinute
date_by century year month day =
    date_from (two_digit_number century 99) (two_digit_number year 100) (two_digit_number month 13)
    (two_digit_number day 32)

abbrev pub at_time : Option CivilMinute → Option Time → Option Moment
at_time (Some date) (Some time) = Some (OfDate date time)
at_time _ _ = None

-- YYYY-MM-DD with a time after it
abbrev pub begins_date : List ℕ → Bool
begins_date text = (nat_le 10 (length text) && (slice_index text 4 == 0x2D)) && (slice_index text 7 == 0x2D)

abbrev pub of_date : List ℕ → Option Moment
of_date text =
    at_time (date_by (pair_at text 0) (pair_at text 2) (pair_at text 5) (pair_at text 8)) (time_after (drop 10 text))

-- a time of today
abbrev pub of_today : List ℕ → Option Moment
of_today text = option_map OfToday (time_of_day text)

abbrev pub dated : List ℕ → Option Moment
dated text = if begins_date text then of_date text else of_today text

-- a minus, digits and a unit
abbrev pub begins_span : List ℕ → Bool
begins_span text = nat_le 2 (length text) && (slice_index text 0 == 0x2D)

abbrev pub ago : List ℕ → Option Moment
ago text =
    option_map Ago (span_of (slice_range text 1 (length text - 1)) (slice_index text (length text - 1)))

abbrev pub spanned : List ℕ → Option Moment
spanned text = if begins_span text then ago text else dated text

-- yesterday or today with a time after it, or else one of the others
abbrev pub worded : List ℕ → Option Moment
worded text =
    if starts_with nat_eq text (codes "yesterday") then option_map OfYesterday (time_after (drop 9 text))
    else if starts_with nat_eq text (codes "today") then option_map OfToday (time_after (drop 5 text))
    else spanned text

-- that second, or else the other moment
abbrev pub second_or : Option ℕ → Option Moment → Option Moment
second_or (Some second) other = Some (Second second)
second_or None other = other

-- the moment that the text names, if it names one
abbrev pub moment_in : List ℕ → Option Moment
moment_in text = second_or (number_of text MAX_WALL) (worded text)
