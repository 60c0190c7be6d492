-- What a clock shows is digits and signs alone.
use Rattle.std.proofs.Common.{◌≡◌, ℕ, ◌+◌, ◌++◌, ◌∷◌, [], ◌∙◌, ◌<◌, ◌≤◌, ◌/◌, ◌%◌, ◌^◌, ◌&&◌, List, Bool, true, ap, sym, subst, arith, refl}
use Rattle.std.specs.Fmt.{decimal}
use Rattle.std.specs.Prelude.{codes, unsigned_abs}
use Rattle.std.specs.List.{list_all}
use Rattle.std.proofs.lemmas.Bool.Decides.{nat_tests}
use Rattle.std.proofs.lemmas.Fmt.{decimal_by_steps}
use Rattle.std.proofs.lemmas.List.Folds.{list_all-append}
use Rattle.history_model.specs.declared.CivilMinute.{CivilMinute}
use Rattle.run_times.specs.declared.writer.TextWriter.{TextWriter}
use Rattle.run_times.specs.Written.{Adds}
use Rattle.run_times.specs.ClockTexts.{IsClockText, TellsClock, date_text, hour_text, is_clock_char, offset_text, two_digits}
use Rattle.run_times.proofs.GrowingLemmas.{adds_on}

-- all of them may be in it
abbrev AreClock : List ℕ → Type 0
AreClock text = list_all is_clock_char text ≡ true

both : (one other : List ℕ) → AreClock one → AreClock other → AreClock (one ++ other)
both one other first second = list_all-append is_clock_char one other ∙ ap (λ b. b && list_all is_clock_char other) first ∙ second

digit : (n : ℕ) → n < 10 → AreClock ((48 + n) ∷ [])
digit n small = grind (arith, nat_tests)

number : (n : ℕ) → n < 2 ^ 64 → AreClock (decimal n)
number = decimal_by_steps (λ n ds. AreClock ds) digit (λ n ds far before. both ds _ before (digit (n % 10) (omega arith)))

two : (n : ℕ) → AreClock (two_digits n)
two n = both (decimal (n / 10 % 10)) (decimal (n % 10)) (number (n / 10 % 10) (omega arith)) (number (n % 10) (omega arith))

date : (at : CivilMinute) → AreClock (date_text at)
date at =
    both (two_digits (unsigned_abs at.year / 100))
    (two_digits (unsigned_abs at.year % 100) ++ (codes "-" ++ (two_digits at.month ++ (codes "-" ++ two_digits at.day))))
    (two (unsigned_abs at.year / 100))
    (both (two_digits (unsigned_abs at.year % 100)) (codes "-" ++ (two_digits at.month ++ (codes "-" ++ two_digits at.day)))
    (two (unsigned_abs at.year % 100))
    (both (codes "-") (two_digits at.month ++ (codes "-" ++ two_digits at.day)) refl
    (both (two_digits at.month) (codes "-" ++ two_digits at.day) (two at.month)
    (both (codes "-") (two_digits at.day) refl (two at.day)))))

time : (at : CivilMinute) (second : ℕ) → AreClock (hour_text at second)
time at second =
    both (codes "T") (two_digits at.hour ++ (codes ":" ++ (two_digits at.minute ++ (codes ":" ++ two_digits (second % 60))))) refl
    (both (two_digits at.hour) (codes ":" ++ (two_digits at.minute ++ (codes ":" ++ two_digits (second % 60)))) (two at.hour)
    (both (codes ":") (two_digits at.minute ++ (codes ":" ++ two_digits (second % 60))) refl
    (both (two_digits at.minute) (codes ":" ++ two_digits (second % 60)) (two at.minute)
    (both (codes ":") (two_digits (second % 60)) refl (two (second % 60))))))

ahead : (sign : List ℕ) (minutes : ℕ) → AreClock sign → AreClock (offset_text sign minutes)
ahead sign minutes signed =
    both sign (two_digits (minutes / 60) ++ (codes ":" ++ two_digits (minutes % 60))) signed
    (both (two_digits (minutes / 60)) (codes ":" ++ two_digits (minutes % 60)) (two (minutes / 60))
    (both (codes ":") (two_digits (minutes % 60)) refl (two (minutes % 60))))

-- a day, a time of it and an offset, one after the other
pub tells_clock : (at here : CivilMinute) (second minutes : ℕ) (sign : List ℕ) (a b c d : TextWriter) → at ≡ here → list_all is_clock_char sign ≡ true
    → Adds (date_text at) a b → Adds (hour_text at second) b c → Adds (offset_text sign minutes) c d → TellsClock here second a d
tells_clock at here second minutes sign a b c d same signed day hour offset = subst (λ at. TellsClock at second a d) same (
  date_text at ++ (hour_text at second ++ offset_text sign minutes),
  record {
    offset = offset_text sign minutes;
    whole = refl;
    plain = both (date_text at) (hour_text at second ++ offset_text sign minutes) (date at)
        (both (hour_text at second) (offset_text sign minutes) (time at second) (ahead sign minutes signed));
  },
  adds_on (date_text at) (hour_text at second ++ offset_text sign minutes) a b d day
      (adds_on (hour_text at second) (offset_text sign minutes) b c d hour offset),
)
