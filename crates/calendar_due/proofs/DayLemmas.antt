-- Days on which no entry is.
use Rattle.std.proofs.Common.{◌≡◌, ℕ, ◌+◌, ◌<◌, Bool, true, false, ◌||◌, ◌&&◌, ◌==◌, List, [], ◌∷◌, length, Option, Some, None, refl, sym, ap, ◌∙◌, take, get_or}
use Rattle.std.proofs.lemmas.Bool.{eqb-true}
use Rattle.std.proofs.lemmas.List.Folds.{list_any_more, list_any_at}
use Rattle.std.specs.List.{list_any}
use Rattle.history_model.specs.declared.Entry.{Entry}
use Rattle.history_model.specs.declared.CivilMinute.{CivilMinute}
use Rattle.history_model.specs.Calendar.{matches, allows, allows_day, is_weekday}
use Rattle.history_model.proofs.BooleanLemmas.{false-or}
use Rattle.calendar_due.specs.Days.{is_on_day, is_same_day, is_of_day, IsIdle}

last-two : (a c d : Bool) → (c && d) ≡ false → (a && c && d) ≡ false
last-two true c d e = e
last-two false c d e = refl

-- an entry matches no minute of a day that it is not on
other-day : (entry : Entry) (at : CivilMinute) → is_on_day entry at ≡ false → matches entry at ≡ false
other-day entry at e =
    last-two (allows entry.minute at.minute && allows entry.hour at.hour) (allows entry.month at.month) (allows_day entry.day entry.weekday at) e

same-allowed : (day weekday : Option ℕ) (one other : CivilMinute) → one.day ≡ other.day → one.weekday ≡ other.weekday
    → allows_day day weekday one ≡ allows_day day weekday other
same-allowed None None one other d w = refl
same-allowed None (Some m) one other d w = ap (λ x. is_weekday (Some m) x) w
same-allowed (Some n) None one other d w = ap (λ x. (n == x) && true) d
same-allowed (Some n) (Some m) one other d w = ap (λ x. (n == x) || is_weekday (Some m) one.weekday) d ∙ ap (λ x. (n == other.day) || is_weekday (Some m) x) w

both : (a b : Bool) → (a && b) ≡ true → (a ≡ true) × (b ≡ true)
both true b e = (refl, e)
both false b e = cc

same-day : (entry : Entry) (one other : CivilMinute) → is_same_day one other ≡ true → is_on_day entry one ≡ is_on_day entry other
same-day entry one other e =
    let (first, weekday) = both (one.month == other.month && one.day == other.day) (one.weekday == other.weekday) e in
    let (month, day) = both (one.month == other.month) (one.day == other.day) first in
    ap (λ x. allows entry.month x && allows_day entry.day entry.weekday one) (eqb-true one.month other.month month)
    ∙ ap (λ b. allows entry.month other.month && b) (same-allowed entry.day entry.weekday one other (eqb-true one.day other.day day) (eqb-true one.weekday other.weekday weekday))

neither : (a b : Bool) → (a || b) ≡ false → (a ≡ false) × (b ≡ false)
neither true b e = cc
neither false b e = (refl, e)

-- no entry matches a minute of an idle day
pub idle-minute : (entries : List Entry) (day minute : CivilMinute) → list_any (λ entry. is_on_day entry day) entries ≡ false → is_same_day day minute ≡ true
    → list_any (λ entry. matches entry minute) entries ≡ false
idle-minute [] day minute none same = refl
idle-minute (entry ∷ entries) day minute none same =
    let (first, others) = neither (is_on_day entry day) (list_any (λ entry. is_on_day entry day) entries) none in
    false-or (matches entry minute) (list_any (λ entry. matches entry minute) entries)
    (other-day entry minute (sym (same-day entry day minute same) ∙ first)) (idle-minute entries day minute others same)

pub idle-of : (entries : List Entry) (day : Option CivilMinute) (minute : CivilMinute) → IsIdle entries day → is_of_day day minute ≡ true
    → list_any (λ entry. matches entry minute) entries ≡ false
idle-of entries None minute idle of = cc
idle-of entries (Some day) minute idle of = idle-minute entries day minute idle of

-- one minute more, which no entry matches
pub one-more : (none : CivilMinute) (entries : List Entry) (minutes : List CivilMinute) (i : ℕ) → i < length minutes
    → list_any (λ minute. list_any (λ entry. matches entry minute) entries) (take i minutes) ≡ false
    → list_any (λ entry. matches entry (get_or minutes i none)) entries ≡ false
    → list_any (λ minute. list_any (λ entry. matches entry minute) entries) (take (i + 1) minutes) ≡ false
one-more none entries minutes i below so_far here =
    let any : CivilMinute → Bool = λ minute. list_any (λ entry. matches entry minute) entries in
    list_any_more any minutes i none below ∙ false-or (list_any any (take i minutes)) (any (get_or minutes i none)) so_far here

-- an entry matches a minute of the list
pub one-found : (none : CivilMinute) (entries : List Entry) (minutes : List CivilMinute) (i : ℕ) → i < length minutes
    → list_any (λ entry. matches entry (get_or minutes i none)) entries ≡ true
    → true ≡ list_any (λ minute. list_any (λ entry. matches entry minute) entries) minutes
one-found none entries minutes i below here =
    sym (list_any_at (λ minute. list_any (λ entry. matches entry minute) entries) minutes i none below here)
