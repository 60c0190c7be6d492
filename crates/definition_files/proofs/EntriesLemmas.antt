-- The entries of a line match what the line matches.
use Rattle.std.proofs.Common.{◌≡◌, ℕ, Bool, true, false, not, ◌||◌, ◌&&◌, ◌==◌, List, [], ◌∷◌, ◌++◌, map, Option, Some, None, refl, sym, ap, ◌∙◌, if◌then◌else◌}
use Rattle.std.specs.List.{list_any, flat_map}
use Rattle.std.proofs.lemmas.List.Folds.{list_any-append}
use Rattle.history_model.specs.declared.Entry.{Entry}
use Rattle.history_model.specs.declared.CivilMinute.{CivilMinute}
use Rattle.history_model.specs.Calendar.{matches, allows, is_weekday, allows_day}
use Rattle.definition_files.specs.Fields.{has, has_weekday, suits_day}
use Rattle.definition_files.specs.Entries.{choices, by_day, by_weekday, by_days, by_weekdays, days_of, entry_at, of_days, of_months, of_hours, entries_of, is_both, with, times, AreOf}
use Rattle.definition_files.specs.declared.cron.fields.Field.{Field}
use Rattle.definition_files.specs.declared.cron.fields.Fields.{Fields}
use Rattle.definition_files.specs.declared.cron.entries.Part.{Part}
use Rattle.definition_files.specs.declared.cron.entries.Part.TheVariants.{Minute, Hour, Day, Month, Weekday}

-- ---- searches

any-of-map : {A B : Type 0} (p : B → Bool) (f : A → B) (xs : List A) → list_any p (map f xs) ≡ list_any (λ x. p (f x)) xs
any-of-map p f [] = refl
any-of-map p f (x ∷ xs) = ap (λ b. p (f x) || b) (any-of-map p f xs)

any-of-flat : {A B : Type 0} (p : B → Bool) (f : A → List B) (xs : List A) → list_any p (flat_map f xs) ≡ list_any (λ x. list_any p (f x)) xs
any-of-flat p f [] = refl
any-of-flat p f (x ∷ xs) = list_any-append p (f x) (flat_map f xs) ∙ ap (λ b. list_any p (f x) || b) (any-of-flat p f xs)

any-same : {A : Type 0} (p q : A → Bool) (xs : List A) → ((x : A) → p x ≡ q x) → list_any p xs ≡ list_any q xs
any-same p q [] same = refl
any-same p q (x ∷ xs) same = ap (λ b. b || list_any p xs) (same x) ∙ ap (λ b. q x || b) (any-same p q xs same)

spread-left : (a b c : Bool) → ((a && b) || (a && c)) ≡ (a && (b || c))
spread-left true b c = refl
spread-left false b c = refl

spread-right : (a b c : Bool) → ((b && a) || (c && a)) ≡ ((b || c) && a)
spread-right a true true = or-self a where
  or-self : (a : Bool) → (a || a) ≡ a
  or-self true = refl
  or-self false = refl
spread-right a true false = or-none a where
  or-none : (a : Bool) → (a || false) ≡ a
  or-none true = refl
  or-none false = refl
spread-right a false c = refl

none-left : (a : Bool) → false ≡ (a && false)
none-left true = refl
none-left false = refl

any-left : {A : Type 0} (a : Bool) (p : A → Bool) (xs : List A) → list_any (λ x. a && p x) xs ≡ (a && list_any p xs)
any-left a p [] = none-left a
any-left a p (x ∷ xs) = ap (λ b. (a && p x) || b) (any-left a p xs) ∙ spread-left a (p x) (list_any p xs)

any-right : {A : Type 0} (a : Bool) (p : A → Bool) (xs : List A) → list_any (λ x. p x && a) xs ≡ (list_any p xs && a)
any-right a p [] = refl
any-right a p (x ∷ xs) = ap (λ b. (p x && a) || b) (any-right a p xs) ∙ spread-right a (p x) (list_any p xs)

-- ---- the fields

or-false-right : (a : Bool) → (a || false) ≡ a
or-false-right true = refl
or-false-right false = refl

-- what an entry may say of a field allows what the field has
chosen : (field : Field) (n : ℕ) → list_any (λ choice. allows choice n) (choices field) ≡ has field n
chosen field n = go field.is_every refl where
  go : (b : Bool) → field.is_every ≡ b → list_any (λ choice. allows choice n) (choices field) ≡ has field n
  go true e = rw e refl
  go false e = rw e (any-of-map (λ choice. allows choice n) (λ value. Some value) field.values.items)

chosen-weekday : (field : Field) (n : ℕ) → list_any (λ choice. is_weekday choice n) (choices field) ≡ has_weekday field n
chosen-weekday field n = go field.is_every refl where
  go : (b : Bool) → field.is_every ≡ b → list_any (λ choice. is_weekday choice n) (choices field) ≡ has_weekday field n
  go true e = rw e refl
  go false e = rw e (any-of-map (λ choice. is_weekday choice n) (λ value. Some value) field.values.items)

abbrev suits : CivilMinute → Entry → Bool
suits at days = allows_day days.day days.weekday at

and-true : (a : Bool) → (a && true) ≡ a
and-true true = refl
and-true false = refl

suits-by-day : (at : CivilMinute) (choice : Option ℕ) → suits at (by_day choice) ≡ allows choice at.day
suits-by-day at None = refl
suits-by-day at (Some d) = and-true (d == at.day)

suits-by-weekday : (at : CivilMinute) (choice : Option ℕ) → suits at (by_weekday choice) ≡ is_weekday choice at.weekday
suits-by-weekday at None = refl
suits-by-weekday at (Some d) = refl

any-by-day : (at : CivilMinute) (field : Field) → list_any (suits at) (map by_day (choices field)) ≡ has field at.day
any-by-day at field =
    any-of-map (suits at) by_day (choices field)
    ∙ any-same (λ choice. suits at (by_day choice)) (λ choice. allows choice at.day) (choices field) (suits-by-day at) ∙ chosen field at.day

any-by-weekday : (at : CivilMinute) (field : Field) → list_any (suits at) (map by_weekday (choices field)) ≡ has_weekday field at.weekday
any-by-weekday at field =
    any-of-map (suits at) by_weekday (choices field)
    ∙ any-same (λ choice. suits at (by_weekday choice)) (λ choice. is_weekday choice at.weekday) (choices field) (suits-by-weekday at) ∙ chosen-weekday field at.weekday

any-by-days : (at : CivilMinute) (fields : Fields) → is_both fields ≡ false → list_any (suits at) (days_of fields) ≡ suits_day fields at
any-by-days at fields single =
    list_any-append (suits at) (by_days fields) (by_weekdays fields) ∙ go fields.days.is_every fields.weekdays.is_every fields.is_either refl refl refl where
      go : (d w e : Bool) → fields.days.is_every ≡ d → fields.weekdays.is_every ≡ w → fields.is_either ≡ e
          → (list_any (suits at) (by_days fields) || list_any (suits at) (by_weekdays fields)) ≡ suits_day fields at
      go true w e isd isw ise = rw isd (any-by-weekday at fields.weekdays)
      go false true e isd isw ise =
          let named : (not fields.days.is_every && fields.weekdays.is_every) ≡ true = rw (isd, isw) refl in
          let either : (not fields.days.is_every && not fields.weekdays.is_every && fields.is_either) ≡ false = rw (isd, isw) refl in
          let each : has_weekday fields.weekdays at.weekday ≡ true = rw isw refl in
          ap (λ b. list_any (suits at) (if b then [] else map by_day (choices fields.days)) || list_any (suits at) (by_weekdays fields)) isd
          ∙ ap (λ b. b || list_any (suits at) (by_weekdays fields)) (any-by-day at fields.days)
          ∙ ap (λ b. has fields.days at.day || list_any (suits at) (if b then [] else map by_weekday (choices fields.weekdays))) named
          ∙ or-false-right (has fields.days at.day) ∙ sym (and-true (has fields.days at.day)) ∙ ap (λ b. has fields.days at.day && b) (sym each)
          ∙ sym (ap (λ b. if b then has fields.days at.day || has_weekday fields.weekdays at.weekday else has fields.days at.day && has_weekday fields.weekdays at.weekday) either)
      go false false true isd isw ise =
          let named : (not fields.days.is_every && fields.weekdays.is_every) ≡ false = rw (isd, isw) refl in
          let either : (not fields.days.is_every && not fields.weekdays.is_every && fields.is_either) ≡ true = rw (isd, isw, ise) refl in
          ap (λ b. list_any (suits at) (if b then [] else map by_day (choices fields.days)) || list_any (suits at) (by_weekdays fields)) isd
          ∙ ap (λ b. b || list_any (suits at) (by_weekdays fields)) (any-by-day at fields.days)
          ∙ ap (λ b. has fields.days at.day || list_any (suits at) (if b then [] else map by_weekday (choices fields.weekdays))) named
          ∙ ap (λ b. has fields.days at.day || b) (any-by-weekday at fields.weekdays)
          ∙ sym (ap (λ b. if b then has fields.days at.day || has_weekday fields.weekdays at.weekday else has fields.days at.day && has_weekday fields.weekdays at.weekday) either)
      go false false false isd isw ise = cc

-- ---- the line

module _ (fields : Fields) (at : CivilMinute) where
  abbrev any : List Entry → Bool
  any entries = list_any (λ entry. matches entry at) entries

  in-days : (minute hour month : Option ℕ) (days : List Entry)
      → any (of_days minute hour month days) ≡ (allows minute at.minute && allows hour at.hour && allows month at.month && list_any (suits at) days)
  in-days minute hour month days =
      any-of-map (λ entry. matches entry at) (entry_at minute hour month) days
      ∙ any-left (allows minute at.minute && allows hour at.hour && allows month at.month) (suits at) days

  in-months : (minute hour : Option ℕ) (months : List (Option ℕ)) (days : List Entry)
      → any (of_months minute hour months days)
      ≡ (allows minute at.minute && allows hour at.hour && list_any (λ month. allows month at.month) months && list_any (suits at) days)
  in-months minute hour months days =
      let both : Bool = allows minute at.minute && allows hour at.hour in
      let last : Bool = list_any (suits at) days in
      any-of-flat (λ entry. matches entry at) (λ month. of_days minute hour month days) months
      ∙ any-same (λ month. any (of_days minute hour month days)) (λ month. both && allows month at.month && last) months (λ month. in-days minute hour month days)
      ∙ any-right last (λ month. both && allows month at.month) months
      ∙ ap (λ b. b && last) (any-left both (λ month. allows month at.month) months)

  in-hours : (minute : Option ℕ) (hours months : List (Option ℕ)) (days : List Entry)
      → any (of_hours minute hours months days)
      ≡ (allows minute at.minute && list_any (λ hour. allows hour at.hour) hours && list_any (λ month. allows month at.month) months && list_any (suits at) days)
  in-hours minute hours months days =
      let first : Bool = allows minute at.minute in
      let month : Bool = list_any (λ month. allows month at.month) months in
      let last : Bool = list_any (suits at) days in
      any-of-flat (λ entry. matches entry at) (λ hour. of_months minute hour months days) hours
      ∙ any-same (λ hour. any (of_months minute hour months days)) (λ hour. first && allows hour at.hour && month && last) hours (λ hour. in-months minute hour months days)
      ∙ any-right last (λ hour. first && allows hour at.hour && month) hours
      ∙ ap (λ b. b && last) (any-right month (λ hour. first && allows hour at.hour) hours)
      ∙ ap (λ b. b && month && last) (any-left first (λ hour. allows hour at.hour) hours)

  in-minutes : (minutes hours months : List (Option ℕ)) (days : List Entry)
      → any (flat_map (λ minute. of_hours minute hours months days) minutes)
      ≡ (list_any (λ minute. allows minute at.minute) minutes && list_any (λ hour. allows hour at.hour) hours
      && list_any (λ month. allows month at.month) months && list_any (suits at) days)
  in-minutes minutes hours months days =
      let hour : Bool = list_any (λ hour. allows hour at.hour) hours in
      let month : Bool = list_any (λ month. allows month at.month) months in
      let last : Bool = list_any (suits at) days in
      any-of-flat (λ entry. matches entry at) (λ minute. of_hours minute hours months days) minutes
      ∙ any-same (λ minute. any (of_hours minute hours months days)) (λ minute. allows minute at.minute && hour && month && last) minutes
      (λ minute. in-hours minute hours months days)
      ∙ any-right last (λ minute. allows minute at.minute && hour && month) minutes
      ∙ ap (λ b. b && last) (any-right month (λ minute. allows minute at.minute && hour) minutes)
      ∙ ap (λ b. b && month && last) (any-right hour (λ minute. allows minute at.minute) minutes)

-- the entries of a line match exactly what the line matches
pub exact : (fields : Fields) (entries : List Entry) → is_both fields ≡ false → entries ≡ entries_of fields → AreOf fields entries
exact fields entries single are at =
    ap (list_any (λ entry. matches entry at)) are
    ∙ in-minutes fields at (choices fields.minutes) (choices fields.hours) (choices fields.months) (days_of fields)
    ∙ ap (λ b. b && list_any (λ hour. allows hour at.hour) (choices fields.hours) && list_any (λ month. allows month at.month) (choices fields.months)
    && list_any (suits at) (days_of fields)) (chosen fields.minutes at.minute)
    ∙ ap (λ b. has fields.minutes at.minute && b && list_any (λ month. allows month at.month) (choices fields.months) && list_any (suits at) (days_of fields))
    (chosen fields.hours at.hour)
    ∙ ap (λ b. has fields.minutes at.minute && has fields.hours at.hour && b && list_any (suits at) (days_of fields)) (chosen fields.months at.month)
    ∙ ap (λ b. has fields.minutes at.minute && has fields.hours at.hour && has fields.months at.month && b) (any-by-days at fields single)

-- ---- the entries, part by part

map-append : {A B : Type 0} (f : A → B) (xs ys : List A) → map f (xs ++ ys) ≡ map f xs ++ map f ys
map-append f [] ys = refl
map-append f (x ∷ xs) ys = ap (λ zs. f x ∷ zs) (map-append f xs ys)

map-map : {A B C : Type 0} (f : B → C) (g : A → B) (xs : List A) → map f (map g xs) ≡ map (λ x. f (g x)) xs
map-map f g [] = refl
map-map f g (x ∷ xs) = ap (λ zs. f (g x) ∷ zs) (map-map f g xs)

flat-same : {A B : Type 0} (f g : A → List B) (xs : List A) → ((x : A) → f x ≡ g x) → flat_map f xs ≡ flat_map g xs
flat-same f g [] same = refl
flat-same f g (x ∷ xs) same = ap (λ ys. ys ++ flat_map f xs) (same x) ∙ ap (λ ys. g x ++ ys) (flat-same f g xs same)

map-flat : {A B C : Type 0} (f : B → C) (g : A → List B) (xs : List A) → map f (flat_map g xs) ≡ flat_map (λ x. map f (g x)) xs
map-flat f g [] = refl
map-flat f g (x ∷ xs) = map-append f (g x) (flat_map g xs) ∙ ap (λ ys. map f (g x) ++ ys) (map-flat f g xs)

map-times : (f : Entry → Entry) (part : Part) (choices : List (Option ℕ)) (entries : List Entry)
    → map f (times part choices entries) ≡ flat_map (λ choice. map (λ entry. f (with part choice entry)) entries) choices
map-times f part choices entries =
    map-flat f (λ choice. map (with part choice) entries) choices
    ∙ flat-same (λ choice. map f (map (with part choice) entries)) (λ choice. map (λ entry. f (with part choice entry)) entries) choices
    (λ choice. map-map f (with part choice) entries)

of-times : (minute : Option ℕ) (hours months : List (Option ℕ)) (days : List Entry)
    → map (with Minute minute) (times Hour hours (times Month months days)) ≡ of_hours minute hours months days
of-times minute hours months days =
    map-times (with Minute minute) Hour hours (times Month months days)
    ∙ flat-same (λ hour. map (λ entry. with Minute minute (with Hour hour entry)) (times Month months days)) (λ hour. of_months minute hour months days) hours
    (λ hour. map-times (λ entry. with Minute minute (with Hour hour entry)) Month months days)

-- each choice of the minutes, the hours, the months and the days makes the line's entries
pub all-times : (fields : Fields)
    → times Minute (choices fields.minutes) (times Hour (choices fields.hours) (times Month (choices fields.months) (days_of fields))) ≡ entries_of fields
all-times fields =
    flat-same (λ minute. map (with Minute minute) (times Hour (choices fields.hours) (times Month (choices fields.months) (days_of fields))))
    (λ minute. of_hours minute (choices fields.hours) (choices fields.months) (days_of fields)) (choices fields.minutes)
    (λ minute. of-times minute (choices fields.hours) (choices fields.months) (days_of fields))

single : {A B : Type 0} (f : A → B) (xs : List A) → flat_map (λ x. f x ∷ []) xs ≡ map f xs
single f [] = refl
single f (x ∷ xs) = ap (λ ys. f x ∷ ys) (single f xs)

-- a blank entry with each choice of a day, or of a weekday
pub days-alone : (choices : List (Option ℕ)) → times Day choices (by_day None ∷ []) ≡ map by_day choices
days-alone choices = single by_day choices

pub weekdays-alone : (choices : List (Option ℕ)) → times Weekday choices (by_day None ∷ []) ≡ map by_weekday choices
weekdays-alone choices = single by_weekday choices
