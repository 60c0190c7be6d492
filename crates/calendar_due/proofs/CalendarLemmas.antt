-- Searches of the entries through a list of minutes.
use Rattle.std.proofs.Common.{◌≡◌, ◌⊎◌, inl, inr, ℕ, zero, suc, Bool, true, false, ◌||◌, ◌==◌, List, [], ◌∷◌, length, map, refl, sym, ap, ◌∙◌, arith}
use Rattle.std.proofs.lemmas.Bool.{cases_Bool, eqb-true}
use Rattle.std.specs.List.{list_any, Contains}
use Rattle.history_model.specs.declared.Entry.{Entry}
use Rattle.history_model.specs.declared.CivilMinute.{CivilMinute}
use Rattle.history_model.specs.Calendar.{Zone, IsCrossed, matches, crossed, calendar_fires}
use Rattle.calendar_due.specs.Offsets.{Offsets, shown_by}
use Rattle.history_model.proofs.BooleanLemmas.{or-true}
use Rattle.history_model.proofs.CrossedMinutesLemmas.{members}

-- no entry matches some of the minutes
pub nothing_matches : (entries : List Entry) (minutes : List CivilMinute) → length entries ≡ 0
    → list_any (λ minute. list_any (λ entry. matches entry minute) entries) minutes ≡ false
nothing_matches [] [] none = refl
nothing_matches [] (minute ∷ minutes) none = nothing_matches [] minutes none
nothing_matches (entry ∷ entries) minutes none = absurd (omega arith)

-- a search through what a function makes of a list
list_any-map : {A B : Type 0} (p : B → Bool) (f : A → B) (xs : List A) → list_any p (map f xs) ≡ list_any (λ x. p (f x)) xs
list_any-map p f [] = refl
list_any-map p f (x ∷ xs) = ap (λ b. p (f x) || b) (list_any-map p f xs)

-- what is found among the crossed minutes fires the calendar
pub found-calendar_fires : (zone : Zone) (entries : List Entry) (previous now : ℕ) (minutes : List CivilMinute) (found : Bool) → minutes ≡ map zone (crossed previous now)
    → found ≡ list_any (λ minute. list_any (λ entry. matches entry minute) entries) minutes → found ≡ calendar_fires zone entries previous now
found-calendar_fires zone entries previous now minutes found are is =
    is ∙ ap (list_any (λ minute. list_any (λ entry. matches entry minute) entries)) are
    ∙ list_any-map (λ minute. list_any (λ entry. matches entry minute) entries) zone (crossed previous now)

-- a search finds a number that is there
pub any_of : (p : ℕ → Bool) (xs : List ℕ) (m : ℕ) → list_any (λ c. c == m) xs ≡ true → p m ≡ true → list_any p xs ≡ true
any_of p [] m found passes = cc
any_of p (x ∷ xs) m found passes = elim (cases_Bool (x == m)) [
  | inl same ↦ ap (λ z. p z || list_any p xs) (eqb-true x m same) ∙ ap (λ b. b || list_any p xs) passes
  | inr other ↦ ap (λ b. p x || b) (any_of p xs m (ap (λ b. b || list_any (λ c. c == m) xs) (sym other) ∙ found) passes) ∙ or-true (p x)
]

-- what is in a list that a function made is made of an element
pub mapped_from : {A B : Type 0} (f : A → B) (xs : List A) (y : B) → Contains (map f xs) y → (x : A) × (f x ≡ y)
mapped_from f [] y (k, below, is) = absurd (omega arith)
mapped_from f (x ∷ xs) y (zero, below, is) = (x, is)
mapped_from f (x ∷ xs) y (suc k, below, is) = mapped_from f xs y (k, omega arith, is)

-- an entry that matches what the clock shows at two seconds fires if either is crossed
pub showing_fires : (ahead : Offsets) (first second : ℕ) (at : CivilMinute) → shown_by ahead first ≡ at → shown_by ahead second ≡ at
    → (entry : Entry) (previous now : ℕ) → matches entry at ≡ true → IsCrossed previous now first ⊎ IsCrossed previous now second
    → calendar_fires (shown_by ahead) (entry ∷ []) previous now ≡ true
showing_fires ahead first second at one two entry previous now matched is_crossed =
    let test : ℕ → Bool = λ m. list_any (λ e. matches e (shown_by ahead m)) (entry ∷ []) in
    let found : (m : ℕ) → shown_by ahead m ≡ at → IsCrossed previous now m → calendar_fires (shown_by ahead) (entry ∷ []) previous now ≡ true = λ (m : ℕ) (shows : shown_by ahead m ≡ at) (is : IsCrossed previous now m).
    any_of test (crossed previous now) m ((members previous now m).1 is) (ap (λ x. list_any (λ e. matches e x) (entry ∷ [])) shows ∙ ap (λ b. b || false) matched) in
    elim is_crossed [ inl is ↦ found first one is | inr is ↦ found second two is ]
