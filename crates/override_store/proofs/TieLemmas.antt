-- The tie between rows and a list of settings.
use Rattle.std.proofs.Common.{◌≡◌, ◌≢◌, inl, inr, ℕ, List, [], ◌∷◌, map, reverse, Bool, true, false, cond, Option, Some, option_map, refl, sym, ap, subst, ◌∙◌}
use Rattle.std.specs.Prelude.{if◌then◌else◌}
use Rattle.std.specs.List.{AllZip, filter}
use Rattle.std.proofs.lemmas.List.Sorted.{IsPermutation-sym, IsPermutation-reverse}
use Rattle.std.proofs.lemmas.Bool.{cases_Bool}
use Rattle.std.specs.Cmp.Lexicographic.{same_text, other_text}
use Rattle.sqlite_value.specs.Order.{Row, column}
use Rattle.sqlite_rules.specs.Lists.{Has}
use Rattle.sqlite_rules.proofs.ProbeLemmas.{has_mapped, mapped_has}
use Rattle.history_model.specs.declared.event.Setting.{Setting}
use Rattle.history_model.specs.Labels.{Label, is_same}
use Rattle.history_model.specs.Machine.{sets}
use Rattle.history_model.specs.Search.{first}
use Rattle.override_store.specs.SettingRows.{HasSetting, Sets, Stamps, AreSame, IsFlag}
use Rattle.override_store.specs.Settings.{Change, HoldsEach, StampsEach, second_in, setting_in, ListsSettings, IsEntry, shown}
use Rattle.override_store.proofs.RowLemmas.{same_text as text_inside}
use Rattle.override_store.proofs.PermutationLemmas.{has_permuted}

same_some : (a b : Bool) → ◌≡◌ {A = Option Bool} (Some a) (Some b) → a ≡ b
same_some a b e = cc

abbrev disabled_of : Option Setting → Option Bool
disabled_of = option_map (λ (s : Setting). s.disabled)

-- the newest setting decides of its own label
pub head_setting : (s : Setting) (settings : List Setting) (l : Label) → is_same l s.label ≡ true → setting_in (s ∷ settings) l ≡ Some s.disabled
head_setting s settings l same = ap (λ b. disabled_of (first (cond b (s ∷ filter (sets l) settings) (filter (sets l) settings)))) same

tail_setting : (s : Setting) (settings : List Setting) (l : Label) → is_same l s.label ≡ false → setting_in (s ∷ settings) l ≡ setting_in settings l
tail_setting s settings l other = ap (λ b. disabled_of (first (cond b (s ∷ filter (sets l) settings) (filter (sets l) settings)))) other

-- a setting that is written is the newest
pub holds_more : (old new : List Row) (settings : List Setting) (label : Label) (disabled : Bool) → HoldsEach old settings → Sets old new label disabled → HoldsEach new (record { label = label; disabled = disabled } ∷ settings)
holds_more old new settings label disabled holds now l d =
    let s : Setting = record { label = label; disabled = disabled } in
    elim (cases_Bool (is_same l label)) [
      | inl same ↦
          let here : l ≡ label = same_text l label (sym same) in
          let head = head_setting s settings l same in (
            λ e. (now l d).1 (inl (here, same_some d disabled (sym e ∙ head))),
            λ says. elim ((now l d).0 says) [ inl it ↦ head ∙ ap (λ b. Some b) (sym it.1) | inr it ↦ absurd (it.0 here) ],
          )
      | inr other ↦
          let apart : l ≢ label = λ here. other_text l label (sym other) here in
          let tail = tail_setting s settings l other in (
            λ e. (now l d).1 (inr (apart, (holds l d).0 (sym tail ∙ e))),
            λ says. elim ((now l d).0 says) [ inl it ↦ absurd (apart it.0) | inr it ↦ tail ∙ (holds l d).1 it.1 ],
          )
    ]

-- ---- the seconds

pub same_second : (m n : ℕ) → ◌≡◌ {A = Option ℕ} (Some m) (Some n) → m ≡ n
same_second m n e = cc

abbrev second_of : Option Change → Option ℕ
second_of = option_map (λ (c : Change). c.1)

-- the newest second decides of its own label
pub head_second : (c : Change) (changes : List Change) (l : Label) (same : Bool) → is_same l c.0 ≡ same → second_in (c ∷ changes) l ≡ (if same then Some c.1 else second_in changes l)
head_second c changes l true is = ap (λ b. second_of (first (cond b (c ∷ filter (λ (d : Change). is_same l d.0) changes) (filter (λ (d : Change). is_same l d.0) changes)))) is
head_second c changes l false is = ap (λ b. second_of (first (cond b (c ∷ filter (λ (d : Change). is_same l d.0) changes) (filter (λ (d : Change). is_same l d.0) changes)))) is

-- a second that is written is the newest
pub stamps_more : (old new : List Row) (changes : List Change) (label : Label) (second : ℕ) → StampsEach old changes → Stamps old new label second → StampsEach new ((label, second) ∷ changes)
stamps_more old new changes label second had now l s e = elim (cases_Bool (is_same l label)) [
  | inl same ↦ (now l s).1 (inl (same_text l label (sym same), same_second s second (sym e ∙ head_second (label, second) changes l true same)))
  | inr other ↦ (now l s).1 (inr (λ here. other_text l label (sym other) here, had l s (sym (head_second (label, second) changes l false other) ∙ e)))
]

-- rows with the same settings hold the same list
pub holds_same : (old new : List Row) (settings : List Setting) → HoldsEach old settings → AreSame old new → HoldsEach new settings
holds_same old new settings holds same l d = (λ e. (same.says l d).1 ((holds l d).0 e), λ says. (holds l d).1 ((same.says l d).0 says))

-- ---- a list that has each row once

zip_left : {A : Type 0} (R : Row → A → Type 0) (xs : List Row) (ys : List A) (x : Row) → AllZip R xs ys → Has xs x → (y : A) × Has ys y × R x y
zip_left R [] ys x all h = absurd h
zip_left R (a ∷ xs) [] x all h = absurd all
zip_left R (a ∷ xs) (b ∷ ys) x all (inl same) = (b, inl refl, subst (λ r. R r b) (sym same) all.0)
zip_left R (a ∷ xs) (b ∷ ys) x all (inr later) = let it = zip_left R xs ys x all.1 later in (it.0, inr it.1, it.2)

pub zip_right : {A : Type 0} (R : Row → A → Type 0) (xs : List Row) (ys : List A) (y : A) → AllZip R xs ys → Has ys y → (x : Row) × Has xs x × R x y
zip_right R xs [] y all h = absurd h
zip_right R [] (b ∷ ys) y all h = absurd all
zip_right R (a ∷ xs) (b ∷ ys) y all (inl same) = (a, inl refl, subst (R a) (sym same) all.0)
zip_right R (a ∷ xs) (b ∷ ys) y all (inr later) = let it = zip_right R xs ys y all.1 later in (it.0, inr it.1, it.2)

-- the first setting of a label is one of the list
found_in : (settings : List Setting) (l : Label) (d : Bool) → setting_in settings l ≡ Some d → (s : Setting) × Has settings s × (s.label ≡ l) × (s.disabled ≡ d)
found_in [] l d e = absurd (let f = e in cc)
found_in (s ∷ settings) l d e = elim (cases_Bool (is_same l s.label)) [
  | inl same ↦ (s, inl refl, sym (same_text l s.label (sym same)), same_some s.disabled d (sym (head_setting s settings l same) ∙ e))
  | inr other ↦ let it = found_in settings l d (sym (tail_setting s settings l other) ∙ e) in (it.0, inr it.1, it.2, it.3)
]

-- and if the label has but one value, it is that one
in_found : (settings : List Setting) (l : Label) (d : Bool) → ((s : Setting) → Has settings s → s.label ≡ l → s.disabled ≡ d) → (s : Setting) → Has settings s → s.label ≡ l → setting_in settings l ≡ Some d
in_found [] l d one s h is = absurd h
in_found (t ∷ settings) l d one s h is = elim (cases_Bool (is_same l t.label)) [
  | inl same ↦ head_setting t settings l same ∙ ap (λ b. Some b) (one t (inl refl) (sym (same_text l t.label (sym same))))
  | inr other ↦ elim h [
    | inl here ↦ absurd (other_text l t.label (sym other) (sym is ∙ ap (λ (x : Setting). x.label) here))
    | inr later ↦ tail_setting t settings l other ∙ in_found settings l d (λ x there. one x (inr there)) s later is
  ]
]

-- what `all` lists is what the rows hold
pub holds_listed : (rows : List Row) (all : List Setting) → ((l : List ℕ) (d e : Bool) → HasSetting rows l d → HasSetting rows l e → d ≡ e) → ListsSettings rows all → HoldsEach rows (reverse all)
holds_listed rows all one it l d = (
  λ e.
      let found = found_in (reverse all) l d e in
      let says = says_of found.0 (has_permuted all (reverse all) found.0 (IsPermutation-reverse all) found.1) in
      subst (HasSetting rows l) found.3 (subst (λ k. HasSetting rows k found.0.disabled) found.2 says),
  λ says.
      let there = has_permuted it.answer (map shown rows) (shown says.row) (IsPermutation-sym (map shown rows) it.answer it.same) (mapped_has shown rows says.row says.there) in
      let s = zip_left IsEntry it.answer all (shown says.row) it.each there in
      let label : s.0.label ≡ l = text_inside s.0.label l (sym s.2.0.0 ∙ says.label_is) in
      in_found (reverse all) l d (λ t h is. one l t.disabled d (subst (λ k. HasSetting rows k t.disabled) is (says_of t (has_permuted all (reverse all) t (IsPermutation-reverse all) h))) says) s.0
      (has_permuted (reverse all) all s.0 (IsPermutation-sym all (reverse all) (IsPermutation-reverse all)) s.1) label,
)
  where
    says_of : (s : Setting) → Has all s → HasSetting rows s.label s.disabled
    says_of s h =
        let row = zip_right IsEntry it.answer all s it.each h in
        let r = has_mapped shown rows row.0 (has_permuted (map shown rows) it.answer row.0 it.same row.1) in
        record { row = r.0; there = r.1; label_is = sym (ap (λ (x : Row). column x 0) r.2) ∙ row.2.0.0; holds = subst (λ (x : Row). IsFlag (column x 1) s.disabled) r.2 row.2.1 }

-- so do the rows before, which have the same settings
pub holds_back : (old new : List Row) (settings : List Setting) → AreSame old new → HoldsEach new settings → HoldsEach old settings
holds_back old new settings same holds l d = (λ e. (same.says l d).0 ((holds l d).0 e), λ says. (holds l d).1 ((same.says l d).1 says))
