-- What is known of labels, put into a list, listed, and held by rows.
use Rattle.std.proofs.Common.{◌≡◌, ◌<◌, inl, inr, ℕ, zero, suc, List, [], ◌∷◌, ◌++◌, map, reverse, take, drop, length, Bool, true, false, cond, Some, None, option_map, pos, refl, sym, ap, subst, ◌∙◌, arith, nat_lt, not, ◌+◌, ◌≤◌, add_comm, add-one}
use Rattle.std.specs.Prelude.{slice_set}
use Rattle.std.specs.List.{AllZip, filter, position, prefix_len}
use Rattle.std.proofs.lemmas.Bool.{cases_Bool}
use Rattle.std.proofs.lemmas.List.{map-append, reverse-append}
use Rattle.std.proofs.lemmas.List.Sorted.{IsPermutation-reverse}
use Rattle.std.specs.Cmp.Lexicographic.{same_text}
use Rattle.sqlite_value.specs.Order.{Row, column}
use Rattle.sqlite.specs.Effect.{Database}
use Rattle.sqlite.specs.State.{State}
use Rattle.sqlite.specs.declared.types.Value.TheVariants.{Int, Text}
use Rattle.sqlite_rules.specs.Lists.{Has}
use Rattle.sqlite_rules.proofs.ProbeLemmas.{has_mapped}
use Rattle.history_model.specs.declared.event.Setting.{Setting}
use Rattle.history_model.specs.Labels.{Label, is_same}
use Rattle.history_model.specs.Machine.{sets}
use Rattle.history_model.specs.Search.{first}
use Rattle.override_store.specs.declared.known.Known.{Known}
use Rattle.override_store.specs.SettingRows.{HasSetting}
use Rattle.override_store.specs.Settings.{Change, HoldsEach, IsEntry, IsSortedList, ListsSettings, StampsEach, second_in, setting_in, shown}
use Rattle.override_store.specs.KnownSettings.{IsKnown, change_in, found_in, is_known_as, settings_of, stamps_of}
use Rattle.override_store.proofs.AnswerLemmas.{listed_as}
use Rattle.override_store.proofs.PermutationLemmas.{has_permuted}
use Rattle.override_store.specs.OverrideStores.{IsOurs, StaysOurs, rows_now, setting_rows}
use Rattle.override_store.proofs.TieLemmas.{head_second, holds_listed, same_second, zip_right}
use Rattle.override_store.proofs.TypedLemmas.{ours_one_setting}
use lib.Pointwise.{bytes_decides}

-- ---- one more, put into a list

module _ {X : Type 0} (p : X → Bool) where
  abbrev pub IsFirstWhere : List X → ℕ → Type 0
  IsFirstWhere [] k = ⊥
  IsFirstWhere (x ∷ xs) zero = p x ≡ true
  IsFirstWhere (x ∷ xs) (suc k) = (p x ≡ false) × IsFirstWhere xs k

  abbrev pub NonePasses : List X → Type 0
  NonePasses [] = Unit {0}
  NonePasses (x ∷ xs) = (p x ≡ false) × NonePasses xs

  at-prefix : (xs : List X) → prefix_len (λ x. not (p x)) xs < length xs → IsFirstWhere xs (prefix_len (λ x. not (p x)) xs)
  at-prefix [] within = let none : 0 < 0 = within in absurd (omega (arith, none))
  at-prefix (x ∷ xs) within = go (p x) refl within (at-prefix xs)
    where
      go : (b : Bool) → p x ≡ b → cond (not b) (1 + prefix_len (λ x. not (p x)) xs) 0 < suc (length xs) →
          (prefix_len (λ x. not (p x)) xs < length xs → IsFirstWhere xs (prefix_len (λ x. not (p x)) xs)) →
          IsFirstWhere (x ∷ xs) (cond (not b) (1 + prefix_len (λ x. not (p x)) xs) 0)
      go true is within later = is
      go false is within later = rw (add_comm, add-one) (is, later (omega (arith, within)))

  none-past : (xs : List X) → length xs ≤ prefix_len (λ x. not (p x)) xs → NonePasses xs
  none-past [] past = tt
  none-past (x ∷ xs) past = go (p x) refl past (none-past xs)
    where
      go : (b : Bool) → p x ≡ b → suc (length xs) ≤ cond (not b) (1 + prefix_len (λ x. not (p x)) xs) 0 →
          (length xs ≤ prefix_len (λ x. not (p x)) xs → NonePasses xs) → NonePasses (x ∷ xs)
      go true is past later = absurd (omega (arith, past))
      go false is past later = (is, later (omega (arith, past)))

  pub first-where : (xs : List X) (k : ℕ) → Some k ≡ position p xs → IsFirstWhere xs k
  first-where xs k at = go (nat_lt (prefix_len (λ x. not (p x)) xs) (length xs)) refl at
    where
      go : (b : Bool) → nat_lt (prefix_len (λ x. not (p x)) xs) (length xs) ≡ b → Some k ≡ cond b (Some (prefix_len (λ x. not (p x)) xs)) None → IsFirstWhere xs k
      go true is at = let same : k ≡ prefix_len (λ x. not (p x)) xs = cc in subst (λ n. IsFirstWhere xs n) (sym same) (at-prefix xs (grind (arith, is)))
      go false is at = cc

  pub none-where : (xs : List X) → None ≡ position p xs → NonePasses xs
  none-where xs at = go (nat_lt (prefix_len (λ x. not (p x)) xs) (length xs)) refl at
    where
      go : (b : Bool) → nat_lt (prefix_len (λ x. not (p x)) xs) (length xs) ≡ b → None ≡ cond b (Some (prefix_len (λ x. not (p x)) xs)) None → NonePasses xs
      go true is at = cc
      go false is at = none-past xs (grind (arith, is))

is_label_of : (a b : Label) → is_same a b ≡ true → a ≡ b
is_label_of a b e = (bytes_decides a b).0 e

module _ (new : Known) (label : Label) where
  -- one more after a list, seen by whether each is of the label
  behind : (x : Known) (rest xs : List Known) (a b : Bool) → is_known_as label new ≡ a → is_known_as label x ≡ b → is_known_as new.setting.label x ≡ false →
      first (filter (is_known_as label) rest) ≡ first (cond a (new ∷ filter (is_known_as label) xs) (filter (is_known_as label) xs)) →
      first (cond b (x ∷ filter (is_known_as label) rest) (filter (is_known_as label) rest))
      ≡ first (cond a (new ∷ cond b (x ∷ filter (is_known_as label) xs) (filter (is_known_as label) xs)) (cond b (x ∷ filter (is_known_as label) xs) (filter (is_known_as label) xs)))
  behind x rest xs true true is_new is_x other later =
      let same : label ≡ new.setting.label = is_label_of label new.setting.label is_new in
      let clash : true ≡ false = sym is_x ∙ ap (λ l. is_known_as l x) same ∙ other in absurd (cc clash)
  behind x rest xs true false is_new is_x other later = later
  behind x rest xs false true is_new is_x other later = refl
  behind x rest xs false false is_new is_x other later = later

  pub known_at : (xs : List Known) (k : ℕ) → IsFirstWhere (is_known_as new.setting.label) xs k → found_in (slice_set xs k new) label ≡ found_in (new ∷ xs) label
  known_at [] k at = absurd at
  known_at (x ∷ xs) zero at = go (is_known_as label new) refl
    where
      go : (a : Bool) → is_known_as label new ≡ a → first (cond a (new ∷ filter (is_known_as label) xs) (filter (is_known_as label) xs)) ≡ first (cond a (new ∷ filter (is_known_as label) (x ∷ xs)) (filter (is_known_as label) (x ∷ xs)))
      go true is = refl
      go false is =
          let same : new.setting.label ≡ x.setting.label = is_label_of new.setting.label x.setting.label at in
          let other : is_known_as label x ≡ false = ap (is_same label) (sym same) ∙ is in
          ap (λ b. first (cond b (x ∷ filter (is_known_as label) xs) (filter (is_known_as label) xs))) (sym other)
  known_at (x ∷ xs) (suc k) at = behind x (slice_set xs k new) xs (is_known_as label new) (is_known_as label x) refl refl at.0 (known_at xs k at.1)

  -- what is among others, none of its label, decides as if it came first
  pub known_placed : (xs : List Known) (k : ℕ) → NonePasses (is_known_as new.setting.label) xs → found_in (take k xs ++ new ∷ drop k xs) label ≡ found_in (new ∷ xs) label
  known_placed xs zero apart = refl
  known_placed [] (suc k) apart = refl
  known_placed (x ∷ xs) (suc k) apart = behind x (take k xs ++ new ∷ drop k xs) xs (is_known_as label new) (is_known_as label x) refl refl apart.0 (known_placed xs k apart.1)

-- ---- what a list says

pub setting_found : (known : List Known) (l : Label) → setting_in (settings_of known) l ≡ option_map (λ (k : Known). k.setting.disabled) (found_in known l)
setting_found [] l = refl
setting_found (k ∷ known) l = go (is_known_as l k) (setting_found known l)
  where
    go : (b : Bool) → setting_in (settings_of known) l ≡ option_map (λ (k : Known). k.setting.disabled) (found_in known l) → option_map (λ (s : Setting). s.disabled) (first (cond b (k.setting ∷ filter (sets l) (settings_of known)) (filter (sets l) (settings_of known))))
        ≡ option_map (λ (k : Known). k.setting.disabled) (first (cond b (k ∷ filter (is_known_as l) known) (filter (is_known_as l) known)))
    go true later = refl
    go false later = later

pub second_found : (known : List Known) (l : Label) → second_in (stamps_of known) l ≡ option_map (λ (k : Known). k.changed) (found_in known l)
second_found [] l = refl
second_found (k ∷ known) l = go (is_known_as l k) (second_found known l)
  where
    go : (b : Bool) → second_in (stamps_of known) l ≡ option_map (λ (k : Known). k.changed) (found_in known l) → option_map (λ (c : Change). c.1) (first (cond b (change_in k ∷ filter (λ (c : Change). is_same l c.0) (stamps_of known)) (filter (λ (c : Change). is_same l c.0) (stamps_of known))))
        ≡ option_map (λ (k : Known). k.changed) (first (cond b (k ∷ filter (is_known_as l) known) (filter (is_known_as l) known)))
    go true later = refl
    go false later = later

pub settings_alike : (a b : List Known) (l : Label) → found_in a l ≡ found_in b l → setting_in (settings_of a) l ≡ setting_in (settings_of b) l
settings_alike a b l same = setting_found a l ∙ ap (option_map (λ (k : Known). k.setting.disabled)) same ∙ sym (setting_found b l)

pub seconds_alike : (a b : List Known) (l : Label) → found_in a l ≡ found_in b l → second_in (stamps_of a) l ≡ second_in (stamps_of b) l
seconds_alike a b l same = second_found a l ∙ ap (option_map (λ (k : Known). k.changed)) same ∙ sym (second_found b l)

pub holds_alike : (rows : List Row) (a b : List Setting) → ((l : Label) → setting_in b l ≡ setting_in a l) → HoldsEach rows a → HoldsEach rows b
holds_alike rows a b same holds l d = (λ e. (holds l d).0 (sym (same l) ∙ e), λ says. same l ∙ (holds l d).1 says)

pub stamps_alike : (rows : List Row) (a b : List Change) → ((l : Label) → second_in b l ≡ second_in a l) → StampsEach rows a → StampsEach rows b
stamps_alike rows a b same had l s e = had l s (sym (same l) ∙ e)

-- one setting more decides of its own label alone
pub more_alike : (s : Setting) (a b : List Setting) (l : Label) → setting_in a l ≡ setting_in b l → setting_in (s ∷ a) l ≡ setting_in (s ∷ b) l
more_alike s a b l same = go (sets l s)
  where
    go : (c : Bool) → option_map (λ (s : Setting). s.disabled) (first (cond c (s ∷ filter (sets l) a) (filter (sets l) a))) ≡ option_map (λ (s : Setting). s.disabled) (first (cond c (s ∷ filter (sets l) b) (filter (sets l) b)))
    go true = refl
    go false = same

-- ---- what rows list

map_reverse : {A B : Type 0} (f : A → B) (xs : List A) → map f (reverse xs) ≡ reverse (map f xs)
map_reverse f [] = refl
map_reverse f (x ∷ xs) = ap (map f) (reverse-append (x ∷ []) xs) ∙ map-append f (reverse xs) (x ∷ []) ∙ ap (λ ys. ys ++ f x ∷ []) (map_reverse f xs) ∙ sym (reverse-append (f x ∷ []) (map f xs))

zip_settings : (rows : List Row) (known : List Known) → AllZip IsKnown rows known → AllZip IsEntry rows (settings_of known)
zip_settings [] [] all = tt
zip_settings [] (k ∷ known) all = absurd all
zip_settings (r ∷ rows) [] all = absurd all
zip_settings (r ∷ rows) (k ∷ known) all = (all.0.0, zip_settings rows known all.1)

pub holds_known : (rows answer : List Row) (known : List Known) → ((l : List ℕ) (d e : Bool) → HasSetting rows l d → HasSetting rows l e → d ≡ e) → IsSortedList rows answer → AllZip IsKnown answer known
    → HoldsEach rows (settings_of (reverse known))
holds_known rows answer known one it each =
    let lists : ListsSettings rows (settings_of known) = listed_as (λ (s : Setting). s.label) IsEntry (λ row s r. r.0.0) rows answer (settings_of known) it (zip_settings answer known each) in
    subst (HoldsEach rows) (sym (map_reverse (λ (k : Known). k.setting) known)) (holds_listed rows (settings_of known) one lists)

-- the first second of a label is one of the list
stamp_found : (known : List Known) (l : Label) (s : ℕ) → second_in (stamps_of known) l ≡ Some s → (k : Known) × Has known k × (k.setting.label ≡ l) × (k.changed ≡ s)
stamp_found [] l s e = absurd (let f = e in cc)
stamp_found (k ∷ known) l s e = elim (cases_Bool (is_same l k.setting.label)) [
  | inl same ↦ (k, inl refl, sym (same_text l k.setting.label (sym same)), same_second k.changed s (sym (head_second (change_in k) (stamps_of known) l true same) ∙ e))
  | inr other ↦ let it = stamp_found known l s (sym (head_second (change_in k) (stamps_of known) l false other) ∙ e) in (it.0, inr it.1, it.2, it.3)
]

pub stamps_known : (rows answer : List Row) (known : List Known) → IsSortedList rows answer → AllZip IsKnown answer known → StampsEach rows (stamps_of (reverse known))
stamps_known rows answer known it each l s e =
    let found = stamp_found (reverse known) l s e in
    let k = found.0 in
    let there = has_permuted known (reverse known) k (IsPermutation-reverse known) found.1 in
    let row = zip_right IsKnown answer known k each there in
    let r = has_mapped shown rows row.0 (has_permuted (map shown rows) answer row.0 it.same row.1) in
    record {
      row = r.0;
      there = r.1;
      label_is = sym (ap (λ (x : Row). column x 0) r.2) ∙ row.2.0.0.0 ∙ ap (λ (t : List ℕ). Text t) found.2;
      holds = subst (λ (n : ℕ). column r.0 3 ≡ Int (pos n)) found.3 (sym (ap (λ (x : Row). column x 2) r.2) ∙ row.2.1);
    }

-- so a store that was read holds what its rows say
pub known_held : (old new : State) (rows : List Row) (known all : List Known) → IsOurs old → IsSortedList (rows_now old) rows → AllZip IsKnown rows known → all ≡ reverse known → StaysOurs old new
    → (IsOurs new × HoldsEach (rows_now new) (settings_of all)) × (IsOurs new × StampsEach (rows_now new) (stamps_of all))
known_held old new rows known all ours it each is stays =
    let same : rows_now old ≡ rows_now new = ap (λ (d : Database). setting_rows d.trees) (sym stays.1) in (
      (stays.0, subst (λ (ks : List Known). HoldsEach (rows_now new) (settings_of ks)) (sym is) (subst (λ (rs : List Row). HoldsEach rs (settings_of (reverse known))) same (holds_known (rows_now old) rows known (ours_one_setting old.now ours.ours) it each))),
      (stays.0, subst (λ (ks : List Known). StampsEach (rows_now new) (stamps_of ks)) (sym is) (subst (λ (rs : List Row). StampsEach rs (stamps_of (reverse known))) same (stamps_known (rows_now old) rows known it each))),
    )
