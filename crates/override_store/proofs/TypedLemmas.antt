-- What a sound database says of the rows of a table.
use Rattle.std.proofs.Common.{◌≡◌, inl, inr, ℕ, ℤ, pos, List, [], ◌∷◌, Bool, true, false, not, Ordering, Less, Equal, Greater, refl, sym, ap, subst, ◌∙◌, true≢false, Some}
use Rattle.std.proofs.lemmas.Bool.{and_from}
use Rattle.std.specs.Ordering.{int_eq, is_ne}
use Rattle.sqlite.specs.declared.types.Value.{Value}
use Rattle.sqlite.specs.declared.types.Value.TheVariants.{Int, Text, Null, Real, Blob}
use Rattle.sqlite_value.specs.Order.{Row, column, value_cmp}
use Rattle.sqlite_value.specs.Keys.{first_key, plain}
use Rattle.sqlite_value.specs.declared.keys.Collation.TheVariants.{Binary}
use Rattle.sqlite.specs.Tree.{Trees, rowid}
use Rattle.sqlite_schema.specs.Rules.{differ, equal, is_of, passes, clashes}
use Rattle.sqlite.specs.Kind.TheVariants as kind
use Rattle.sqlite_schema.specs.declared.schema.Constraint.TheVariants.{Datatype, NotNull}
use Rattle.sqlite_sql.specs.Ops.{binary, is_true, from_truth, is_null}
use Rattle.sqlite.specs.Schema.{Schema}
use Rattle.sqlite_catalog.specs.Listing.{IsSound}
use Rattle.sqlite_catalog.proofs.AlterLemmas.{keys_are_unique}
use Rattle.sqlite_rules.specs.Lists.{Has}
use Rattle.sqlite_rules.proofs.ListLemmas.{all_has, some_from}
use Rattle.sqlite_rules.proofs.PlaceLemmas.{tied_same}
use Rattle.sqlite_trees.specs.declared.store.Shape.TheVariants as shape
use Rattle.sqlite_trees.specs.View.{is_int, IsShaped}
use Rattle.override_store.specs.StoreTables.{overrides, settings, both_schema}
use Rattle.sqlite.specs.Effect.{Database}
use Rattle.override_store.specs.SettingRows.{HasSetting, IsFlag}
use Rattle.override_store.specs.OverrideStores.{AreOurs, setting_rows}
use Rattle.override_store.proofs.RowLemmas.{equal_texts}
use Rattle.history_model.proofs.BooleanLemmas.{and-left, and-right, not-true}

of_text : (v : Value) → is_null v ≡ false → is_of kind.Text v ≡ true → (t : List ℕ) × (v ≡ Text t)
of_text Null some typed = absurd (true≢false some)
of_text (Int n) some typed = absurd (true≢false (sym typed))
of_text (Real x) some typed = absurd (true≢false (sym typed))
of_text (Text t) some typed = (t, refl)
of_text (Blob b) some typed = absurd (true≢false (sym typed))

of_int : (v : Value) → is_null v ≡ false → is_of kind.Integer v ≡ true → (n : ℤ) × (v ≡ Int n)
of_int Null some typed = absurd (true≢false some)
of_int (Int n) some typed = (n, refl)
of_int (Real x) some typed = absurd (true≢false (sym typed))
of_int (Text t) some typed = absurd (true≢false (sym typed))
of_int (Blob b) some typed = absurd (true≢false (sym typed))

-- the row has a label and a whole number
abbrev pub IsTyped : Row → Type 0
IsTyped row = ((t : List ℕ) × (column row 1 ≡ Text t)) × ((n : ℤ) × (column row 2 ≡ Int n))

typed_row : (schema : Schema) (db : Trees) (row : Row) → passes Datatype schema db (overrides 0) row ≡ true → passes NotNull schema db (overrides 0) row ≡ true → IsTyped row
typed_row schema db [] typed there = absurd (true≢false (sym there))
typed_row schema db (i ∷ []) typed there = absurd (true≢false (sym there))
typed_row schema db (i ∷ v ∷ []) typed there = absurd (true≢false (sym (and-right (not (is_null v)) _ there)))
typed_row schema db (i ∷ v ∷ w ∷ more) typed there =
    let all = and-left _ _ typed in
    let v_there = not-true _ (and-left _ _ there) in
    let w_there = not-true _ (and-left _ _ (and-right (not (is_null v)) _ there)) in
    (of_text v v_there (and-left _ _ all), of_int w w_there (and-left _ _ (and-right (is_of kind.Text v) _ all)))

labelled_row : (schema : Schema) (db : Trees) (row : Row) → passes Datatype schema db (settings 2) row ≡ true → passes NotNull schema db (settings 2) row ≡ true → (t : List ℕ) × (column row 1 ≡ Text t)
labelled_row schema db [] typed there = absurd (true≢false (sym there))
labelled_row schema db (i ∷ []) typed there = absurd (true≢false (sym there))
labelled_row schema db (i ∷ v ∷ more) typed there = of_text v (not-true _ (and-left _ _ there)) (and-left _ _ (and-left _ _ typed))

-- each row of the second table has a label
pub seconds_labelled : (db : Trees) → IsSound both_schema db → (row : Row) → Has (db 2) row → (t : List ℕ) × (column row 1 ≡ Text t)
seconds_labelled db sound row there =
    labelled_row both_schema db row (all_has _ (db 2) row (sound.obeys.rules Datatype).1.0 there) (all_has _ (db 2) row (sound.obeys.rules NotNull).1.0 there)

-- each row of the first table is typed
pub firsts_typed : (db : Trees) → IsSound both_schema db → (row : Row) → Has (db 0) row → IsTyped row
firsts_typed db sound row there =
    typed_row both_schema db row (all_has _ (db 0) row (sound.obeys.rules Datatype).0 there) (all_has _ (db 0) row (sound.obeys.rules NotNull).0 there)

not_equal : (o : Ordering) → (o ≡ Equal → ⊥) → is_true (from_truth (Some (is_ne o))) ≡ true
not_equal Less h = refl
not_equal Equal h = absurd (h refl)
not_equal Greater h = refl

differ_ints : (a b : Value) → is_int a ≡ true → is_int b ≡ true → (value_cmp a b ≡ Equal → ⊥) → differ a b ≡ true
unfolding binary
differ_ints (Int m) (Int n) p q apart = not_equal (value_cmp (Int m) (Int n)) apart
differ_ints (Int m) Null p q apart = absurd (true≢false (sym q))
differ_ints (Int m) (Real x) p q apart = absurd (true≢false (sym q))
differ_ints (Int m) (Text t) p q apart = absurd (true≢false (sym q))
differ_ints (Int m) (Blob x) p q apart = absurd (true≢false (sym q))
differ_ints Null b p q apart = absurd (true≢false (sym p))
differ_ints (Real x) b p q apart = absurd (true≢false (sym p))
differ_ints (Text t) b p q apart = absurd (true≢false (sym p))
differ_ints (Blob x) b p q apart = absurd (true≢false (sym p))

-- of rows whose labels are a unique key, two with one label are one
alone : (rows : List Row) → IsShaped shape.Table rows → ((s : Row) → Has rows s → clashes plain (1 ∷ []) rows s ≡ false)
    → (r s : Row) (label : List ℕ) → Has rows r → Has rows s → column r 1 ≡ Text label → column s 1 ≡ Text label → r ≡ s
unfolding first_key
alone rows shaped unique r s label there here p q =
    let keyed = λ (x : Row) (h : Has rows x). all_has _ rows x shaped.1 h in
    let hit : equal Binary (column r 1) (column s 1) ≡ true = rw (p, q, equal_texts label) in
    let refused = λ (f : value_cmp (rowid r) (rowid s) ≡ Equal → ⊥).
    true≢false (sym (some_from _ rows r there (and_from _ _ (and_from _ _ hit refl) (differ_ints _ _ (keyed r there) (keyed s here) f))) ∙ unique s here) in
    elim (value_cmp (rowid r) (rowid s)) as (λ o. value_cmp (rowid r) (rowid s) ≡ o → r ≡ s) [
      | Less ↦ λ e. absurd (refused (λ t. let f = sym e ∙ t in cc))
      | Equal ↦ λ e. tied_same rows r s shaped.0 there here e
      | Greater ↦ λ e. absurd (refused (λ t. let f = sym e ∙ t in cc))
    ] refl

pub firsts_alone : (db : Trees) → IsSound both_schema db → IsShaped shape.Table (db 0) → (r s : Row) (label : List ℕ) → Has (db 0) r → Has (db 0) s → column r 1 ≡ Text label → column s 1 ≡ Text label → r ≡ s
firsts_alone db sound shaped = alone (db 0) shaped (λ s here. keys_are_unique both_schema db (overrides 0) 0 (1 ∷ []) s sound (inl refl) refl here)

pub seconds_alone : (db : Trees) → IsSound both_schema db → IsShaped shape.Table (db 2) → (r s : Row) (label : List ℕ) → Has (db 2) r → Has (db 2) s → column r 1 ≡ Text label → column s 1 ≡ Text label → r ≡ s
seconds_alone db sound shaped = alone (db 2) shaped (λ s here. keys_are_unique both_schema db (settings 2) 0 (1 ∷ []) s sound (inr (inl refl)) refl here)

same_flag : (a b : Value) (d e : Bool) → a ≡ b → IsFlag a d → IsFlag b e → d ≡ e
same_flag a b d e same p q = let i = sym p.1 ∙ same ∙ q.1 in p.2 ∙ ap (λ v. value_flag v) i ∙ sym q.2
  where
    value_flag : Value → Bool
    value_flag (Int n) = not (int_eq n (pos 0))
    value_flag _ = false

-- a label has one setting
pub one_setting : (db : Trees) → IsSound both_schema db → IsShaped shape.Table (db 2) → (label : List ℕ) (d e : Bool) → HasSetting (db 2) label d → HasSetting (db 2) label e → d ≡ e
one_setting db sound shaped label d e a b =
    let same = seconds_alone db sound shaped a.row b.row label a.there b.there a.label_is b.label_is in
    same_flag _ _ d e (ap (λ r. column r 2) same) a.holds b.holds

pub ours_one_setting : (db : Database) → AreOurs db → (label : List ℕ) (d e : Bool) → HasSetting (setting_rows db.trees) label d → HasSetting (setting_rows db.trees) label e → d ≡ e
ours_one_setting db ours = one_setting db.trees (subst (λ (c : Schema). IsSound c db.trees) ours.schema ours.sound) ours.shaped
