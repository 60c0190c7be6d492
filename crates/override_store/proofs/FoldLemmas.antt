-- What putting several rows in turn leaves for each label.
use Rattle.std.proofs.Common.{◌≡◌, ◌≢◌, ◌⊎◌, inl, inr, ℕ, ℤ, List, [], ◌∷◌, Ok, refl, sym, ap, subst, ◌∙◌, Option, Ordering, Less, Equal, Greater}
use Rattle.std.specs.Prelude.{◌↔◌}
use Rattle.std.specs.List.{AllByRecursion}
use Rattle.std.specs.Ordering.{nat_cmp}
use Rattle.std.specs.Cmp.Lexicographic.{slice_cmp}
use Rattle.std.proofs.lemmas.Cmp.{tied_itself}
use Rattle.sqlite.specs.declared.types.Value.{Value}
use Rattle.sqlite.specs.declared.types.Value.TheVariants.{Null, Int, Text}
use Rattle.sqlite_value.specs.Order.{Row, column}
use Rattle.sqlite_value.proofs.OrderLemmas.{value_cmp_total, value_cmp-Text}
use Rattle.sqlite_trees.specs.declared.store.Shape.TheVariants.{Table}
use Rattle.sqlite_trees.specs.View.{IsShaped}
use Rattle.sqlite_schema.specs.declared.command.Conflict.TheVariants.{Replace}
use Rattle.sqlite_schema.specs.declared.schema.Keys.{Keys}
use Rattle.sqlite_rules.specs.Lists.{Has}
use Rattle.sqlite.specs.Rows.{Written, TriesEach, joined}
use Rattle.override_store.specs.SettingRows.{HasRow, IsNamed}
use Rattle.override_store.proofs.RowLemmas.{kept, next_id, same_bytes, same_text}
use Rattle.override_store.proofs.PutLemmas.{task, source, split, ended, still_shaped, has_replaced}

itself : (s : List ℕ) → slice_cmp nat_cmp s s ≡ Equal
itself s = sym (value_cmp-Text s s) ∙ tied_itself value_cmp_total (Text s)

decide : (s t : List ℕ) → (s ≡ t) ⊎ (s ≢ t)
decide s t = go (slice_cmp nat_cmp s t) refl
  where
    go : (o : Ordering) → slice_cmp nat_cmp s t ≡ o → (s ≡ t) ⊎ (s ≢ t)
    go Less e = inr (λ same. absurd (let f : Less ≡ Equal = sym e ∙ ap (slice_cmp nat_cmp s) (sym same) ∙ itself s in cc))
    go Equal e = inl (same_bytes s t e)
    go Greater e = inr (λ same. absurd (let f : Greater ≡ Equal = sym e ∙ ap (slice_cmp nat_cmp s) (sym same) ∙ itself s in cc))

-- the row is one that the statement can put as it is
abbrev pub IsSource : Row → Type 0
IsSource row = (label : List ℕ) × (m : ℤ) × (n : ℤ) × (row ≡ source label m n)

-- two sources with one label are one
abbrev pub Agree : List Row → Type 0
Agree rows = (x y : Row) (l : List ℕ) → Has rows x → Has rows y → column x 1 ≡ Text l → column y 1 ≡ Text l → x ≡ y

named_in : (rows : List Row) (l : List ℕ) → AllByRecursion IsSource rows → IsNamed rows l ⊎ (IsNamed rows l → ⊥)
named_in [] l each = inr (λ h. h.there)
named_in (x ∷ rows) l each = elim (decide each.0.0 l) [
  | inl same ↦ inl (record { row = x; there = inl refl; label_is = ap (λ r. column r 1) each.0.3 ∙ ap Text same; holds = tt })
  | inr other ↦ elim (named_in rows l each.1) [
    | inl later ↦ inl (record { row = later.row; there = inr later.there; label_is = later.label_is; holds = tt })
    | inr none ↦ inr (λ h. elim h.there [
      | inl is ↦ other (same_text each.0.0 l (sym (ap (λ r. column r 1) (is ∙ each.0.3)) ∙ h.label_is))
      | inr later ↦ none (record { row = h.row; there = later; label_is = h.label_is; holds = tt })
    ])
  ]
]

further : (x : Row) (rows : List Row) (l : List ℕ) (P : Row → Type 0) → HasRow rows l P → HasRow (x ∷ rows) l P
further x rows l P h = record { row = h.row; there = inr h.there; label_is = h.label_is; holds = h.holds }

module _ (limit : Option ℕ) (keys : Keys) (params : Row) where
  pub keeps_shape : (rows : List Row) → AllByRecursion IsSource rows → (top : ℤ) (done : Written) (out : Written × ℤ) → IsShaped Table (done.trees 2)
      → TriesEach (task limit keys params) Replace [] rows top done (Ok out) → IsShaped Table (out.0.trees 2) × (out.0.trees 0 ≡ done.trees 0)
  keeps_shape [] each top done out shaped h = let same = ended limit keys params top done out h in (subst (λ t. IsShaped Table (t 2)) (sym same) shaped, ap (λ t. t 0) same)
  keeps_shape (x ∷ rows) each top done out shaped h =
      let a = each.0 in
      let s = split limit keys params a.0 a.1 a.2 rows top done out (subst (λ y. TriesEach (task limit keys params) Replace [] (y ∷ rows) top done (Ok out)) a.3 h) in
      let rest = keeps_shape rows each.1 s.2.0 (joined done s.0) out (still_shaped done.trees s.0.trees a.0 a.1 a.2 shaped s.1) s.2.1 in
      (rest.0, rest.1 ∙ s.1.other)

  module _ (P : Row → Type 0) (blind : (i j : Value) (t : Row) → P (i ∷ t) → P (j ∷ t)) (l : List ℕ) where
    pub folds : (rows : List Row) → AllByRecursion IsSource rows → Agree rows → (top : ℤ) (done : Written) (out : Written × ℤ) → IsShaped Table (done.trees 2)
        → TriesEach (task limit keys params) Replace [] rows top done (Ok out) → HasRow (out.0.trees 2) l P ↔ (HasRow rows l P ⊎ (¬ IsNamed rows l × HasRow (done.trees 2) l P))
    folds [] each agree top done out shaped h =
        let same = ap (λ t. t 2) (ended limit keys params top done out h) in (
          λ has. inr (λ none. none.there, subst (λ rs. HasRow rs l P) same has),
          λ either. elim either [ inl none ↦ absurd none.there | inr has ↦ subst (λ rs. HasRow rs l P) (sym same) has.1 ],
        )
    folds (x ∷ rows) each agree top done out shaped h =
        let a = each.0 in
        let label = a.0 in
        let s = split limit keys params label a.1 a.2 rows top done out (subst (λ y. TriesEach (task limit keys params) Replace [] (y ∷ rows) top done (Ok out)) a.3 h) in
        let mid = still_shaped done.trees s.0.trees label a.1 a.2 shaped s.1 in
        let put = has_replaced done.trees s.0.trees label a.1 a.2 shaped s.1 P l in
        let rest = folds rows each.1 (λ y z k p q. agree y z k (inr p) (inr q)) s.2.0 (joined done s.0) out mid s.2.1 in
        let named : column x 1 ≡ Text label = ap (λ r. column r 1) a.3 in
        let id = Int (next_id (done.trees 2)) in
        let tail = Text label ∷ Int a.1 ∷ Int a.2 ∷ [] in (
          λ has. elim (rest.0 has) [
            | inl here ↦ inl (further x rows l P here)
            | inr old ↦ elim (put.0 old.1) [
              | inl new ↦ inl (record { row = x; there = inl refl; label_is = named ∙ ap Text (sym new.0); holds = subst P (sym a.3) (blind id Null tail new.1) })
              | inr kept ↦ inr (
                λ it. elim it.there [
                  | inl is ↦ kept.0 (same_text l label (sym it.label_is ∙ ap (λ r. column r 1) is ∙ named))
                  | inr later ↦ old.0 (record { row = it.row; there = later; label_is = it.label_is; holds = tt })
                ],
                kept.1,
              )
            ]
          ],
          λ either. elim either [
            | inl has ↦ elim has.there [
              | inl is ↦
                  let here : l ≡ label = same_text l label (sym has.label_is ∙ ap (λ r. column r 1) is ∙ named) in
                  elim (named_in rows l each.1) [
                    | inl again ↦ rest.1 (inl (record { row = again.row; there = again.there; label_is = again.label_is; holds = subst P (agree has.row again.row l has.there (inr again.there) has.label_is again.label_is) has.holds }))
                    | inr none ↦ rest.1 (inr (none, put.1 (inl (here, blind Null id tail (subst P (is ∙ a.3) has.holds)))))
                  ]
              | inr later ↦ rest.1 (inl (record { row = has.row; there = later; label_is = has.label_is; holds = has.holds }))
            ]
            | inr old ↦ rest.1 (inr (
              λ it. old.0 (further x rows l (λ _. Unit {0}) it),
              put.1 (inr (λ same. old.0 (record { row = x; there = inl refl; label_is = named ∙ ap Text (sym same); holds = tt }), old.1)),
            ))
          ],
        )
