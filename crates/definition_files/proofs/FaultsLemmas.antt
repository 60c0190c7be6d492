-- An object in which the value of one key was put or taken out.
use Rattle.std.proofs.Common.{◌≡◌, ℕ, List, [], ◌∷◌, Bool, true, false, cond, is_eq, nat_cmp, String, Global, BTreeMap, string_bytes, string_cmp, Some, refl, sym, ap, ◌∙◌, bytes_eq}
use Rattle.std.proofs.lemmas.Map.Text.{is_eq-slice_cmp}
use Rattle.std.proofs.lemmas.Slice.Eq.{bytes_eq-Decides}
use Rattle.std.specs.Cmp.Lexicographic.{slice_cmp}
use Rattle.std.specs.Ordering.{match_ordering}
use Rattle.std.specs.BTreeMap.{insert_entry, is_at}
use Rattle.std.specs.Map.{remove_entry}
use Rattle.serde_json.specs.Find.{get, get_member}
use Rattle.serde_json.specs.View.{view, members_view}
use Rattle.serde_json.specs.declared.value.Value.{Value, Object}
use Rattle.serde_json.proofs.Views.{Entry, view-Object, members_view-insert_entry, get_member-put_other, member_later}

-- the other names keep their values after an insert
pub put_other : (m : BTreeMap (String Global) Value) (es : List Entry) (k : String Global) (v : Value) (q : List ℕ)
    → m.entries ≡ insert_entry string_cmp es k v → (q ≡ string_bytes k → ⊥)
    → get q (view (Object m)) ≡ get_member q (members_view es)
put_other m es k v q e other = rw (view-Object m, e, members_view-insert_entry es k v) (get_member-put_other q (string_bytes k) (view v) (members_view es) other)

same_name : (name text : List ℕ) (b : Bool) → is_eq (slice_cmp nat_cmp name text) ≡ b → b ≡ true → name ≡ text
same_name name text b is holds = (bytes_eq-Decides name text).0 (sym (is_eq-slice_cmp name text) ∙ is ∙ holds)

without_at : (b : Bool) (name q : List ℕ) (e : Entry) (es less : List Entry) → is_eq (slice_cmp nat_cmp name (string_bytes e.0)) ≡ b → (q ≡ name → ⊥)
    → get_member q (members_view less) ≡ get_member q (members_view es)
    → get_member q (members_view (cond b es (e ∷ less))) ≡ get_member q (members_view (e ∷ es))
without_at true name q e es less is other later = sym (member_later q e es (λ h. other (h ∙ sym (same_name name (string_bytes e.0) _ is refl))))
without_at false name q e es less is other later = ap (λ r. match_ordering (slice_cmp nat_cmp q (string_bytes e.0)) r (Some (view e.1)) r) later

-- and after a removal
pub without_other : (name q : List ℕ) (es : List Entry) → (q ≡ name → ⊥)
    → get_member q (members_view (remove_entry (is_at (λ k. slice_cmp nat_cmp name (string_bytes k))) es)) ≡ get_member q (members_view es)
without_other name q [] other = refl
without_other name q (e ∷ es) other = without_at _ name q e es _ refl other (without_other name q es other)

-- the same of the object
pub take_other : (m : BTreeMap (String Global) Value) (es : List Entry) (name q : List ℕ)
    → m.entries ≡ remove_entry (is_at (λ k. slice_cmp nat_cmp name (string_bytes k))) es → (q ≡ name → ⊥)
    → get q (view (Object m)) ≡ get_member q (members_view es)
take_other m es name q e other = rw (view-Object m, e) (without_other name q es other)
