-- The entries of a calendar that are read one after the other.
use Rattle.std.proofs.Common.{◌≡◌, ◌+◌, ◌<◌, ◌++◌, ◌∷◌, [], ◌∙◌, ap, sym, subst, ℕ, List, map, take, length, get_or}
use Rattle.std.proofs.lemmas.List.{map-append, take_more}
use Rattle.std.specs.List.{AllZip}
use Rattle.history_model.specs.declared.Entry.{Entry}
use Rattle.serde_json.specs.View.{view}
use Rattle.serde_json.specs.declared.value.Value.{Value}
use Rattle.status_file.specs.Readings.{EntryAt}

one_last : {A B : Type 0} (R : A → B → Type 0) (xs : List A) (ys : List B) (x : A) (y : B) → AllZip R xs ys → R x y → AllZip R (xs ++ x ∷ []) (ys ++ y ∷ [])
one_last R [] [] x y all last = (last, tt)
one_last R [] (b ∷ ys) x y all last = absurd all
one_last R (a ∷ xs) [] x y all last = absurd all
one_last R (a ∷ xs) (b ∷ ys) x y all last = (all.0, one_last R xs ys x y all.1 last)

-- the entries before this one, and this one
pub one_more : (vs : List Value) (at : ℕ) (other : Value) (old new : List Entry) (entry : Entry) → at < length vs → AllZip EntryAt (map view (take at vs)) old →
    new ≡ old ++ entry ∷ [] → EntryAt (view (get_or vs at other)) entry → AllZip EntryAt (map view (take (at + 1) vs)) new
one_more vs at other old new entry is_there all is last =
    let more : map view (take (at + 1) vs) ≡ map view (take at vs) ++ (view (get_or vs at other) ∷ []) =
    ap (map view) (take_more vs at other is_there) ∙ map-append view (take at vs) (get_or vs at other ∷ []) in
    subst (λ ds. AllZip EntryAt ds new) (sym more) (subst (λ es. AllZip EntryAt (map view (take at vs) ++ view (get_or vs at other) ∷ []) es) (sym is)
    (one_last EntryAt (map view (take at vs)) old (view (get_or vs at other)) entry all last))
