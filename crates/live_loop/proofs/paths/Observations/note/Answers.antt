-- What is remembered.
use Rattle.std.proofs.Common.{rules, ◌≡◌, ℕ, None, Some, Option, Global, List, inl, inr, ap, subst, cond, ◌∙◌, arith}
use Rattle.std.specs.Prelude.{Result, Ok, Err, OnOk, OnErr, String, bytes_eq}
use Rattle.std.specs.BTreeMap.{BTreeMap, get_by_text, is_at, Updates, IsUnchanged}
use Rattle.std.specs.Map.{update, lookup}
use Rattle.history_model.specs.declared.Obs.{Obs}
use Rattle.std.specs.String.{string_bytes, string_cmp}
use Rattle.std.proofs.lemmas.Map.Text.{btree_map_updates_text, text_cmp, text_keys}
use Rattle.std.proofs.lemmas.Grind.{common_steps}
use Rattle.live_loop.specs.Looks.{IsNoted}
use Rattle.live_loop.specs.Observing.{known_in, path_in}
use Rattle.live_loop.proofs.paths.Observations.note.Goals as goal

pub returns-in-Some-clause-noted : goal.returns-in-Some-clause-noted
returns-in-Some-clause-noted c =
    let holds = c.get_mut.follows.holds c.args.obs in
    record {
      here = inl (grind (arith, common_steps));
      others = λ other apart. grind (arith, text_keys);
    }

inserted : {E : Type 0} (bs : List ℕ) (key : String Global) (obs : Obs) (m n : BTreeMap (String Global) Obs) (r : Result (Option Obs) E) →
    OnOk r (Updates string_cmp m n key (Some obs)) → OnErr r (IsUnchanged m n) → string_bytes key ≡ bs → get_by_text m bs ≡ None →
    IsNoted bs obs (get_by_text m) (get_by_text n)
inserted bs key obs m n (Ok old) ok err is none =
    let all : (cs : List ℕ) → get_by_text n cs ≡ update bytes_eq (get_by_text m) (string_bytes key) (Some obs) cs = btree_map_updates_text (string_bytes key) m n (Some obs) ok in
    record {
      here = inl (subst (λ b. get_by_text n b ≡ Some obs) is ok.1);
      others = λ other apart. all other ∙ ap (λ b. cond b (Some obs) (get_by_text m other)) (ap (λ b. bytes_eq b other) is ∙ apart);
    }
inserted bs key obs m n (Err e) ok err is none = record {
  here = inr (ap (λ es. lookup (is_at (text_cmp bs)) es) err ∙ none);
  others = λ other apart. ap (λ es. lookup (is_at (text_cmp other)) es) err;
}

pub returns-in-Ok-clause-noted : goal.returns-in-Ok-clause-noted
returns-in-Ok-clause-noted c =
    let same = c.get_mut.follows.holds-at-none in
    let none : get_by_text c.get_mut.follows.lender-at-none (path_in c.args.self.now) ≡ None = grind (arith, common_steps) in
    let before = c.get_mut.follows.lender-at-none in
    let noted : IsNoted (path_in c.args.self.now) c.args.obs (get_by_text before) (get_by_text c.insert.new.self) =
    inserted (path_in c.args.self.now) c.in-Ok.path c.args.obs before c.insert.new.self c.insert.result c.insert.ensures.updates c.insert.ensures.err (search rules) none in
    subst (λ m. IsNoted (path_in c.args.self.now) c.args.obs (get_by_text m) (get_by_text c.insert.new.self)) same noted

pub returns-in_default-from_str-clause-noted : goal.returns-in_default-from_str-clause-noted
returns-in_default-from_str-clause-noted c =
    let same = c.get_mut.follows.holds-at-none in
    let none : known_in c.args.self.now (path_in c.args.self.now) ≡ None = grind (arith, common_steps) in
    record {
      here = inr (ap (λ m. get_by_text m (path_in c.args.self.now)) same ∙ none);
      others = λ other apart. ap (λ m. get_by_text m other) same;
    }
