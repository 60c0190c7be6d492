-- The job with a label that was found among those with a child.
use Rattle.std.proofs.Common.{◌≡◌, ℕ, zero, suc, ◌+◌, ◌==◌, ◌<◌, ◌≤◌, nat_lt, length, get_or, Bool, true, false, ◌&&◌, ◌||◌, cond, List, [], ◌∷◌, map, Option, Some, None, is_some, refl, sym, ap, subst, ◌∙◌, arith}
use Rattle.std.specs.Prelude.{slice_get, unwrap_or}
use Rattle.std.proofs.lemmas.Bool.Decides.{nat_tests}
use Rattle.std.specs.List.{list_any, filter, cons_option, position}
use Rattle.std.specs.Option.{option_map}
use Rattle.history_model.specs.declared.Reading.{Reading}
use Rattle.history_model.specs.declared.Child.{Child}
use Rattle.history_model.specs.Items.{History}
use Rattle.history_model.specs.Search.{first}
use Rattle.history_model.specs.Runs.{child, runs}
use Rattle.history_model.specs.Refusals.{IsLawful}
use Rattle.history_model.specs.Labels.{Label, is_same, is_before}
use Rattle.history_model.specs.FactsOfPast.{Keeps}
use Rattle.history_model.specs.MachineLaws.{AreInOrder}
use Rattle.history_model.specs.Machine.{Job, is_of, past_in}
use Rattle.history_model.proofs.RunsLemmas.{sound, child-present}
use Rattle.history_model.proofs.BooleanLemmas.{or-second, and-both}
use Rattle.loaded_jobs.specs.Tables.{Name, IsOther, IsOnce, labels_in}
use Rattle.loaded_jobs.specs.StandsFor.{KeepsJobs}
use Rattle.loaded_jobs.specs.JobSlots.{row, name, rows, is_above, place_for}
use Rattle.loaded_jobs.specs.Nearest.{IsNearest, with_child, run_in}
use Rattle.loaded_jobs.specs.declared.job_slot.JobSlot.{JobSlot}
use Rattle.loaded_jobs.proofs.SettingLemmas.{is-label}
use Rattle.loaded_jobs.proofs.FirstLemmas.{IsFirstWhere, first-where, none-where, none-at, passes-at, within-where}
use Rattle.std.proofs.lemmas.Option.{slice_get_within, slice_get-get_or}
use Rattle.loaded_jobs.proofs.NearestLemmas.{not-before-self}
use Rattle.loaded_jobs.proofs.ByteOrderLemmas.{in-order}
use Rattle.history_model.proofs.LabelOrderLemmas.{before-trans, same_self}

module _ (at : Reading) where
  -- no other job has the label, with a child or without
  no-other : (n : Name) (es : List JobSlot) (jobs : List Job) → IsOther n (map name es) → KeepsJobs at (rows es) jobs → list_any (is_same n.described.label) (with_child jobs) ≡ false
  no-other n [] [] other keeps = refl
  no-other n [] (job ∷ jobs) other keeps = absurd keeps
  no-other n (e ∷ es) jobs other keeps = go e.has_gone jobs keeps (λ js. no-other n es js other.2)
    where
      go : (b : Bool) (jobs : List Job) → KeepsJobs at (cond b (rows es) (row e ∷ rows es)) jobs →
          ((js : List Job) → KeepsJobs at (rows es) js → list_any (is_same n.described.label) (with_child js) ≡ false) → list_any (is_same n.described.label) (with_child jobs) ≡ false
      go true jobs keeps later = later jobs keeps
      go false [] keeps later = absurd keeps
      go false (job ∷ jobs) keeps later = one (child job.past)
        where
          one : (o : Option Child) → list_any (is_same n.described.label) (cons_option (option_map (λ c. job.label) o) (with_child jobs)) ≡ false
          one None = later jobs keeps.1
          one (Some c) = λ i. (ap (is_same n.described.label) (sym keeps.0.label) ∙ other.1) i || later jobs keeps.1 i

  -- the one job with the label has a child
  pub child-there : (label : Label) (es : List JobSlot) (jobs : List Job) → IsOnce (map name es) → KeepsJobs at (rows es) jobs → list_any (is_same label) (with_child jobs) ≡ true →
      is_some (run_in (past_in (first (filter (is_of label) jobs)))) ≡ true
  child-there label [] [] once keeps among = cc
  child-there label [] (job ∷ jobs) once keeps among = absurd keeps
  child-there label (e ∷ es) jobs once keeps among = go e.has_gone jobs keeps among (λ js. child-there label es js once.1)
    where
      go : (b : Bool) (jobs : List Job) → KeepsJobs at (cond b (rows es) (row e ∷ rows es)) jobs → list_any (is_same label) (with_child jobs) ≡ true →
          ((js : List Job) → KeepsJobs at (rows es) js → list_any (is_same label) (with_child js) ≡ true → is_some (run_in (past_in (first (filter (is_of label) js)))) ≡ true) →
          is_some (run_in (past_in (first (filter (is_of label) jobs)))) ≡ true
      go true jobs keeps among later = later jobs keeps among
      go false [] keeps among later = absurd keeps
      go false (job ∷ jobs) keeps among later = pick (is_same label job.label) refl (child job.past) refl among
        where
          skip : (o : Option Child) → is_same label job.label ≡ false → list_any (is_same label) (cons_option (option_map (λ c. job.label) o) (with_child jobs)) ≡ true →
              list_any (is_same label) (with_child jobs) ≡ true
          skip None apart among = among
          skip (Some c) apart among = sym (ap (λ b. b || list_any (is_same label) (with_child jobs)) apart) ∙ among

          pick : (b : Bool) → is_same label job.label ≡ b → (o : Option Child) → child job.past ≡ o →
              list_any (is_same label) (cons_option (option_map (λ c. job.label) o) (with_child jobs)) ≡ true →
              is_some (run_in (past_in (first (cond b (job ∷ filter (is_of label) jobs) (filter (is_of label) jobs))))) ≡ true
          pick true is (Some c) stands among = ap (λ o. is_some (option_map (λ c. c.run) o)) stands
          pick true is None stands among =
              let same : label ≡ e.def.label = is-label label job.label is ∙ sym keeps.0.label in
              let clash : true ≡ false = sym among ∙ ap (λ l. list_any (is_same l) (with_child jobs)) same ∙ no-other (name e) es jobs once.0 keeps.1 in absurd (cc clash)
          pick false is o stands among = later jobs keeps.1 (skip o is among)

-- the child of a lawful past is its present run
pub run-present : (past : History) (o : Option History) → IsLawful past → o ≡ Some past → is_some (run_in o) ≡ true → run_in o ≡ Some (runs past)
run-present past o lawful is some = ap run_in is ∙ go (child past) refl (sym (ap (λ p. is_some (run_in p)) is) ∙ some)
  where
    go : (c : Option Child) → child past ≡ c → is_some (option_map (λ c. c.run) (child past)) ≡ true → option_map (λ c. c.run) (child past) ≡ Some (runs past)
    go None stands some = let clash : false ≡ true = sym (ap (λ c. is_some (option_map (λ c. c.run) c)) stands) ∙ some in absurd (cc clash)
    go (Some c) stands some = ap (λ c. option_map (λ c. c.run) c) stands ∙ ap Some (child-present past c (sound past lawful).0 stands).0

-- ---- the first with a child after a text

-- if no job whose label passes has a child, none with a child passes
pub none-with-child : (at : Reading) (q : Label → Bool) (es : List JobSlot) (jobs : List Job) → KeepsJobs at (rows es) jobs →
    ((k : ℕ) (e : JobSlot) → slice_get es k ≡ Some e → q e.def.label ≡ true → e.has_gone ≡ false → (past : History) → Keeps e.core.facts past → is_some (child past) ≡ false) → list_any q (with_child jobs) ≡ false
none-with-child at q [] [] keeps none = refl
none-with-child at q [] (job ∷ jobs) keeps none = absurd keeps
none-with-child at q (e ∷ es) jobs keeps none = go e.has_gone refl jobs keeps (λ js kept. none-with-child at q es js kept (λ k x there. none (suc k) x there))
  where
    go : (b : Bool) → e.has_gone ≡ b → (jobs : List Job) → KeepsJobs at (cond b (rows es) (row e ∷ rows es)) jobs →
        ((js : List Job) → KeepsJobs at (rows es) js → list_any q (with_child js) ≡ false) → list_any q (with_child jobs) ≡ false
    go true going jobs keeps later = later jobs keeps
    go false going [] keeps later = absurd keeps
    go false going (job ∷ jobs) keeps later = one (child job.past) refl
      where
        passes : (c : Child) → child job.past ≡ Some c → (b : Bool) → q job.label ≡ b → b ≡ false
        passes c is false apart = refl
        passes c is true held =
            let clash : true ≡ false = sym (ap is_some is) ∙ none 0 e refl (ap q keeps.0.label ∙ held) going job.past keeps.0.keeps in absurd (cc clash)

        one : (o : Option Child) → child job.past ≡ o → list_any q (cons_option (option_map (λ c. job.label) o) (with_child jobs)) ≡ false
        one None is = later jobs keeps.1
        one (Some c) is = λ i. passes c is (q job.label) refl i || later jobs keeps.1 i

pub one-with-child : (at : Reading) (es : List JobSlot) (jobs : List Job) (k : ℕ) (e : JobSlot) → KeepsJobs at (rows es) jobs → slice_get es k ≡ Some e → e.has_gone ≡ false →
    ((past : History) → Keeps e.core.facts past → is_some (child past) ≡ true) → list_any (is_same e.def.label) (with_child jobs) ≡ true
one-with-child at [] jobs zero e keeps there stay has = cc
one-with-child at [] jobs (suc k) e keeps there stay has = cc
one-with-child at (x ∷ xs) jobs zero e keeps there stay has =
    let same : x ≡ e = cc in
    go x.has_gone (ap (λ y. y.has_gone) same ∙ stay) jobs keeps
  where
    go : (b : Bool) → b ≡ false → (jobs : List Job) → KeepsJobs at (cond b (rows xs) (row x ∷ rows xs)) jobs → list_any (is_same e.def.label) (with_child jobs) ≡ true
    go true is jobs keeps = cc
    go false is [] keeps = absurd keeps
    go false is (job ∷ jobs) keeps = one (child job.past) refl
      where
        own : x ≡ e
        own = cc

        kept : Keeps e.core.facts job.past
        kept = subst (λ y. Keeps y.core.facts job.past) own keeps.0.keeps

        one : (o : Option Child) → child job.past ≡ o → list_any (is_same e.def.label) (cons_option (option_map (λ c. job.label) o) (with_child jobs)) ≡ true
        one None is = let clash : false ≡ true = sym (ap is_some is) ∙ has job.past kept in absurd (cc clash)
        one (Some c) is =
            let label : job.label ≡ e.def.label = sym keeps.0.label ∙ ap (λ y. y.def.label) own in
            ap (λ b. b || list_any (is_same e.def.label) (with_child jobs)) (ap (is_same e.def.label) label ∙ same_self e.def.label)
one-with-child at (x ∷ xs) jobs (suc k) e keeps there stay has = go x.has_gone jobs keeps (λ js kept. one-with-child at xs js k e kept there stay has)
  where
    go : (b : Bool) (jobs : List Job) → KeepsJobs at (cond b (rows xs) (row x ∷ rows xs)) jobs →
        ((js : List Job) → KeepsJobs at (rows xs) js → list_any (is_same e.def.label) (with_child js) ≡ true) → list_any (is_same e.def.label) (with_child jobs) ≡ true
    go true jobs keeps later = later jobs keeps
    go false [] keeps later = absurd keeps
    go false (job ∷ jobs) keeps later = one (child job.past)
      where
        one : (o : Option Child) → list_any (is_same e.def.label) (cons_option (option_map (λ c. job.label) o) (with_child jobs)) ≡ true
        one None = later jobs keeps.1
        one (Some c) = or-second (is_same e.def.label job.label) (list_any (is_same e.def.label) (with_child jobs)) (later jobs keeps.1)

-- no job that was passed, of those after the text, has a child
abbrev pub ArePassedBy : List ℕ → List JobSlot → ℕ → Type 0
ArePassedBy text es place = (k : ℕ) (e : JobSlot) → slice_get es k ≡ Some e → k < place → is_before text e.def.label ≡ true → e.has_gone ≡ false →
    (past : History) → Keeps e.core.facts past → is_some (child past) ≡ false

pub passed-more : (text : List ℕ) (es : List JobSlot) (place : ℕ) (one : JobSlot) → slice_get es place ≡ Some one →
    (one.has_gone ≡ false → (past : History) → Keeps one.core.facts past → is_some (child past) ≡ false) → ArePassedBy text es place → ArePassedBy text es (place + 1)
passed-more text es place one at own before k e there low behind stay = go (k == place) refl
  where
    go : (b : Bool) → (k == place) ≡ b → (past : History) → Keeps e.core.facts past → is_some (child past) ≡ false
    go true is =
        let same : place ≡ k = grind (arith, nat_tests, is) in
        let found : Some one ≡ Some e = sym at ∙ ap (slice_get es) same ∙ there in
        let equal : one ≡ e = cc in
        subst (λ x. (past : History) → Keeps x.core.facts past → is_some (child past) ≡ false) equal (own (ap (λ x. x.has_gone) equal ∙ stay))
    go false apart = before k e there (grind (arith, nat_tests, low, apart)) behind stay

pub nearest-child : (at : Reading) (text : List ℕ) (es : List JobSlot) (order : AreInOrder (labels_in (map name es))) (jobs : List Job) (k : ℕ) (e : JobSlot) → KeepsJobs at (rows es) jobs →
    slice_get es k ≡ Some e → is_before text e.def.label ≡ true → e.has_gone ≡ false → ((past : History) → Keeps e.core.facts past → is_some (child past) ≡ true) → ArePassedBy text es k →
    IsNearest text (with_child jobs) e.def.label
nearest-child at text es order jobs k e keeps there behind stay has passed = record {
  among = one-with-child at es jobs k e keeps there stay has;
  after = behind;
  nearest = none-with-child at (λ other. is_before text other && is_before other e.def.label) es jobs keeps
      (λ j y here between. (let both = and-both (is_before text y.def.label) (is_before y.def.label e.def.label) between in passed j y here (nearer j y here both.1) both.0));
}
  where
    nearer : (j : ℕ) (y : JobSlot) → slice_get es j ≡ Some y → is_before y.def.label e.def.label ≡ true → j < k
    nearer j y here before = go (nat_lt j k) refl (j == k) refl
      where
        go : (b : Bool) → nat_lt j k ≡ b → (c : Bool) → (j == k) ≡ c → j < k
        go true low c eq = grind (arith, low)
        go false low true eq =
            let same : k ≡ j = grind (arith, nat_tests, eq) in
            let found : Some e ≡ Some y = sym there ∙ ap (slice_get es) same ∙ here in
            let equal : e ≡ y = cc in
            let clash : true ≡ false = sym before ∙ ap (λ x. is_before x.def.label e.def.label) (sym equal) ∙ not-before-self e.def.label in absurd (cc clash)
        go false low false eq =
            let less : k < j = grind (arith, nat_tests, low, eq) in
            let clash : true ≡ false = sym (before-trans e.def.label y.def.label e.def.label (in-order es order k j e y less there here) before) ∙ not-before-self e.def.label in absurd (cc clash)

-- ---- where the jobs after a text begin

module _ (text : List ℕ) where
  first-before : (es : List JobSlot) (p k : ℕ) (e : JobSlot) → IsFirstWhere (is_above text) es p → k < p → slice_get es k ≡ Some e → is_above text e ≡ false
  first-before [] p k e first low there = absurd first
  first-before (x ∷ xs) zero k e first low there = absurd (omega (arith, low))
  first-before (x ∷ xs) (suc p) zero e first low there = let same : x ≡ e = cc in ap (is_above text) (sym same) ∙ first.0
  first-before (x ∷ xs) (suc p) (suc k) e first low there = first-before xs p k e first.1 (omega (arith, low)) there

  pub none-above-before : (es : List JobSlot) (k : ℕ) (e : JobSlot) → slice_get es k ≡ Some e → k < place_for text es → is_above text e ≡ false
  none-above-before es k e there low = go (position (is_above text) es) refl low
    where
      go : (o : Option ℕ) → position (is_above text) es ≡ o → k < unwrap_or o (length es) → is_above text e ≡ false
      go None is low = none-at (is_above text) es (none-where (is_above text) es (sym is)) k e there
      go (Some p) is low = first-before es p k e (first-where (is_above text) es p (sym is)) low there

  pub all-above-from : (es : List JobSlot) → AreInOrder (labels_in (map name es)) → (k : ℕ) (e : JobSlot) → slice_get es k ≡ Some e → place_for text es ≤ k → is_above text e ≡ true
  all-above-from es order k e there up = go (position (is_above text) es) refl up
    where
      go : (o : Option ℕ) → position (is_above text) es ≡ o → unwrap_or o (length es) ≤ k → is_above text e ≡ true
      go None is up = let within = slice_get_within es k e there in absurd (omega (arith, up, within))
      go (Some p) is up = by (p == k) refl
        where
          first : IsFirstWhere (is_above text) es p
          first = first-where (is_above text) es p (sym is)

          at-p : slice_get es p ≡ Some (get_or es p e)
          at-p = slice_get-get_or es p e (within-where (is_above text) es p first)

          by : (b : Bool) → (p == k) ≡ b → is_above text e ≡ true
          by true eq =
              let same : p ≡ k = grind (arith, nat_tests, eq) in
              let found : Some (get_or es p e) ≡ Some e = sym at-p ∙ ap (slice_get es) same ∙ there in
              let equal : get_or es p e ≡ e = cc in
              ap (is_above text) (sym equal) ∙ passes-at (is_above text) es p e first
          by false apart =
              let less : p < k = grind (arith, nat_tests, apart, up) in
              before-trans text (get_or es p e).def.label e.def.label (passes-at (is_above text) es p e first) (in-order es order p k (get_or es p e) e less at-p there)
