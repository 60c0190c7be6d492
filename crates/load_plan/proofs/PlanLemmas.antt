-- The steps for a list of labels, label by label: each has its operation, and once.
use Rattle.std.proofs.Common.{◌≡◌, ◌==◌, ◌+◌, ◌<◌, ◌||◌, ◌&&◌, ℕ, Bool, true, false, List, [], ◌∷◌, ◌++◌, Option, Some, None, cond, find, map, take, length, get_or, is_some, count_by, refl, sym, ◌∙◌, ap, subst}
use Rattle.std.proofs.lemmas.List.{map-append, take_more}
use Rattle.std.proofs.lemmas.List.Folds.{find-append}
use Rattle.std.specs.List.{list_any}
use Rattle.std.specs.Str.{bytes_eq}
use Rattle.std.specs.Borrow.{Bor}
use Rattle.std.proofs.lemmas.Slice.Eq.{bytes_eq-Decides}
use Rattle.std.specs.Option.{option_or}
use Rattle.load_plan.specs.declared.Reason.{Reason}
use Rattle.load_plan.specs.declared.FileVerdict.{FileVerdict}
use Rattle.load_plan.specs.declared.LoadedJob.{LoadedJob}
use Rattle.load_plan.specs.declared.Flags.{Flags}
use Rattle.load_plan.specs.declared.Choice.TheVariants.{Nobody}
use Rattle.load_plan.specs.declared.Operation.{Operation}
use Rattle.load_plan.specs.declared.Operation.TheVariants.{Load, Replace, Unload, Leave}
use Rattle.load_plan.specs.declared.PlannedStep.{PlannedStep}
use Rattle.load_plan.specs.Plan.{claims, claims_by_name, only, sole, choice_of, decider, has_unread, has_heir, block_at, job_at, bar, held, decided, operation_of, step_operation, has_step, operation_in, AreOnce, with_operation, with_operations, unload_only, CoversUnloads, HasOperations}

none_last : {A : Type 0} → (o : Option A) → option_or o None ≡ o
none_last None = refl
none_last (Some x) = refl

same_twice : {A : Type 0} → (o : Option A) → option_or o o ≡ o
same_twice None = refl
same_twice (Some x) = refl

or_assoc : {A : Type 0} → (a b c : Option A) → option_or (option_or a b) c ≡ option_or a (option_or b c)
or_assoc None b c = refl
or_assoc (Some x) b c = refl

step_operation_or : (a b : Option PlannedStep) → step_operation (option_or a b) ≡ option_or (step_operation a) (step_operation b)
step_operation_or None b = refl
step_operation_or (Some x) b = refl

last_operation : (test : Bool) (step : PlannedStep) → step_operation (cond test (Some step) None) ≡ cond test (Some step.operation) None
last_operation true step = refl
last_operation false step = refl

-- the operation at a label, with one more step
pub operation_in_more : (steps : List PlannedStep) (step : PlannedStep) (q : List ℕ) →
    operation_in (steps ++ step ∷ []) q ≡ option_or (operation_in steps q) (cond (bytes_eq step.label.now q) (Some step.operation) None)
operation_in_more steps step q =
    ap step_operation (find-append (has_step q) steps (step ∷ []))
    ∙ step_operation_or (find (has_step q) steps) (find (has_step q) (step ∷ []))
    ∙ ap (λ o. option_or (operation_in steps q) o) (last_operation (bytes_eq step.label.now q) step)

nothing_more : {A : Type 0} → (test : Bool) (o : Option A) → o ≡ option_or o (cond test None None)
nothing_more true o = sym (none_last o)
nothing_more false o = sym (none_last o)

already : (known : Option Operation) (test : Bool) (operation other : Operation) → (test ≡ true → known ≡ Some other) →
    known ≡ option_or known (cond test (Some operation) None)
already known false operation other is_known = sym (none_last known)
already None true operation other is_known = let e : None ≡ Some other = is_known refl in cc
already (Some x) true operation other is_known = refl

pub equal_of_test : (a b : List ℕ) → bytes_eq a b ≡ true → a ≡ b
equal_of_test a b e = (bytes_eq-Decides a b).0 e

pub test_of_equal : (a b : List ℕ) → a ≡ b → bytes_eq a b ≡ true
test_of_equal a b same = (bytes_eq-Decides a b).1 same

pub same_text : (a : List ℕ) → bytes_eq a a ≡ true
same_text a = (bytes_eq-Decides a a).1 refl

back : (a b : List ℕ) (forth : Bool) → bytes_eq b a ≡ forth → bytes_eq a b ≡ false → forth ≡ false
back a b true is other =
    let same : b ≡ a = equal_of_test b a is in
    sym (subst (λ l. bytes_eq l b ≡ true) same (same_text b)) ∙ other
back a b false is other = refl

pub test_back : (a b : List ℕ) → bytes_eq a b ≡ false → bytes_eq b a ≡ false
test_back a b other = back a b (bytes_eq b a) refl other

put_operation : (steps : List PlannedStep) (label : Bor (List ℕ)) (q : List ℕ) (operation : Operation) (known : Option Operation) → operation_in steps label.now ≡ known →
    operation_in (cond (is_some known) steps (steps ++ record { label = label; operation = operation } ∷ [])) q
    ≡ option_or (operation_in steps q) (cond (bytes_eq label.now q) (Some operation) None)
put_operation steps label q operation None is = operation_in_more steps (record { label = label; operation = operation }) q
put_operation steps label q operation (Some other) is =
    already (operation_in steps q) (bytes_eq label.now q) operation other (λ e. subst (λ l. operation_in steps l ≡ Some other) (equal_of_test label.now q e) is)

pub with_operation_at : (steps : List PlannedStep) (label : Bor (List ℕ)) (q : List ℕ) (operation : Option Operation) →
    operation_in (with_operation steps label operation) q ≡ option_or (operation_in steps q) (cond (bytes_eq label.now q) operation None)
with_operation_at steps label q None = nothing_more (bytes_eq label.now q) (operation_in steps q)
with_operation_at steps label q (Some operation) = put_operation steps label q operation (operation_in steps label.now) refl

joined : (own others : Bool) (a b : Option Operation) → (own ≡ true → a ≡ b) →
    option_or (cond own a None) (cond others b None) ≡ cond (own || others) b None
joined false others a b same = refl
joined true true a b same = ap (λ o. option_or o b) (same refl) ∙ same_twice b
joined true false a b same = none_last a ∙ same refl

pub with_operations_at : (operation : List ℕ → Option Operation) (labels : List (Bor (List ℕ))) (steps : List PlannedStep) (q : List ℕ) →
    operation_in (with_operations operation labels steps) q ≡ option_or (operation_in steps q) (cond (list_any (λ label. bytes_eq label.now q) labels) (operation q) None)
with_operations_at operation [] steps q = sym (none_last (operation_in steps q))
with_operations_at operation (label ∷ labels) steps q =
    let others = list_any (λ l. bytes_eq l.now q) labels in
    with_operations_at operation labels (with_operation steps label (operation label.now)) q
    ∙ ap (λ o. option_or o (cond others (operation q) None)) (with_operation_at steps label q (operation label.now))
    ∙ or_assoc (operation_in steps q) (cond (bytes_eq label.now q) (operation label.now) None) (cond others (operation q) None)
    ∙ ap (λ o. option_or (operation_in steps q) o) (joined (bytes_eq label.now q) others (operation label.now) (operation q) (λ e. ap operation (equal_of_test label.now q e)))

pub any-map : {A B : Type 0} → (test : B → Bool) (f : A → B) (xs : List A) → list_any test (map f xs) ≡ list_any (λ x. test (f x)) xs
any-map test f [] = refl
any-map test f (x ∷ xs) = ap (λ b. test (f x) || b) (any-map test f xs)

or_false : (a b : Bool) → (a || b) ≡ false → (a ≡ false) × (b ≡ false)
or_false true b e = (e, absurd (elim_true e))
  where
    elim_true : true ≡ false → ⊥
    elim_true e = cc
or_false false b e = (refl, e)

found_none : {A : Type 0} → (test : A → Bool) (x : A) (rest : Option A) (b : Bool) → b ≡ false → rest ≡ None → cond b (Some x) rest ≡ None
found_none test x rest b fails none = ap (λ t. cond t (Some x) rest) fails ∙ none

pub find_none : {A : Type 0} → (test : A → Bool) (xs : List A) → list_any test xs ≡ false → find test xs ≡ None
find_none test [] none = refl
find_none test (x ∷ xs) none =
    let both = or_false (test x) (list_any test xs) none in
    found_none test x (find test xs) (test x) both.0 (find_none test xs both.1)

find_none_by_name : (q : List ℕ) (files : List FileVerdict) → list_any (claims q) files ≡ false → find (claims_by_name q) files ≡ None
find_none_by_name q [] none = refl
find_none_by_name q (file ∷ files) none =
    let both = or_false (bytes_eq file.label.now q) (list_any (claims q) files) none in
    found_none (claims_by_name q) file (find (claims_by_name q) files) (bytes_eq file.label.now q && file.is_named)
    (ap (λ b. b && file.is_named) both.0) (find_none_by_name q files both.1)

only_none : (one : Bool) → let nothing : Option FileVerdict = None in cond one nothing nothing ≡ nothing
only_none true = refl
only_none false = refl

held_none : (why : Option Reason) → held why None ≡ None
held_none None = refl
held_none (Some why) = refl

nobody : (files : List FileVerdict) (q : List ℕ) → list_any (claims q) files ≡ false → decider files q ≡ Nobody
nobody files q none =
    let none_sole : sole (claims q) files ≡ None = ap (only (count_by (claims q) files)) (find_none (claims q) files none) ∙ only_none (count_by (claims q) files == 1) in
    let none_named : sole (claims_by_name q) files ≡ None = ap (only (count_by (claims_by_name q) files)) (find_none_by_name q files none) ∙ only_none (count_by (claims_by_name q) files == 1) in
    ap (λ o. choice_of (option_or o (sole (claims q) files)) (list_any (claims q) files)) none_named
    ∙ ap (λ o. choice_of o (list_any (claims q) files)) none_sole
    ∙ ap (λ b. choice_of None b) none

-- a label that no file names and no job has has no operation
no_operation : (files : List FileVerdict) (loaded : List LoadedJob) (flags : Flags) (q : List ℕ) →
    list_any (claims q) files ≡ false → list_any (λ job. bytes_eq job.label.now q) loaded ≡ false → operation_of files loaded flags q ≡ None
no_operation files loaded flags q unclaimed unloaded =
    ap (λ choice. decided flags (has_unread files) (has_heir files q) (block_at files loaded flags choice) choice (job_at loaded q)) (nobody files q unclaimed)
    ∙ ap (λ job. decided flags (has_unread files) (has_heir files q) None Nobody job) (find_none (λ job. bytes_eq job.label.now q) loaded unloaded)
    ∙ held_none (bar flags)

both_passes : (a b : Bool) (operation : Option Operation) → (a ≡ false → b ≡ false → operation ≡ None) →
    option_or (cond a operation None) (cond b operation None) ≡ operation
both_passes true true operation none = same_twice operation
both_passes true false operation none = none_last operation
both_passes false true operation none = refl
both_passes false false operation none = sym (none refl refl)

-- the unloads, which come first, are among what the jobs have
first_same : (a : Bool) (operation : Option Operation) → option_or (cond a (unload_only operation) None) (cond a operation None) ≡ cond a operation None
first_same false operation = refl
first_same true None = refl
first_same true (Some Unload) = refl
first_same true (Some (Load file)) = refl
first_same true (Some (Replace file)) = refl
first_same true (Some (Leave why)) = refl

-- what the first pass has of a label
pub first_at : (files : List FileVerdict) (loaded : List LoadedJob) (flags : Flags) (none first : List PlannedStep) (q : List ℕ) → none ≡ [] →
    CoversUnloads (map (λ job. job.label) loaded) files loaded flags none first →
    operation_in first q ≡ cond (list_any (λ label. bytes_eq label.now q) (map (λ job. job.label) loaded)) (unload_only (operation_of files loaded flags q)) None
first_at files loaded flags none first q is_none is_first =
    let unload : List ℕ → Option Operation = λ label. unload_only (operation_of files loaded flags label) in
    let a = list_any (λ label. bytes_eq label.now q) (map (λ job. job.label) loaded) in
    ap (λ list. operation_in list q) is_first
    ∙ with_operations_at unload (map (λ job. job.label) loaded) none q
    ∙ ap (λ list. option_or (operation_in list q) (cond a (unload q) None)) is_none

-- the steps for the labels of the jobs and of the files are the operations of all labels
pub has_operations : (files : List FileVerdict) (loaded : List LoadedJob) (flags : Flags) (none first middle steps : List PlannedStep) → none ≡ [] →
    CoversUnloads (map (λ job. job.label) loaded) files loaded flags none first →
    middle ≡ with_operations (operation_of files loaded flags) (map (λ job. job.label) loaded) first →
    steps ≡ with_operations (operation_of files loaded flags) (map (λ file. file.label) files) middle →
    HasOperations files loaded flags steps
has_operations files loaded flags none first middle steps is_none is_first is_middle is_steps = λ q.
    let operation = operation_of files loaded flags in
    let a = list_any (λ label. bytes_eq label.now q) (map (λ job. job.label) loaded) in
    let b = list_any (λ label. bytes_eq label.now q) (map (λ file. file.label) files) in
    let half : operation_in middle q ≡ cond a (operation q) None =
    ap (λ list. operation_in list q) is_middle
    ∙ with_operations_at operation (map (λ job. job.label) loaded) first q
    ∙ ap (λ o. option_or o (cond a (operation q) None)) (first_at files loaded flags none first q is_none is_first)
    ∙ first_same a (operation q) in
    ap (λ list. operation_in list q) is_steps
    ∙ with_operations_at operation (map (λ file. file.label) files) middle q
    ∙ ap (λ o. option_or o (cond b (operation q) None)) half
    ∙ both_passes a b (operation q) (λ no_job no_file.
    no_operation files loaded flags q
    (sym (any-map (λ label. bytes_eq label.now q) (λ file. file.label) files) ∙ no_file)
    (sym (any-map (λ label. bytes_eq label.now q) (λ job. job.label) loaded) ∙ no_job))

behind : (test : Bool) (step : PlannedStep) (rest : Option PlannedStep) → step_operation (cond test (Some step) rest) ≡ None → (test ≡ false) × (step_operation rest ≡ None)
behind true step rest none = let e : Some step.operation ≡ None = none in cc
behind false step rest none = (refl, none)

once_more : (steps : List PlannedStep) (step : PlannedStep) → AreOnce steps → operation_in steps step.label.now ≡ None → AreOnce (steps ++ step ∷ [])
once_more [] step once none = (refl, tt)
once_more (first ∷ steps) step once none =
    let split = behind (bytes_eq first.label.now step.label.now) first (find (has_step step.label.now) steps) none in
    let alone : operation_in (steps ++ step ∷ []) first.label.now ≡ None =
    operation_in_more steps step first.label.now
    ∙ ap (λ o. option_or o (cond (bytes_eq step.label.now first.label.now) (Some step.operation) None)) once.0
    ∙ ap (λ b. cond b (Some step.operation) None) (test_back first.label.now step.label.now split.0) in
    (alone, once_more steps step once.1 split.1)

put_once : (steps : List PlannedStep) (label : Bor (List ℕ)) (operation : Operation) (known : Option Operation) → operation_in steps label.now ≡ known → AreOnce steps →
    AreOnce (cond (is_some known) steps (steps ++ record { label = label; operation = operation } ∷ []))
put_once steps label operation None is once = once_more steps (record { label = label; operation = operation }) once is
put_once steps label operation (Some other) is once = once

with_operation_once : (steps : List PlannedStep) (label : Bor (List ℕ)) (operation : Option Operation) → AreOnce steps → AreOnce (with_operation steps label operation)
with_operation_once steps label None once = once
with_operation_once steps label (Some operation) once = put_once steps label operation (operation_in steps label.now) refl once

pub with_operations_once : (operation : List ℕ → Option Operation) (labels : List (Bor (List ℕ))) (steps : List PlannedStep) → AreOnce steps → AreOnce (with_operations operation labels steps)
with_operations_once operation [] steps once = once
with_operations_once operation (label ∷ labels) steps once = with_operations_once operation labels (with_operation steps label (operation label.now)) (with_operation_once steps label (operation label.now) once)

-- the passes leave each label once
pub are_once : (unload operation : List ℕ → Option Operation) (jobs files : List (Bor (List ℕ))) (none first middle steps : List PlannedStep) → none ≡ [] →
    first ≡ with_operations unload jobs none → middle ≡ with_operations operation jobs first → steps ≡ with_operations operation files middle → AreOnce steps
are_once unload operation jobs files none first middle steps is_none is_first is_middle is_steps =
    let start : AreOnce none = subst AreOnce (sym is_none) tt in
    let begun : AreOnce first = subst AreOnce (sym is_first) (with_operations_once unload jobs none start) in
    let half : AreOnce middle = subst AreOnce (sym is_middle) (with_operations_once operation jobs first begun) in
    subst AreOnce (sym is_steps) (with_operations_once operation files middle half)

with_operations-append : (operation : List ℕ → Option Operation) (front back : List (Bor (List ℕ))) (steps : List PlannedStep) →
    with_operations operation (front ++ back) steps ≡ with_operations operation back (with_operations operation front steps)
with_operations-append operation [] back steps = refl
with_operations-append operation (label ∷ front) back steps = with_operations-append operation front back (with_operation steps label (operation label.now))

-- the next of a list of things that have labels
pub next_operation : {A : Type 0} → (operation : List ℕ → Option Operation) (label_of : A → Bor (List ℕ)) (items : List A) (at : ℕ) (other : A) (found : Option Operation) (old before after : List PlannedStep) →
    at < length items → found ≡ operation (label_of (get_or items at other)).now → before ≡ with_operations operation (map label_of (take at items)) old →
    after ≡ with_operation before (label_of (get_or items at other)) found →
    after ≡ with_operations operation (map label_of (take (at + 1) items)) old
next_operation operation label_of items at other found old before after is_there is_found is_before is_after =
    let item = get_or items at other in
    is_after
    ∙ ap (λ o. with_operation before (label_of item) o) is_found
    ∙ ap (λ list. with_operation list (label_of item) (operation (label_of item).now)) is_before
    ∙ sym (with_operations-append operation (map label_of (take at items)) (label_of item ∷ []) old)
    ∙ ap (λ labels. with_operations operation labels old) (sym (map-append label_of (take at items) (item ∷ [])))
    ∙ ap (λ list. with_operations operation (map label_of list) old) (sym (take_more items at other is_there))
