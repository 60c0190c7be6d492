-- What is unloaded for good comes before all else.
use Rattle.std.proofs.Common.{◌≡◌, ◌||◌, ℕ, Bool, true, false, not, List, [], ◌∷◌, ◌++◌, Option, Some, None, cond, map, is_some, refl, sym, ◌∙◌, ap, subst}
use Rattle.std.specs.Option.{option_or}
use Rattle.std.specs.List.{list_any}
use Rattle.std.specs.Str.{bytes_eq}
use Rattle.std.specs.Borrow.{Bor}
use Rattle.load_plan.specs.declared.Reason.{Reason}
use Rattle.load_plan.specs.declared.Reason.TheVariants as reason
use Rattle.load_plan.specs.declared.FileVerdict.{FileVerdict}
use Rattle.load_plan.specs.declared.LoadedJob.{LoadedJob}
use Rattle.load_plan.specs.declared.Flags.{Flags}
use Rattle.load_plan.specs.declared.Choice.{Choice}
use Rattle.load_plan.specs.declared.Choice.TheVariants.{Nobody, One, Several}
use Rattle.load_plan.specs.declared.Operation.{Operation}
use Rattle.load_plan.specs.declared.Operation.TheVariants.{Load, Replace, Unload, Leave}
use Rattle.load_plan.specs.declared.PlannedStep.{PlannedStep}
use Rattle.load_plan.specs.Plan.{decider, has_unread, has_heir, block_at, job_at, fault, bar, free_operation, operation_of, operation_in, with_operation, with_operations, unload_only, CoversUnloads}
use Rattle.load_plan.specs.Laws.{unloads, unloads_first}
use Rattle.load_plan.proofs.PlanLemmas.{any-map, find_none, first_at, with_operation_at}
use Rattle.load_plan.proofs.AfterLemmas.{file_unloads}
use Rattle.load_plan.proofs.StepsLemmas.{held_unloads}

-- ---- the first pass: unloads alone

abbrev AllUnload : List PlannedStep → Type 0
AllUnload [] = Unit {0}
AllUnload (step ∷ steps) = (unloads step ≡ true) × AllUnload steps

all_first : (steps : List PlannedStep) → AllUnload steps → unloads_first steps ≡ true
all_first [] all = refl
all_first (step ∷ steps) all = ap (λ b. cond b (unloads_first steps) (not (list_any unloads steps))) all.0 ∙ all_first steps all.1

all_more : (steps : List PlannedStep) (step : PlannedStep) → AllUnload steps → unloads step ≡ true → AllUnload (steps ++ step ∷ [])
all_more [] step all is = (is, tt)
all_more (first ∷ steps) step all is = (all.0, all_more steps step all.1 is)

put_unload : (steps : List PlannedStep) (label : Bor (List ℕ)) (known : Bool) → AllUnload steps →
    AllUnload (cond known steps (steps ++ record { label = label; operation = Unload } ∷ []))
put_unload steps label true all = all
put_unload steps label false all = all_more steps (record { label = label; operation = Unload }) all refl

one_unload : (steps : List PlannedStep) (label : Bor (List ℕ)) (operation : Option Operation) → AllUnload steps → AllUnload (with_operation steps label (unload_only operation))
one_unload steps label None all = all
one_unload steps label (Some Unload) all = put_unload steps label (is_some (operation_in steps label.now)) all
one_unload steps label (Some (Load file)) all = all
one_unload steps label (Some (Replace file)) all = all
one_unload steps label (Some (Leave why)) all = all

all_unload : (operation : List ℕ → Option Operation) (labels : List (Bor (List ℕ))) (steps : List PlannedStep) → AllUnload steps →
    AllUnload (with_operations (λ label. unload_only (operation label)) labels steps)
all_unload operation [] steps all = all
all_unload operation (label ∷ labels) steps all =
    all_unload operation labels (with_operation steps label (unload_only (operation label.now))) (one_unload steps label (operation label.now) all)

-- ---- the other passes add no unload: each is there already

any_more : (steps : List PlannedStep) (step : PlannedStep) → unloads step ≡ false → list_any unloads (steps ++ step ∷ []) ≡ list_any unloads steps
any_more [] step other = ap (λ b. b || false) other
any_more (first ∷ steps) step other = ap (λ b. unloads first || b) (any_more steps step other)

alone : (b : Bool) → cond b true (not false) ≡ true
alone true = refl
alone false = refl

grown : (b a more any any_more : Bool) → (a ≡ true → more ≡ true) → any_more ≡ any → cond b a (not any) ≡ true → cond b more (not any_more) ≡ true
grown true a more any any_more keeps same is = keeps is
grown false a more any any_more keeps same is = ap not same ∙ is

first_more : (steps : List PlannedStep) (step : PlannedStep) → unloads step ≡ false → unloads_first steps ≡ true → unloads_first (steps ++ step ∷ []) ≡ true
first_more [] step other is = alone (unloads step)
first_more (first ∷ steps) step other is =
    grown (unloads first) (unloads_first steps) (unloads_first (steps ++ step ∷ [])) (list_any unloads steps) (list_any unloads (steps ++ step ∷ []))
    (λ before. first_more steps step other before) (any_more steps step other) is

-- each label that is unloaded for good has its step
abbrev Has : (List ℕ → Option Operation) → List PlannedStep → Type 0
Has operation steps = (q : List ℕ) → operation q ≡ Some Unload → is_some (operation_in steps q) ≡ true

put_first : (steps : List PlannedStep) (label : Bor (List ℕ)) (operation : Operation) (known : Bool) → (Some operation ≡ Some Unload → known ≡ true) → unloads_first steps ≡ true →
    unloads_first (cond known steps (steps ++ record { label = label; operation = operation } ∷ [])) ≡ true
put_first steps label operation true has is = is
put_first steps label (Load file) false has is = first_more steps (record { label = label; operation = Load file }) refl is
put_first steps label (Replace file) false has is = first_more steps (record { label = label; operation = Replace file }) refl is
put_first steps label (Leave why) false has is = first_more steps (record { label = label; operation = Leave why }) refl is
put_first steps label Unload false has is = let e : false ≡ true = has refl in cc

one_first : (steps : List PlannedStep) (label : Bor (List ℕ)) (operation : Option Operation) → (operation ≡ Some Unload → is_some (operation_in steps label.now) ≡ true) →
    unloads_first steps ≡ true → unloads_first (with_operation steps label operation) ≡ true
one_first steps label None has is = is
one_first steps label (Some operation) has is = put_first steps label operation (is_some (operation_in steps label.now)) has is

some_stays : (a b : Option Operation) → is_some a ≡ true → is_some (option_or a b) ≡ true
some_stays None b is = let e : false ≡ true = is in cc
some_stays (Some a) b is = refl

has_more : (operation : List ℕ → Option Operation) (steps : List PlannedStep) (label : Bor (List ℕ)) → Has operation steps → Has operation (with_operation steps label (operation label.now))
has_more operation steps label has = λ q is.
    ap is_some (with_operation_at steps label q (operation label.now))
    ∙ some_stays (operation_in steps q) (cond (bytes_eq label.now q) (operation label.now) None) (has q is)

stays_first : (operation : List ℕ → Option Operation) (labels : List (Bor (List ℕ))) (steps : List PlannedStep) → Has operation steps → unloads_first steps ≡ true →
    (unloads_first (with_operations operation labels steps) ≡ true) × Has operation (with_operations operation labels steps)
stays_first operation [] steps has is = (is, has)
stays_first operation (label ∷ labels) steps has is =
    stays_first operation labels (with_operation steps label (operation label.now)) (has_more operation steps label has)
    (one_first steps label (operation label.now) (has label.now) is)

-- ---- what is unloaded for good is loaded, so that the first pass has it

free_loaded : (flags : Flags) (unread renamed : Bool) (block : Option Reason) (choice : Choice) → free_operation flags unread renamed block choice None ≡ Some Unload → ⊥
free_loaded flags unread renamed block Nobody is = let e : None ≡ Some Unload = is in cc
free_loaded flags unread renamed block Several is = let e : Some (Leave reason.Several) ≡ Some Unload = is in cc
free_loaded flags unread renamed block (One file) is = file_unloads flags file (fault file.standing) block None is

unload_loaded : (files : List FileVerdict) (loaded : List LoadedJob) (flags : Flags) (q : List ℕ) → operation_of files loaded flags q ≡ Some Unload →
    list_any (λ job. bytes_eq job.label.now q) loaded ≡ false → ⊥
unload_loaded files loaded flags q is none =
    let free : Option LoadedJob → Option Operation = λ found. free_operation flags (has_unread files) (has_heir files q) (block_at files loaded flags (decider files q)) (decider files q) found in
    free_loaded flags (has_unread files) (has_heir files q) (block_at files loaded flags (decider files q)) (decider files q)
    (subst (λ found. free found ≡ Some Unload) (find_none (λ job. bytes_eq job.label.now q) loaded none)
    (held_unloads (bar flags) (free (job_at loaded q)) is))

first_has : (a : Bool) (operation : Option Operation) → operation ≡ Some Unload → (a ≡ false → ⊥) → is_some (cond a (unload_only operation) None) ≡ true
first_has true operation is loaded = ap (λ o. is_some (unload_only o)) is
first_has false operation is loaded = absurd (loaded refl)

has_first : (files : List FileVerdict) (loaded : List LoadedJob) (flags : Flags) (none first : List PlannedStep) → none ≡ [] →
    CoversUnloads (map (λ job. job.label) loaded) files loaded flags none first → Has (operation_of files loaded flags) first
has_first files loaded flags none first is_none is_first = λ q is.
    ap is_some (first_at files loaded flags none first q is_none is_first)
    ∙ first_has (list_any (λ label. bytes_eq label.now q) (map (λ job. job.label) loaded)) (operation_of files loaded flags q) is
    (λ none. unload_loaded files loaded flags q is (sym (any-map (λ label. bytes_eq label.now q) (λ job. job.label) loaded) ∙ none))

pub in_order : (files : List FileVerdict) (loaded : List LoadedJob) (flags : Flags) (none first middle steps : List PlannedStep) → none ≡ [] →
    CoversUnloads (map (λ job. job.label) loaded) files loaded flags none first →
    middle ≡ with_operations (operation_of files loaded flags) (map (λ job. job.label) loaded) first →
    steps ≡ with_operations (operation_of files loaded flags) (map (λ file. file.label) files) middle → unloads_first steps ≡ true
in_order files loaded flags none first middle steps is_none is_first is_middle is_steps =
    let operation = operation_of files loaded flags in
    let start : AllUnload none = subst AllUnload (sym is_none) tt in
    let begun : unloads_first first ≡ true =
    all_first first (subst AllUnload (sym is_first) (all_unload operation (map (λ job. job.label) loaded) none start)) in
    let half = stays_first operation (map (λ job. job.label) loaded) first (has_first files loaded flags none first is_none is_first) begun in
    let at_half : unloads_first middle ≡ true = subst (λ list. unloads_first list ≡ true) (sym is_middle) half.0 in
    let has : Has operation middle = subst (Has operation) (sym is_middle) half.1 in
    subst (λ list. unloads_first list ≡ true) (sym is_steps) (stays_first operation (map (λ file. file.label) files) middle has at_half).0
