-- A file that has another label now: its former label is known, so its job moves whole.
use Rattle.std.proofs.Common.{◌≡◌, ◌==◌, ◌||◌, ◌&&◌, ◌⊎◌, inl, inr, ℕ, Bool, true, false, List, [], ◌∷◌, Option, Some, None, cond, find, count_by, refl, sym, ◌∙◌, ap, subst, arith}
use Rattle.std.proofs.lemmas.Bool.Decides.{nat_tests}
use Rattle.std.specs.List.{list_any}
use Rattle.std.specs.Option.{option_or}
use Rattle.std.specs.Borrow.{Bor}
use Rattle.load_plan.specs.declared.FileState.{FileState}
use Rattle.load_plan.specs.declared.FileState.TheVariants.{Good, Refused, Unread, LeftAtBoot, Disabled}
use Rattle.load_plan.specs.declared.Reason.{Reason}
use Rattle.load_plan.specs.declared.Reason.TheVariants as reason
use Rattle.load_plan.specs.declared.FileVerdict.{FileVerdict}
use Rattle.load_plan.specs.declared.LoadedJob.{LoadedJob}
use Rattle.load_plan.specs.declared.Flags.{Flags}
use Rattle.load_plan.specs.declared.Choice.{Choice}
use Rattle.load_plan.specs.declared.Choice.TheVariants.{Nobody, One, Several}
use Rattle.load_plan.specs.declared.Operation.{Operation}
use Rattle.load_plan.specs.declared.Operation.TheVariants.{Load, Replace, Unload, Leave}
use Rattle.load_plan.specs.declared.PlannedStep.{PlannedStep}
use Rattle.load_plan.specs.Plan.{claims, claims_by_name, sole, choice_of, decider, fault, bar, held, has_unread, change_operation, file_operation, free_operation, orphan_operation, decided, is_good, is_former, is_decided_by, is_heir, has_heir, going_block, old_block, former_block, block_at, job_at, HasOperations}
use Rattle.load_plan.specs.Laws.{MovesWhole, LoadsRightly, loads}
use Rattle.load_plan.proofs.PlanLemmas.{equal_of_test, same_text}

-- what is found is among them, so some item passes each test that it passes
found_any : {A : Type 0} → (other : A → Bool) (y x : A) (rest : List A) (own : Bool) (found : Option A) → cond own (Some y) found ≡ Some x →
    (found ≡ Some x → list_any other rest ≡ true) → other x ≡ true → (other y || list_any other rest) ≡ true
found_any other y x rest true found is more passes =
    let same : y ≡ x = cc in
    ap (λ z. other z || list_any other rest) same ∙ ap (λ b. b || list_any other rest) passes
found_any other y x rest false found is more passes = ap (λ b. other y || b) (more is) ∙ last (other y)
  where
    last : (b : Bool) → (b || true) ≡ true
    last true = refl
    last false = refl

find_any : {A : Type 0} → (test other : A → Bool) (xs : List A) (x : A) → find test xs ≡ Some x → other x ≡ true → list_any other xs ≡ true
find_any test other [] x is passes = let e : None ≡ Some x = is in cc
find_any test other (y ∷ ys) x is passes = found_any other y x ys (test y) (find test ys) is (λ more. find_any test other ys x more passes) passes

found_passes : {A : Type 0} → (test : A → Bool) (y x : A) (own : Bool) (found : Option A) → test y ≡ own → cond own (Some y) found ≡ Some x →
    (found ≡ Some x → test x ≡ true) → test x ≡ true
found_passes test y x true found passes is more = let same : y ≡ x = cc in subst (λ z. test z ≡ true) same passes
found_passes test y x false found passes is more = more is

find_passes : {A : Type 0} → (test : A → Bool) (xs : List A) (x : A) → find test xs ≡ Some x → test x ≡ true
find_passes test [] x is = let e : None ≡ Some x = is in cc
find_passes test (y ∷ ys) x is = found_passes test y x (test y) (find test ys) refl is (λ more. find_passes test ys x more)

one_of : (o : Option FileVerdict) (claimed : Bool) (file : FileVerdict) → choice_of o claimed ≡ One file → o ≡ Some file
one_of (Some f) claimed file is = let e : One f ≡ One file = is in let same : f ≡ file = cc in ap (λ z. Some z) same
one_of None true file is = let e : Several ≡ One file = is in cc
one_of None false file is = let e : Nobody ≡ One file = is in cc

only_some : (one : Bool) (o : Option FileVerdict) (file : FileVerdict) → cond one o None ≡ Some file → o ≡ Some file
only_some true o file is = is
only_some false o file is = let e : None ≡ Some file = is in cc

or_some : (a b : Option FileVerdict) (file : FileVerdict) → option_or a b ≡ Some file → (a ≡ Some file) ⊎ (b ≡ Some file)
or_some (Some f) b file is = inl is
or_some None b file is = inr is

and_first : (a b : Bool) → (a && b) ≡ true → a ≡ true
and_first true b is = refl
and_first false b is = is

-- the deciding file names the label
pub one_claims : (files : List FileVerdict) (label : List ℕ) (file : FileVerdict) → decider files label ≡ One file → claims label file ≡ true
one_claims files label file is =
    elim (or_some (sole (claims_by_name label) files) (sole (claims label) files) file (one_of (option_or (sole (claims_by_name label) files) (sole (claims label) files)) (list_any (claims label) files) file is)) [
      | inl e ↦ and_first (claims label file) file.is_named (find_passes (claims_by_name label) files file (only_some (count_by (claims_by_name label) files == 1) (find (claims_by_name label) files) file e))
      | inr e ↦ find_passes (claims label) files file (only_some (count_by (claims label) files == 1) (find (claims label) files) file e)
    ]

-- the deciding file is among them
one_any : (files : List FileVerdict) (label : List ℕ) (file : FileVerdict) (other : FileVerdict → Bool) → decider files label ≡ One file → other file ≡ true → list_any other files ≡ true
one_any files label file other is passes =
    elim (or_some (sole (claims_by_name label) files) (sole (claims label) files) file (one_of (option_or (sole (claims_by_name label) files) (sole (claims label) files)) (list_any (claims label) files) file is)) [
      | inl e ↦ find_any (claims_by_name label) other files file (only_some (count_by (claims_by_name label) files == 1) (find (claims_by_name label) files) file e) passes
      | inr e ↦ find_any (claims label) other files file (only_some (count_by (claims label) files == 1) (find (claims label) files) file e) passes
    ]

all_three : (a b c : Bool) → a ≡ true → b ≡ true → c ≡ true → (a && b && c) ≡ true
all_three true true true first second third = refl
all_three true true false first second third = third
all_three true false c first second third = second
all_three false b c first second third = first

same_place : (place : ℕ) → (place == place) ≡ true
same_place place = grind (arith, nat_tests)

heir : (files : List FileVerdict) (label : List ℕ) (file : FileVerdict) (former : Bor (List ℕ)) → decider files label ≡ One file → file.former ≡ Some former →
    is_good file.standing ≡ true → has_heir files former.now ≡ true
heir files label file former one was good =
    let own : file.label.now ≡ label = equal_of_test file.label.now label (one_claims files label file one) in
    let decides : decider files file.label.now ≡ One file = ap (λ l. decider files l) own ∙ one in
    one_any files label file (λ f. is_heir files former.now f) one
    (all_three (is_former former.now file.former) (is_good file.standing) (is_decided_by file.place (decider files file.label.now))
    (ap (λ o. is_former former.now o) was ∙ same_text former.now) good
    (ap (λ o. is_decided_by file.place o) decides ∙ same_place file.place))

good_of : (standing : FileState) → fault standing ≡ None → is_good standing ≡ true
good_of Good is = refl
good_of Refused is = let e : Some reason.Refused ≡ None = is in cc
good_of Unread is = let e : Some reason.Unread ≡ None = is in cc
good_of LeftAtBoot is = let e : Some reason.LeftAtBoot ≡ None = is in cc
good_of Disabled is = let e : Some reason.Disabled ≡ None = is in cc

pub record IsFree (why block : Option Reason) : Type 0 where
  pub good : why ≡ None
  pub clear : block ≡ None

change_never_loads : (flags : Flags) (file : FileVerdict) (job : LoadedJob) (other : FileVerdict) → change_operation flags file job ≡ Some (Load other) → ⊥
change_never_loads flags file job other is = grind arith

file_free : (flags : Flags) (file : FileVerdict) (why block : Option Reason) (found : Option LoadedJob) → file_operation flags file why block found ≡ Some (Load file) → IsFree why block
file_free flags file (Some why) block found is = let e : Some (Leave why) ≡ Some (Load file) = is in cc
file_free flags file None (Some b) None is = let e : Some (Leave b) ≡ Some (Load file) = is in cc
file_free flags file None None None is = record { good = refl; clear = refl }
file_free flags file None block (Some job) is = absurd (change_never_loads flags file job file is)

held_loads : (barred : Option Reason) (operation : Option Operation) (file : FileVerdict) → held barred operation ≡ Some (Load file) → (barred ≡ None) × (operation ≡ Some (Load file))
held_loads None operation file is = (refl, is)
held_loads (Some w) None file is = let e : None ≡ Some (Load file) = is in cc
held_loads (Some w) (Some (Leave v)) file is = let e : Some (Leave v) ≡ Some (Load file) = is in cc
held_loads (Some w) (Some (Load f)) file is = let e : Some (Leave w) ≡ Some (Load file) = is in cc
held_loads (Some w) (Some (Replace f)) file is = let e : Some (Leave w) ≡ Some (Load file) = is in cc
held_loads (Some w) (Some Unload) file is = let e : Some (Leave w) ≡ Some (Load file) = is in cc

old_goes : (flags : Flags) (unread renamed : Bool) (old : LoadedJob) → renamed ≡ true → old.was_applied_here ≡ true → going_block flags old ≡ None →
    orphan_operation flags unread renamed old ≡ Some Unload
old_goes flags unread renamed old is here clear = grind arith

unloads : (flags : Flags) (unread renamed : Bool) (block : Option Reason) (choice : Choice) (found : Option LoadedJob) (old : LoadedJob) → choice ≡ Nobody → found ≡ Some old →
    renamed ≡ true → old.was_applied_here ≡ true → old_block flags choice found ≡ None → bar flags ≡ None → decided flags unread renamed block choice found ≡ Some Unload
unloads flags unread renamed block choice found old nobody is new_name here clear unbarred =
    let clear_old : going_block flags old ≡ None =
    subst (λ o. old_block flags Nobody o ≡ None) is (subst (λ o. old_block flags o found ≡ None) nobody clear) in
    ap (λ o. decided flags unread renamed block o found) nobody
    ∙ ap (λ o. decided flags unread renamed block Nobody o) is
    ∙ ap (λ o. held o (orphan_operation flags unread renamed old)) unbarred
    ∙ old_goes flags unread renamed old new_name here clear_old

pub moves_whole : (files : List FileVerdict) (loaded : List LoadedJob) (flags : Flags) (steps : List PlannedStep) → HasOperations files loaded flags steps → MovesWhole files loaded steps
moves_whole files loaded flags steps operations = λ label file former old one was nobody is here loads.
    let block = block_at files loaded flags (decider files label) in
    let operation : decided flags (has_unread files) (has_heir files label) block (One file) (job_at loaded label) ≡ Some (Load file) =
    sym (ap (λ o. decided flags (has_unread files) (has_heir files label) block o (job_at loaded label)) one) ∙ sym (operations label) ∙ loads in
    let split = held_loads (bar flags) (file_operation flags file (fault file.standing) block (job_at loaded label)) file operation in
    let free = file_free flags file (fault file.standing) block (job_at loaded label) split.1 in
    let clear : old_block flags (decider files former.now) (job_at loaded former.now) ≡ None =
    sym (ap (λ o. former_block files loaded flags o) was) ∙ sym (ap (λ o. block_at files loaded flags o) one) ∙ free.clear in
    operations former.now
    ∙ unloads flags (has_unread files) (has_heir files former.now) (block_at files loaded flags (decider files former.now)) (decider files former.now) (job_at loaded former.now) old nobody is
    (heir files label file former one was (good_of file.standing free.good)) here clear split.0

held_gives : (barred : Option Reason) (operation : Option Operation) (file : FileVerdict) → loads (held barred operation) ≡ Some file → loads operation ≡ Some file
held_gives None operation file is = is
held_gives (Some w) None file is = is
held_gives (Some w) (Some (Leave v)) file is = is
held_gives (Some w) (Some (Load f)) file is = let e : None ≡ Some file = is in cc
held_gives (Some w) (Some (Replace f)) file is = let e : None ≡ Some file = is in cc
held_gives (Some w) (Some Unload) file is = is

change_gives : (flags : Flags) (f file : FileVerdict) (job : LoadedJob) → loads (change_operation flags f job) ≡ Some file → f ≡ file
change_gives flags f file job is = grind arith

file_gives : (flags : Flags) (f file : FileVerdict) (why block : Option Reason) (found : Option LoadedJob) → loads (file_operation flags f why block found) ≡ Some file → f ≡ file
file_gives flags f file (Some why) block found is = let e : None ≡ Some file = is in cc
file_gives flags f file None (Some b) None is = let e : None ≡ Some file = is in cc
file_gives flags f file None None None is = let e : Some f ≡ Some file = is in cc
file_gives flags f file None block (Some job) is = change_gives flags f file job is

orphan_gives : (flags : Flags) (unread renamed : Bool) (job : LoadedJob) (file : FileVerdict) → loads (orphan_operation flags unread renamed job) ≡ Some file → ⊥
orphan_gives flags unread renamed job file is = grind arith

free_gives : (flags : Flags) (unread renamed : Bool) (block : Option Reason) (choice : Choice) (found : Option LoadedJob) (file : FileVerdict) →
    loads (free_operation flags unread renamed block choice found) ≡ Some file → choice ≡ One file
free_gives flags unread renamed block Nobody None file is = let e : None ≡ Some file = is in cc
free_gives flags unread renamed block Nobody (Some job) file is = absurd (orphan_gives flags unread renamed job file is)
free_gives flags unread renamed block Several found file is = let e : None ≡ Some file = is in cc
free_gives flags unread renamed block (One f) found file is = ap (λ z. One z) (file_gives flags f file (fault f.standing) block found is)

only_one : (one : Bool) (o : Option FileVerdict) (file : FileVerdict) → cond one o None ≡ Some file → one ≡ true
only_one true o file is = refl
only_one false o file is = let e : None ≡ Some file = is in cc

one_of_test : (n : ℕ) → (n == 1) ≡ true → n ≡ 1
one_of_test n is = grind (arith, nat_tests)

and_second : (a b : Bool) → (a && b) ≡ true → b ≡ true
and_second true b is = is
and_second false b is = let e : false ≡ true = is in cc

right : (files : List FileVerdict) (label : List ℕ) (file : FileVerdict) → decider files label ≡ One file →
    (file.is_named ≡ true) ⊎ (count_by (claims label) files ≡ 1)
right files label file is =
    elim (or_some (sole (claims_by_name label) files) (sole (claims label) files) file (one_of (option_or (sole (claims_by_name label) files) (sole (claims label) files)) (list_any (claims label) files) file is)) [
      | inl e ↦ inl (and_second (claims label file) file.is_named (find_passes (claims_by_name label) files file (only_some (count_by (claims_by_name label) files == 1) (find (claims_by_name label) files) file e)))
      | inr e ↦ inr (one_of_test (count_by (claims label) files) (only_one (count_by (claims label) files == 1) (find (claims label) files) file e))
    ]

pub loads_rightly : (files : List FileVerdict) (loaded : List LoadedJob) (flags : Flags) (steps : List PlannedStep) → HasOperations files loaded flags steps → LoadsRightly files steps
loads_rightly files loaded flags steps operations = λ label file is.
    let block = block_at files loaded flags (decider files label) in
    let one : decider files label ≡ One file =
    free_gives flags (has_unread files) (has_heir files label) block (decider files label) (job_at loaded label) file
    (held_gives (bar flags) (free_operation flags (has_unread files) (has_heir files label) block (decider files label) (job_at loaded label)) file (sym (ap loads (operations label)) ∙ is)) in
    (one_claims files label file one, right files label file one)
