-- What is loaded after the steps, label by label, and what a plan made again then says.
use Rattle.std.proofs.Common.{◌≡◌, ℕ, Bool, true, false, not, List, [], ◌∷◌, Option, Some, None, cond, find, refl, sym, ◌∙◌, ap, subst, arith}
use Rattle.std.specs.Str.{bytes_eq}
use Rattle.std.specs.Borrow.{Bor}
use Rattle.load_plan.specs.declared.Reason.{Reason}
use Rattle.load_plan.specs.declared.Reason.TheVariants as reason
use Rattle.load_plan.specs.declared.FileVerdict.{FileVerdict}
use Rattle.load_plan.specs.declared.LoadedJob.{LoadedJob}
use Rattle.load_plan.specs.declared.Flags.{Flags}
use Rattle.load_plan.specs.declared.Choice.{Choice}
use Rattle.load_plan.specs.declared.Choice.TheVariants.{Nobody, One, Several}
use Rattle.load_plan.specs.declared.Operation.{Operation}
use Rattle.load_plan.specs.declared.Operation.TheVariants.{Load, Replace, Unload, Leave}
use Rattle.load_plan.specs.declared.PlannedStep.{PlannedStep}
use Rattle.load_plan.specs.Plan.{job_at, fault, bar, held, may_unload, orphan_operation, change_operation, load_operation, file_operation, free_operation, decided, going_block, old_block, step_operation, has_step, operation_in, AreOnce}
use Rattle.load_plan.specs.Laws.{acts, left, without, fresh, done, after}
use Rattle.load_plan.proofs.PlanLemmas.{equal_of_test, same_text}
use Rattle.load_plan.proofs.LawLemmas.{change_same, held_acts}

-- the loaded job of a label after the operation there
abbrev pub job_after : Bool → Bor (List ℕ) → Option Operation → Option LoadedJob → Option LoadedJob
job_after runs label None found = found
job_after runs label (Some (Load file)) found = Some (fresh runs label file)
job_after runs label (Some (Replace file)) found = Some (fresh runs label file)
job_after runs label (Some Unload) found = None
job_after runs label (Some (Leave why)) found = found

-- the loaded job of a label after the step there
abbrev pub step_after : Bool → Option PlannedStep → Option LoadedJob → Option LoadedJob
step_after runs None found = found
step_after runs (Some step) found = job_after runs step.label (Some step.operation) found

skip : (label q : List ℕ) (job : LoadedJob) (rest jobs : List LoadedJob) (own : Bool) → bytes_eq job.label.now label ≡ own → bytes_eq label q ≡ false →
    job_at rest q ≡ job_at jobs q → job_at (cond (not own) (job ∷ rest) rest) q ≡ job_at (job ∷ jobs) q
skip label q job rest jobs true is_own other same =
    let elsewhere : bytes_eq job.label.now q ≡ false = subst (λ l. bytes_eq l q ≡ false) (sym (equal_of_test job.label.now label is_own)) other in
    same ∙ sym (ap (λ b. cond b (Some job) (job_at jobs q)) elsewhere)
skip label q job rest jobs false is_own other same = ap (λ o. cond (bytes_eq job.label.now q) (Some job) o) same

without_other : (label q : List ℕ) (loaded : List LoadedJob) → bytes_eq label q ≡ false → job_at (without label loaded) q ≡ job_at loaded q
without_other label q [] other = refl
without_other label q (job ∷ loaded) other =
    skip label q job (without label loaded) loaded (bytes_eq job.label.now label) refl other (without_other label q loaded other)

drop_own : (label : List ℕ) (job : LoadedJob) (rest : List LoadedJob) (own : Bool) → bytes_eq job.label.now label ≡ own → job_at rest label ≡ None →
    job_at (cond (not own) (job ∷ rest) rest) label ≡ None
drop_own label job rest true is_own none = none
drop_own label job rest false is_own none = ap (λ b. cond b (Some job) (job_at rest label)) is_own ∙ none

without_own : (label : List ℕ) (loaded : List LoadedJob) → job_at (without label loaded) label ≡ None
without_own label [] = refl
without_own label (job ∷ loaded) = drop_own label job (without label loaded) (bytes_eq job.label.now label) refl (without_own label loaded)

done_other : (runs : Bool) (label : Bor (List ℕ)) (q : List ℕ) (operation : Operation) (loaded : List LoadedJob) → bytes_eq label.now q ≡ false →
    job_at (done runs label operation loaded) q ≡ job_at loaded q
done_other runs label q (Load file) loaded other = ap (λ b. cond b (Some (fresh runs label file)) (job_at (without label.now loaded) q)) other ∙ without_other label.now q loaded other
done_other runs label q (Replace file) loaded other = ap (λ b. cond b (Some (fresh runs label file)) (job_at (without label.now loaded) q)) other ∙ without_other label.now q loaded other
done_other runs label q Unload loaded other = without_other label.now q loaded other
done_other runs label q (Leave why) loaded other = refl

done_own : (runs : Bool) (label : Bor (List ℕ)) (operation : Operation) (loaded : List LoadedJob) →
    job_at (done runs label operation loaded) label.now ≡ job_after runs label (Some operation) (job_at loaded label.now)
done_own runs label (Load file) loaded = ap (λ b. cond b (Some (fresh runs label file)) (job_at (without label.now loaded) label.now)) (same_text label.now)
done_own runs label (Replace file) loaded = ap (λ b. cond b (Some (fresh runs label file)) (job_at (without label.now loaded) label.now)) (same_text label.now)
done_own runs label Unload loaded = without_own label.now loaded
done_own runs label (Leave why) loaded = refl

no_step : (step : Option PlannedStep) → step_operation step ≡ None → step ≡ None
no_step None none = refl
no_step (Some step) none = let e : Some step.operation ≡ None = none in cc

next_at : (runs : List ℕ → Bool) (step : PlannedStep) (steps : List PlannedStep) (loaded : List LoadedJob) (q : List ℕ) (own : Bool) → bytes_eq step.label.now q ≡ own →
    operation_in steps step.label.now ≡ None →
    step_after (runs q) (find (has_step q) steps) (job_at (done (runs step.label.now) step.label step.operation loaded) q)
    ≡ step_after (runs q) (cond own (Some step) (find (has_step q) steps)) (job_at loaded q)
next_at runs step steps loaded q true is none =
    let here : step.label.now ≡ q = equal_of_test step.label.now q is in
    let P : List ℕ → Type 0 = λ l. step_after (runs l) (find (has_step l) steps) (job_at (done (runs step.label.now) step.label step.operation loaded) l)
    ≡ job_after (runs l) step.label (Some step.operation) (job_at loaded l) in
    let base : P step.label.now = ap (λ s. step_after (runs step.label.now) s (job_at (done (runs step.label.now) step.label step.operation loaded) step.label.now)) (no_step (find (has_step step.label.now) steps) none)
    ∙ done_own (runs step.label.now) step.label step.operation loaded in
    subst P here base
next_at runs step steps loaded q false is none =
    ap (λ found. step_after (runs q) (find (has_step q) steps) found) (done_other (runs step.label.now) step.label q step.operation loaded is)

pub after_at : (runs : List ℕ → Bool) (steps : List PlannedStep) (loaded : List LoadedJob) (q : List ℕ) → AreOnce steps →
    job_at (after runs steps loaded) q ≡ step_after (runs q) (find (has_step q) steps) (job_at loaded q)
after_at runs [] loaded q once = refl
after_at runs (step ∷ steps) loaded q once =
    after_at runs steps (done (runs step.label.now) step.label step.operation loaded) q once.1
    ∙ next_at runs step steps loaded q (bytes_eq step.label.now q) refl once.0

held_left : (why : Reason) (operation : Option Operation) → held (Some why) operation ≡ left (held (Some why) operation)
held_left why None = refl
held_left why (Some (Leave other)) = refl
held_left why (Some (Load file)) = refl
held_left why (Some (Replace file)) = refl
held_left why (Some Unload) = refl

held_stays : (runs : Bool) (label : Bor (List ℕ)) (why : Reason) (operation : Option Operation) (found : Option LoadedJob) → job_after runs label (held (Some why) operation) found ≡ found
held_stays runs label why None found = refl
held_stays runs label why (Some (Leave other)) found = refl
held_stays runs label why (Some (Load file)) found = refl
held_stays runs label why (Some (Replace file)) found = refl
held_stays runs label why (Some Unload) found = refl

orphan_loads : (flags : Flags) (unread renamed : Bool) (job : LoadedJob) (file : FileVerdict) → orphan_operation flags unread renamed job ≡ Some (Load file) → ⊥
orphan_loads flags unread renamed job file is = grind arith

orphan_replaces : (flags : Flags) (unread renamed : Bool) (job : LoadedJob) (file : FileVerdict) → orphan_operation flags unread renamed job ≡ Some (Replace file) → ⊥
orphan_replaces flags unread renamed job file is = grind arith

settle_nobody : (flags : Flags) (unread renamed : Bool) (block : Option Reason) (job : LoadedJob) (runs : Bool) (label : Bor (List ℕ)) (operation : Option Operation) →
    orphan_operation flags unread renamed job ≡ operation → free_operation flags unread renamed block Nobody (job_after runs label operation (Some job)) ≡ left operation
settle_nobody flags unread renamed block job runs label None is = is
settle_nobody flags unread renamed block job runs label (Some (Leave why)) is = is
settle_nobody flags unread renamed block job runs label (Some Unload) is = refl
settle_nobody flags unread renamed block job runs label (Some (Load file)) is = absurd (orphan_loads flags unread renamed job file is)
settle_nobody flags unread renamed block job runs label (Some (Replace file)) is = absurd (orphan_replaces flags unread renamed job file is)

change_settles : (flags : Flags) (file : FileVerdict) (block : Option Reason) (job : LoadedJob) (runs : Bool) (label : Bor (List ℕ)) (goes same may : Bool) →
    job.is_going ≡ goes → bytes_eq file.digest.now job.digest.now ≡ same → may_unload flags job ≡ may →
    let operation : Option Operation = cond goes (Some (Leave reason.Goes)) (cond same None (cond may (Some (Replace file)) (Some (Leave reason.Runs)))) in
    file_operation flags file None block (job_after runs label operation (Some job)) ≡ left operation
change_settles flags file block job runs label true same may is_going is_same is_may = grind arith
change_settles flags file block job runs label false true may is_going is_same is_may = grind arith
change_settles flags file block job runs label false false true is_going is_same is_may = change_same flags file (fresh runs label file) refl refl
change_settles flags file block job runs label false false false is_going is_same is_may = grind arith

-- a block stays as long as what is blocked is left
file_settles : (flags : Flags) (file : FileVerdict) (why block next : Option Reason) (found : Option LoadedJob) (runs : Bool) (label : Bor (List ℕ)) →
    ((b : Reason) → block ≡ Some b → next ≡ Some b) →
    file_operation flags file why next (job_after runs label (file_operation flags file why block found) found) ≡ left (file_operation flags file why block found)
file_settles flags file (Some why) block next found runs label keeps = refl
file_settles flags file None None next None runs label keeps = change_same flags file (fresh runs label file) refl refl
file_settles flags file None (Some b) next None runs label keeps = ap (λ o. load_operation file o) (keeps b refl)
file_settles flags file None block next (Some job) runs label keeps =
    change_settles flags file next job runs label job.is_going (bytes_eq file.digest.now job.digest.now) (may_unload flags job) refl refl refl

free_settles : (flags : Flags) (unread renamed : Bool) (block next : Option Reason) (choice : Choice) (found : Option LoadedJob) (runs : Bool) (label : Bor (List ℕ)) →
    ((b : Reason) → block ≡ Some b → next ≡ Some b) →
    free_operation flags unread renamed next choice (job_after runs label (free_operation flags unread renamed block choice found) found) ≡ left (free_operation flags unread renamed block choice found)
free_settles flags unread renamed block next Nobody None runs label keeps = refl
free_settles flags unread renamed block next Nobody (Some job) runs label keeps = settle_nobody flags unread renamed next job runs label (orphan_operation flags unread renamed job) refl
free_settles flags unread renamed block next Several found runs label keeps = refl
free_settles flags unread renamed block next (One file) found runs label keeps = file_settles flags file (fault file.standing) block next found runs label keeps

held_settles : (why : Option Reason) (flags : Flags) (unread renamed : Bool) (block next : Option Reason) (choice : Choice) (found : Option LoadedJob) (runs : Bool) (label : Bor (List ℕ)) →
    ((b : Reason) → block ≡ Some b → next ≡ Some b) → ((w : Reason) → why ≡ Some w → next ≡ block) →
    held why (free_operation flags unread renamed next choice (job_after runs label (held why (free_operation flags unread renamed block choice found)) found))
    ≡ left (held why (free_operation flags unread renamed block choice found))
held_settles None flags unread renamed block next choice found runs label keeps same = free_settles flags unread renamed block next choice found runs label keeps
held_settles (Some why) flags unread renamed block next choice found runs label keeps same =
    ap (λ o. held (Some why) (free_operation flags unread renamed next choice o)) (held_stays runs label why (free_operation flags unread renamed block choice found) found)
    ∙ ap (λ o. held (Some why) (free_operation flags unread renamed o choice found)) (same why refl)
    ∙ held_left why (free_operation flags unread renamed block choice found)

-- the operation at a label after the operation there is what was left
settles : (flags : Flags) (unread renamed : Bool) (block next : Option Reason) (choice : Choice) (found : Option LoadedJob) (runs : Bool) (label : Bor (List ℕ)) →
    ((b : Reason) → block ≡ Some b → next ≡ Some b) → ((w : Reason) → bar flags ≡ Some w → next ≡ block) →
    decided flags unread renamed next choice (job_after runs label (decided flags unread renamed block choice found) found) ≡ left (decided flags unread renamed block choice found)
settles flags unread renamed block next choice found runs label keeps same = held_settles (bar flags) flags unread renamed block next choice found runs label keeps same

pub record HasDigest (found : Option LoadedJob) (digest : List ℕ) : Type 0 where
  pub job : LoadedJob
  pub is : found ≡ Some job
  pub same : job.digest.now ≡ digest

no_change : (flags : Flags) (file : FileVerdict) (job : LoadedJob) → change_operation flags file job ≡ None → job.digest.now ≡ file.digest.now
no_change flags file job none =
    let is : bytes_eq file.digest.now job.digest.now ≡ true = grind arith in
    sym (equal_of_test file.digest.now job.digest.now is)

file_none : (flags : Flags) (file : FileVerdict) (why block : Option Reason) (found : Option LoadedJob) → file_operation flags file why block found ≡ None → HasDigest found file.digest.now
file_none flags file (Some why) block found none = let e : Some (Leave why) ≡ None = none in cc
file_none flags file None None None none = let e : Some (Load file) ≡ None = none in cc
file_none flags file None (Some b) None none = let e : Some (Leave b) ≡ None = none in cc
file_none flags file None block (Some job) none = record { job = job; is = refl; same = no_change flags file job none }

change_loads : (flags : Flags) (file : FileVerdict) (job : LoadedJob) (other : FileVerdict) → change_operation flags file job ≡ Some (Load other) → other.digest.now ≡ file.digest.now
change_loads flags file job other is = grind arith

change_replaces : (flags : Flags) (file : FileVerdict) (job : LoadedJob) (other : FileVerdict) → change_operation flags file job ≡ Some (Replace other) → other.digest.now ≡ file.digest.now
change_replaces flags file job other is = grind arith

change_unloads : (flags : Flags) (file : FileVerdict) (job : LoadedJob) → change_operation flags file job ≡ Some Unload → ⊥
change_unloads flags file job is = grind arith

file_loads : (flags : Flags) (file : FileVerdict) (why block : Option Reason) (found : Option LoadedJob) (other : FileVerdict) →
    file_operation flags file why block found ≡ Some (Load other) → other.digest.now ≡ file.digest.now
file_loads flags file (Some why) block found other is = let e : Some (Leave why) ≡ Some (Load other) = is in cc
file_loads flags file None (Some b) None other is = let e : Some (Leave b) ≡ Some (Load other) = is in cc
file_loads flags file None None None other is = let e : Some (Load file) ≡ Some (Load other) = is in let same : other ≡ file = cc in ap (λ f. f.digest.now) same
file_loads flags file None block (Some job) other is = change_loads flags file job other is

file_replaces : (flags : Flags) (file : FileVerdict) (why block : Option Reason) (found : Option LoadedJob) (other : FileVerdict) →
    file_operation flags file why block found ≡ Some (Replace other) → other.digest.now ≡ file.digest.now
file_replaces flags file (Some why) block found other is = let e : Some (Leave why) ≡ Some (Replace other) = is in cc
file_replaces flags file None (Some b) None other is = let e : Some (Leave b) ≡ Some (Replace other) = is in cc
file_replaces flags file None None None other is = let e : Some (Load file) ≡ Some (Replace other) = is in cc
file_replaces flags file None block (Some job) other is = change_replaces flags file job other is

pub file_unloads : (flags : Flags) (file : FileVerdict) (why block : Option Reason) (found : Option LoadedJob) → file_operation flags file why block found ≡ Some Unload → ⊥
file_unloads flags file (Some why) block found is = let e : Some (Leave why) ≡ Some Unload = is in cc
file_unloads flags file None (Some b) None is = let e : Some (Leave b) ≡ Some Unload = is in cc
file_unloads flags file None None None is = let e : Some (Load file) ≡ Some Unload = is in cc
file_unloads flags file None block (Some job) is = change_unloads flags file job is

-- what is held back is left, so what is not left is as the files say
file_effect : (bar : Option Reason) (flags : Flags) (file : FileVerdict) (why block : Option Reason) (found : Option LoadedJob) (runs : Bool) (label : Bor (List ℕ)) (operation : Option Operation) →
    file_operation flags file why block found ≡ operation → left (held bar operation) ≡ None → HasDigest (job_after runs label (held bar operation) found) file.digest.now
file_effect None flags file why block found runs label None is none = file_none flags file why block found is
file_effect (Some w) flags file why block found runs label None is none = file_none flags file why block found is
file_effect None flags file why block found runs label (Some (Load other)) is none =
    record { job = fresh runs label other; is = refl; same = file_loads flags file why block found other is }
file_effect None flags file why block found runs label (Some (Replace other)) is none =
    record { job = fresh runs label other; is = refl; same = file_replaces flags file why block found other is }
file_effect None flags file why block found runs label (Some Unload) is none = absurd (file_unloads flags file why block found is)
file_effect None flags file why block found runs label (Some (Leave w)) is none = let e : Some (Leave w) ≡ None = none in cc
file_effect (Some w) flags file why block found runs label (Some (Load other)) is none = let e : Some (Leave w) ≡ None = none in cc
file_effect (Some w) flags file why block found runs label (Some (Replace other)) is none = let e : Some (Leave w) ≡ None = none in cc
file_effect (Some w) flags file why block found runs label (Some Unload) is none = let e : Some (Leave w) ≡ None = none in cc
file_effect (Some w) flags file why block found runs label (Some (Leave v)) is none = let e : Some (Leave v) ≡ None = none in cc

pub puts_in_effect : (flags : Flags) (unread renamed : Bool) (block : Option Reason) (choice : Choice) (found : Option LoadedJob) (file : FileVerdict) (runs : Bool) (label : Bor (List ℕ)) →
    choice ≡ One file → left (decided flags unread renamed block choice found) ≡ None → HasDigest (job_after runs label (decided flags unread renamed block choice found) found) file.digest.now
puts_in_effect flags unread renamed block choice found file runs label one none =
    let here : left (decided flags unread renamed block (One file) found) ≡ None = subst (λ o. left (decided flags unread renamed block o found) ≡ None) one none in
    subst (λ o. HasDigest (job_after runs label (decided flags unread renamed block o found) found) file.digest.now) (sym one)
    (file_effect (bar flags) flags file (fault file.standing) block found runs label (file_operation flags file (fault file.standing) block found) refl here)

orphan_none : (flags : Flags) (unread renamed : Bool) (job : LoadedJob) → orphan_operation flags unread renamed job ≡ None → job.was_applied_here ≡ false
orphan_none flags unread renamed job none = grind arith

orphan_stays : (flags : Flags) (unread renamed : Bool) (own job : LoadedJob) → orphan_operation flags unread renamed own ≡ None → Some own ≡ Some job → job.was_applied_here ≡ false
orphan_stays flags unread renamed own job none is =
    let same : own ≡ job = cc in
    subst (λ j. j.was_applied_here ≡ false) same (orphan_none flags unread renamed own none)

orphan_effect : (bar : Option Reason) (flags : Flags) (unread renamed : Bool) (own job : LoadedJob) (runs : Bool) (label : Bor (List ℕ)) (operation : Option Operation) →
    orphan_operation flags unread renamed own ≡ operation → left (held bar operation) ≡ None → job_after runs label (held bar operation) (Some own) ≡ Some job → job.was_applied_here ≡ false
orphan_effect None flags unread renamed own job runs label None is none there = orphan_stays flags unread renamed own job is there
orphan_effect (Some w) flags unread renamed own job runs label None is none there = orphan_stays flags unread renamed own job is there
orphan_effect None flags unread renamed own job runs label (Some (Load other)) is none there = absurd (orphan_loads flags unread renamed own other is)
orphan_effect None flags unread renamed own job runs label (Some (Replace other)) is none there = absurd (orphan_replaces flags unread renamed own other is)
orphan_effect None flags unread renamed own job runs label (Some Unload) is none there = let e : None ≡ Some job = there in cc
orphan_effect None flags unread renamed own job runs label (Some (Leave w)) is none there = let e : Some (Leave w) ≡ None = none in cc
orphan_effect (Some w) flags unread renamed own job runs label (Some (Load other)) is none there = let e : Some (Leave w) ≡ None = none in cc
orphan_effect (Some w) flags unread renamed own job runs label (Some (Replace other)) is none there = let e : Some (Leave w) ≡ None = none in cc
orphan_effect (Some w) flags unread renamed own job runs label (Some Unload) is none there = let e : Some (Leave w) ≡ None = none in cc
orphan_effect (Some w) flags unread renamed own job runs label (Some (Leave v)) is none there = let e : Some (Leave v) ≡ None = none in cc

nobody_effect : (bar : Option Reason) (flags : Flags) (unread renamed : Bool) (block : Option Reason) (found : Option LoadedJob) (job : LoadedJob) (runs : Bool) (label : Bor (List ℕ)) →
    left (held bar (free_operation flags unread renamed block Nobody found)) ≡ None → job_after runs label (held bar (free_operation flags unread renamed block Nobody found)) found ≡ Some job →
    job.was_applied_here ≡ false
nobody_effect None flags unread renamed block None job runs label none there = let e : None ≡ Some job = there in cc
nobody_effect (Some w) flags unread renamed block None job runs label none there = let e : None ≡ Some job = there in cc
nobody_effect None flags unread renamed block (Some own) job runs label none there =
    orphan_effect None flags unread renamed own job runs label (orphan_operation flags unread renamed own) refl none there
nobody_effect (Some w) flags unread renamed block (Some own) job runs label none there =
    orphan_effect (Some w) flags unread renamed own job runs label (orphan_operation flags unread renamed own) refl none there

pub clears_orphans : (flags : Flags) (unread renamed : Bool) (block : Option Reason) (choice : Choice) (found : Option LoadedJob) (job : LoadedJob) (runs : Bool) (label : Bor (List ℕ)) →
    choice ≡ Nobody → left (decided flags unread renamed block choice found) ≡ None → job_after runs label (decided flags unread renamed block choice found) found ≡ Some job →
    job.was_applied_here ≡ false
clears_orphans flags unread renamed block choice found job runs label nobody none there =
    nobody_effect (bar flags) flags unread renamed block found job runs label
    (subst (λ o. left (decided flags unread renamed block o found) ≡ None) nobody none)
    (subst (λ o. job_after runs label (decided flags unread renamed block o found) found ≡ Some job) nobody there)

held_empty : (why : Option Reason) (operation : Option Operation) → held why operation ≡ None → operation ≡ None
held_empty None operation none = none
held_empty (Some why) None none = refl
held_empty (Some why) (Some (Leave other)) none = let e : Some (Leave other) ≡ None = none in cc
held_empty (Some why) (Some (Load file)) none = let e : Some (Leave why) ≡ None = none in cc
held_empty (Some why) (Some (Replace file)) none = let e : Some (Leave why) ≡ None = none in cc
held_empty (Some why) (Some Unload) none = let e : Some (Leave why) ≡ None = none in cc

file_again : (flags : Flags) (file : FileVerdict) (why block next : Option Reason) (found : Option LoadedJob) → file_operation flags file why block found ≡ None →
    file_operation flags file why next found ≡ None
file_again flags file (Some why) block next found none = none
file_again flags file None None next None none = let e : Some (Load file) ≡ None = none in cc
file_again flags file None (Some b) next None none = let e : Some (Leave b) ≡ None = none in cc
file_again flags file None block next (Some job) none = none

free_again : (flags : Flags) (unread renamed : Bool) (block next : Option Reason) (choice : Choice) (found : Option LoadedJob) →
    free_operation flags unread renamed block choice found ≡ None → free_operation flags unread renamed next choice found ≡ None
free_again flags unread renamed block next Nobody None none = refl
free_again flags unread renamed block next Nobody (Some job) none = none
free_again flags unread renamed block next Several found none = none
free_again flags unread renamed block next (One file) found none = file_again flags file (fault file.standing) block next found none

held_nothing : (why : Option Reason) → held why None ≡ None
held_nothing None = refl
held_nothing (Some why) = refl

-- where nothing is to be done, nothing is whatever is in the way
decided_again : (flags : Flags) (unread renamed : Bool) (block next : Option Reason) (choice : Choice) (found : Option LoadedJob) →
    ((b : Reason) → block ≡ Some b → next ≡ Some b) → decided flags unread renamed block choice found ≡ None → decided flags unread renamed next choice found ≡ None
decided_again flags unread renamed block next choice found keeps none =
    ap (λ operation. held (bar flags) operation) (free_again flags unread renamed block next choice found (held_empty (bar flags) (free_operation flags unread renamed block choice found) none))
    ∙ held_nothing (bar flags)

-- the same, of the step at a label
pub settles_at : (flags : Flags) (unread renamed : Bool) (block next : Option Reason) (choice : Choice) (found : Option LoadedJob) (runs : Bool) (step : Option PlannedStep) →
    ((b : Reason) → block ≡ Some b → next ≡ Some b) → ((w : Reason) → bar flags ≡ Some w → next ≡ block) →
    step_operation step ≡ decided flags unread renamed block choice found →
    decided flags unread renamed next choice (step_after runs step found) ≡ left (decided flags unread renamed block choice found)
settles_at flags unread renamed block next choice found runs None keeps same is =
    decided_again flags unread renamed block next choice found keeps (sym is) ∙ ap left is
settles_at flags unread renamed block next choice found runs (Some step) keeps same is =
    ap (λ operation. decided flags unread renamed next choice (job_after runs step.label operation found)) is
    ∙ settles flags unread renamed block next choice found runs step.label keeps same

as_file : (flags : Flags) (file : FileVerdict) (why block bar : Option Reason) (found : Option LoadedJob) (operation : Option Operation) → file_operation flags file why block found ≡ operation →
    held bar operation ≡ None → HasDigest found file.digest.now
as_file flags file why block bar found None is none = file_none flags file why block found is
as_file flags file why block None found (Some operation) is none = let e : Some operation ≡ None = none in cc
as_file flags file why block (Some w) found (Some (Leave v)) is none = let e : Some (Leave v) ≡ None = none in cc
as_file flags file why block (Some w) found (Some (Load other)) is none = let e : Some (Leave w) ≡ None = none in cc
as_file flags file why block (Some w) found (Some (Replace other)) is none = let e : Some (Leave w) ≡ None = none in cc
as_file flags file why block (Some w) found (Some Unload) is none = let e : Some (Leave w) ≡ None = none in cc

pub puts_in_effect_at : (flags : Flags) (unread renamed : Bool) (block : Option Reason) (choice : Choice) (found : Option LoadedJob) (file : FileVerdict) (runs : Bool) (step : Option PlannedStep) →
    step_operation step ≡ decided flags unread renamed block choice found → choice ≡ One file → left (decided flags unread renamed block choice found) ≡ None →
    HasDigest (step_after runs step found) file.digest.now
puts_in_effect_at flags unread renamed block choice found file runs None is one none =
    as_file flags file (fault file.standing) block (bar flags) found (file_operation flags file (fault file.standing) block found) refl
    (subst (λ o. decided flags unread renamed block o found ≡ None) one (sym is))
puts_in_effect_at flags unread renamed block choice found file runs (Some step) is one none =
    subst (λ operation. HasDigest (job_after runs step.label operation found) file.digest.now) (sym is) (puts_in_effect flags unread renamed block choice found file runs step.label one none)

no_orphan : (flags : Flags) (unread renamed : Bool) (bar : Option Reason) (own : LoadedJob) (operation : Option Operation) → orphan_operation flags unread renamed own ≡ operation →
    held bar operation ≡ None → own.was_applied_here ≡ false
no_orphan flags unread renamed bar own None is none = orphan_none flags unread renamed own is
no_orphan flags unread renamed None own (Some operation) is none = let e : Some operation ≡ None = none in cc
no_orphan flags unread renamed (Some w) own (Some (Leave v)) is none = let e : Some (Leave v) ≡ None = none in cc
no_orphan flags unread renamed (Some w) own (Some (Load other)) is none = let e : Some (Leave w) ≡ None = none in cc
no_orphan flags unread renamed (Some w) own (Some (Replace other)) is none = let e : Some (Leave w) ≡ None = none in cc
no_orphan flags unread renamed (Some w) own (Some Unload) is none = let e : Some (Leave w) ≡ None = none in cc

pub clears_orphans_at : (flags : Flags) (unread renamed : Bool) (block : Option Reason) (choice : Choice) (found : Option LoadedJob) (job : LoadedJob) (runs : Bool) (step : Option PlannedStep) →
    step_operation step ≡ decided flags unread renamed block choice found → choice ≡ Nobody → left (decided flags unread renamed block choice found) ≡ None → step_after runs step found ≡ Some job →
    job.was_applied_here ≡ false
clears_orphans_at flags unread renamed block choice found job runs None is nobody none there =
    no_orphan flags unread renamed (bar flags) job (orphan_operation flags unread renamed job) refl
    (subst (λ o. decided flags unread renamed block Nobody o ≡ None) there (subst (λ o. decided flags unread renamed block o found ≡ None) nobody (sym is)))
clears_orphans_at flags unread renamed block choice found job runs (Some step) is nobody none there =
    clears_orphans flags unread renamed block choice found job runs step.label nobody none (subst (λ operation. job_after runs step.label operation found ≡ Some job) is there)

stays_after : (runs : Bool) (label : Bor (List ℕ)) (operation : Option Operation) (found : Option LoadedJob) → acts operation ≡ false → job_after runs label operation found ≡ found
stays_after runs label None found idle = refl
stays_after runs label (Some (Leave why)) found idle = refl
stays_after runs label (Some (Load file)) found idle = let e : true ≡ false = idle in cc
stays_after runs label (Some (Replace file)) found idle = let e : true ≡ false = idle in cc
stays_after runs label (Some Unload) found idle = let e : true ≡ false = idle in cc

-- a job in the way is left
going_stays : (flags : Flags) (unread renamed : Bool) (old : LoadedJob) (why : Reason) → going_block flags old ≡ Some why → acts (orphan_operation flags unread renamed old) ≡ false
going_stays flags unread renamed old why is = grind arith

pub block_stays : (flags : Flags) (unread renamed : Bool) (block : Option Reason) (choice : Choice) (found : Option LoadedJob) (why : Reason) → old_block flags choice found ≡ Some why →
    acts (decided flags unread renamed block choice found) ≡ false
block_stays flags unread renamed block Nobody None why is = let e : None ≡ Some why = is in cc
block_stays flags unread renamed block Nobody (Some old) why is =
    held_acts (bar flags) (orphan_operation flags unread renamed old) (going_stays flags unread renamed old why is)
block_stays flags unread renamed block Several found why is = let e : None ≡ Some why = is in cc
block_stays flags unread renamed block (One file) found why is = let e : None ≡ Some why = is in cc

-- what is not supported stays
pub stays : (runs : Bool) (step : Option PlannedStep) (found : Option LoadedJob) (operation : Option Operation) → step_operation step ≡ operation → acts operation ≡ false → step_after runs step found ≡ found
stays runs None found operation is idle = refl
stays runs (Some step) found operation is idle = stays_after runs step.label (Some step.operation) found (ap acts is ∙ idle)
