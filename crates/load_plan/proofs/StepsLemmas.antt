-- The laws of a plan, from its operations.
use Rattle.std.proofs.Common.{◌≡◌, find, ℕ, Bool, true, false, List, Option, Some, None, refl, sym, ◌∙◌, ap, subst}
use Rattle.std.specs.List.{list_any}
use Rattle.std.specs.Option.{option_or}
use Rattle.std.specs.Borrow.{Bor}
use Rattle.load_plan.specs.declared.Reason.{Reason}
use Rattle.load_plan.specs.declared.Reason.TheVariants as reason
use Rattle.load_plan.specs.declared.Choice.{Choice}
use Rattle.load_plan.specs.declared.Choice.TheVariants.{Nobody, One, Several}
use Rattle.load_plan.specs.declared.Operation.{Operation}
use Rattle.load_plan.specs.declared.Operation.TheVariants.{Load, Replace, Unload, Leave}
use Rattle.load_plan.specs.declared.FileVerdict.{FileVerdict}
use Rattle.load_plan.specs.declared.LoadedJob.{LoadedJob}
use Rattle.load_plan.specs.declared.Flags.{Flags}
use Rattle.load_plan.specs.declared.PlannedStep.{PlannedStep}
use Rattle.load_plan.specs.Plan.{claims, claims_by_name, sole, choice_of, fault, has_step, decider, has_unread, has_heir, block_at, former_block, old_block, bar, held, free_operation, job_at, decided, operation_of, AreOnce, HasOperations}
use Rattle.load_plan.specs.Laws.{after, ends, acts, left, EndsNoRun, LeavesUnclear, LeavesFaulty, KeepsBesideUnread, PrunesOwn, KeepsSame, HeedsWarning, WaitsForNoEnd, WaitsForGoing, Settles, PutsInEffect, ClearsOrphans, UnloadsUnnamed}
use Rattle.load_plan.proofs.LawLemmas as law
use Rattle.load_plan.proofs.AfterLemmas.{after_at, settles_at, puts_in_effect_at, clears_orphans_at, block_stays, stays, file_unloads}

pub ends_no_run : (files : List FileVerdict) (loaded : List LoadedJob) (flags : Flags) (steps : List PlannedStep) → HasOperations files loaded flags steps → EndsNoRun loaded flags steps
ends_no_run files loaded flags steps operations = λ label job is running at_once kept. subst (λ operation. ends operation ≡ false) (sym (operations label)) (law.ends_no_run flags (has_unread files) (has_heir files label) (block_at files loaded flags (decider files label)) (decider files label) (job_at loaded label) job is running at_once kept)

pub leaves_unclear : (files : List FileVerdict) (loaded : List LoadedJob) (flags : Flags) (steps : List PlannedStep) → HasOperations files loaded flags steps → LeavesUnclear files steps
leaves_unclear files loaded flags steps operations = λ label is. subst (λ operation. acts operation ≡ false) (sym (operations label)) (law.leaves_unclear flags (has_unread files) (has_heir files label) (block_at files loaded flags (decider files label)) (decider files label) (job_at loaded label) is)

pub leaves_faulty : (files : List FileVerdict) (loaded : List LoadedJob) (flags : Flags) (steps : List PlannedStep) → HasOperations files loaded flags steps → LeavesFaulty files steps
leaves_faulty files loaded flags steps operations = λ label file is bad. subst (λ operation. acts operation ≡ false) (sym (operations label)) (law.leaves_faulty flags (has_unread files) (has_heir files label) (block_at files loaded flags (decider files label)) (decider files label) (job_at loaded label) file is bad)

pub keeps_beside_unread : (files : List FileVerdict) (loaded : List LoadedJob) (flags : Flags) (steps : List PlannedStep) → HasOperations files loaded flags steps → KeepsBesideUnread files steps
keeps_beside_unread files loaded flags steps operations = λ unread label nobody alone. subst (λ operation. acts operation ≡ false) (sym (operations label)) (law.keeps_beside_unread flags (has_unread files) (has_heir files label) (block_at files loaded flags (decider files label)) (decider files label) (job_at loaded label) unread nobody alone)

pub keeps_same : (files : List FileVerdict) (loaded : List LoadedJob) (flags : Flags) (steps : List PlannedStep) → HasOperations files loaded flags steps → KeepsSame files loaded steps
keeps_same files loaded flags steps operations = λ label file job one is same. subst (λ operation. acts operation ≡ false) (sym (operations label)) (law.keeps_same flags (has_unread files) (has_heir files label) (block_at files loaded flags (decider files label)) (decider files label) (job_at loaded label) file job one is same)

pub heeds_warning : (files : List FileVerdict) (loaded : List LoadedJob) (flags : Flags) (steps : List PlannedStep) → HasOperations files loaded flags steps → HeedsWarning flags steps
heeds_warning files loaded flags steps operations = λ strict warning label. subst (λ operation. acts operation ≡ false) (sym (operations label)) (law.heeds_warning flags (has_unread files) (has_heir files label) (block_at files loaded flags (decider files label)) (decider files label) (job_at loaded label) strict warning)

pub waits_for_no_end : (files : List FileVerdict) (loaded : List LoadedJob) (flags : Flags) (steps : List PlannedStep) → HasOperations files loaded flags steps → WaitsForNoEnd flags steps
waits_for_no_end files loaded flags steps operations = λ is label. subst (λ operation. acts operation ≡ false) (sym (operations label)) (law.waits_for_no_end flags (has_unread files) (has_heir files label) (block_at files loaded flags (decider files label)) (decider files label) (job_at loaded label) is)

pub prunes_own : (files : List FileVerdict) (loaded : List LoadedJob) (flags : Flags) (steps : List PlannedStep) → HasOperations files loaded flags steps → PrunesOwn files loaded flags steps
prunes_own files loaded flags steps operations = λ label job nobody is act.
    law.prunes_own flags (has_unread files) (has_heir files label) (block_at files loaded flags (decider files label)) (decider files label) (job_at loaded label) job nobody is (subst (λ operation. acts operation ≡ true) (operations label) act)

pub waits_for_going : (files : List FileVerdict) (loaded : List LoadedJob) (flags : Flags) (steps : List PlannedStep) → HasOperations files loaded flags steps → WaitsForGoing files loaded steps
waits_for_going files loaded flags steps operations = λ label file job one is goes.
    let found = law.waits_for_going flags (has_unread files) (has_heir files label) (block_at files loaded flags (decider files label)) (decider files label) (job_at loaded label) file job one is goes in
    (found.why, operations label ∙ found.is)

-- the job of a label at which nothing is done is as it was
idle_at : (files : List FileVerdict) (loaded : List LoadedJob) (flags : Flags) (steps : List PlannedStep) → HasOperations files loaded flags steps → AreOnce steps → (runs : List ℕ → Bool) (label : List ℕ) → acts (operation_of files loaded flags label) ≡ false →
    job_at (after runs steps loaded) label ≡ job_at loaded label
idle_at files loaded flags steps operations once runs label idle =
    after_at runs steps loaded label once ∙ stays (runs label) (find (has_step label) steps) (job_at loaded label) (operation_of files loaded flags label) (operations label) idle

keeps_block : (files : List FileVerdict) (loaded : List LoadedJob) (flags : Flags) (steps : List PlannedStep) → HasOperations files loaded flags steps → AreOnce steps → (runs : List ℕ → Bool) (former : Option (Bor (List ℕ))) (why : Reason) → former_block files loaded flags former ≡ Some why →
    former_block files (after runs steps loaded) flags former ≡ Some why
keeps_block files loaded flags steps operations once runs None why is = is
keeps_block files loaded flags steps operations once runs (Some former) why is =
    let label = former.now in
    ap (λ found. old_block flags (decider files label) found)
    (idle_at files loaded flags steps operations once runs label
    (block_stays flags (has_unread files) (has_heir files label) (block_at files loaded flags (decider files label)) (decider files label) (job_at loaded label) why is))
    ∙ is

same_block : (files : List FileVerdict) (loaded : List LoadedJob) (flags : Flags) (steps : List PlannedStep) → HasOperations files loaded flags steps → AreOnce steps → (runs : List ℕ → Bool) (former : Option (Bor (List ℕ))) (why : Reason) → bar flags ≡ Some why →
    former_block files (after runs steps loaded) flags former ≡ former_block files loaded flags former
same_block files loaded flags steps operations once runs None why is = refl
same_block files loaded flags steps operations once runs (Some former) why is =
    let label = former.now in
    ap (λ found. old_block flags (decider files label) found)
    (idle_at files loaded flags steps operations once runs label
    (law.barred_acts (bar flags) (free_operation flags (has_unread files) (has_heir files label) (block_at files loaded flags (decider files label)) (decider files label) (job_at loaded label)) why is))

keeps_block_at : (files : List FileVerdict) (loaded : List LoadedJob) (flags : Flags) (steps : List PlannedStep) → HasOperations files loaded flags steps → AreOnce steps → (runs : List ℕ → Bool) (choice : Choice) (why : Reason) → block_at files loaded flags choice ≡ Some why →
    block_at files (after runs steps loaded) flags choice ≡ Some why
keeps_block_at files loaded flags steps operations once runs Nobody why is = is
keeps_block_at files loaded flags steps operations once runs Several why is = is
keeps_block_at files loaded flags steps operations once runs (One file) why is = keeps_block files loaded flags steps operations once runs file.former why is

same_block_at : (files : List FileVerdict) (loaded : List LoadedJob) (flags : Flags) (steps : List PlannedStep) → HasOperations files loaded flags steps → AreOnce steps → (runs : List ℕ → Bool) (choice : Choice) (why : Reason) → bar flags ≡ Some why →
    block_at files (after runs steps loaded) flags choice ≡ block_at files loaded flags choice
same_block_at files loaded flags steps operations once runs Nobody why is = refl
same_block_at files loaded flags steps operations once runs Several why is = refl
same_block_at files loaded flags steps operations once runs (One file) why is = same_block files loaded flags steps operations once runs file.former why is

pub plan_settles : (files : List FileVerdict) (loaded : List LoadedJob) (flags : Flags) (steps : List PlannedStep) → HasOperations files loaded flags steps → AreOnce steps → Settles files loaded flags steps
plan_settles files loaded flags steps operations once = λ runs label.
    let choice = decider files label in
    let block = block_at files loaded flags choice in
    let next = block_at files (after runs steps loaded) flags choice in
    ap (λ found. decided flags (has_unread files) (has_heir files label) next choice found) (after_at runs steps loaded label once)
    ∙ settles_at flags (has_unread files) (has_heir files label) block next choice (job_at loaded label) (runs label) (find (has_step label) steps)
    (λ why is. keeps_block_at files loaded flags steps operations once runs choice why is) (λ why is. same_block_at files loaded flags steps operations once runs choice why is) (operations label)
    ∙ ap left (sym (operations label))

pub held_unloads : (why : Option Reason) (operation : Option Operation) → held why operation ≡ Some Unload → operation ≡ Some Unload
held_unloads None operation is = is
held_unloads (Some why) None is = is
held_unloads (Some why) (Some (Leave other)) is = let e : Some (Leave other) ≡ Some Unload = is in cc
held_unloads (Some why) (Some (Load file)) is = let e : Some (Leave why) ≡ Some Unload = is in cc
held_unloads (Some why) (Some (Replace file)) is = let e : Some (Leave why) ≡ Some Unload = is in cc
held_unloads (Some why) (Some Unload) is = refl

free_unloads : (flags : Flags) (unread renamed : Bool) (block : Option Reason) (file : Option FileVerdict) (claimed : Bool) (found : Option LoadedJob) →
    free_operation flags unread renamed block (choice_of file claimed) found ≡ Some Unload → claimed ≡ false
free_unloads flags unread renamed block (Some file) claimed found is = absurd (file_unloads flags file (fault file.standing) block found is)
free_unloads flags unread renamed block None true found is = let e : Some (Leave reason.Several) ≡ Some Unload = is in cc
free_unloads flags unread renamed block None false found is = refl

pub unloads_unnamed : (files : List FileVerdict) (loaded : List LoadedJob) (flags : Flags) (steps : List PlannedStep) → HasOperations files loaded flags steps → UnloadsUnnamed files steps
unloads_unnamed files loaded flags steps operations = λ label is.
    free_unloads flags (has_unread files) (has_heir files label) (block_at files loaded flags (decider files label)) (option_or (sole (claims_by_name label) files) (sole (claims label) files)) (list_any (claims label) files) (job_at loaded label)
    (held_unloads (bar flags) (free_operation flags (has_unread files) (has_heir files label) (block_at files loaded flags (decider files label)) (decider files label) (job_at loaded label)) (sym (operations label) ∙ is))

pub plan_puts_in_effect : (files : List FileVerdict) (loaded : List LoadedJob) (flags : Flags) (steps : List PlannedStep) → HasOperations files loaded flags steps → AreOnce steps → PutsInEffect files loaded steps
plan_puts_in_effect files loaded flags steps operations once = λ runs label file one none.
    let found = puts_in_effect_at flags (has_unread files) (has_heir files label) (block_at files loaded flags (decider files label)) (decider files label) (job_at loaded label) file (runs label) (find (has_step label) steps) (operations label) one (subst (λ operation. left operation ≡ None) (operations label) none) in
    (found.job, after_at runs steps loaded label once ∙ found.is, found.same)

pub plan_clears_orphans : (files : List FileVerdict) (loaded : List LoadedJob) (flags : Flags) (steps : List PlannedStep) → HasOperations files loaded flags steps → AreOnce steps → ClearsOrphans files loaded steps
plan_clears_orphans files loaded flags steps operations once = λ runs label job nobody none is.
    clears_orphans_at flags (has_unread files) (has_heir files label) (block_at files loaded flags (decider files label)) (decider files label) (job_at loaded label) job (runs label) (find (has_step label) steps) (operations label) nobody (subst (λ operation. left operation ≡ None) (operations label) none)
    (sym (after_at runs steps loaded label once) ∙ is)
