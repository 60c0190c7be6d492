-- What is to be done so that the loaded jobs are those of the files: the operation of each label, found by a search over the files and the jobs.
use Rattle.std.specs.Prelude.{◌≡◌, ℕ, ◌==◌, ◌&&◌, ◌||◌, not, Bool, true, false, List, [], ◌∷◌, ◌++◌, Option, Some, None, if◌then◌else◌, find, count_by, is_some}
use Rattle.std.specs.Option.{option_or}
use Rattle.std.specs.Str.{bytes_eq}
use Rattle.std.specs.Borrow.{Bor}
use Rattle.std.specs.List.{list_any}
use Rattle.load_plan.specs.declared.FileState.{FileState}
use Rattle.load_plan.specs.declared.FileState.TheVariants.{Good, Refused, Unread, LeftAtBoot, Disabled}
use Rattle.load_plan.specs.declared.Reason.{Reason}
use Rattle.load_plan.specs.declared.Reason.TheVariants as reason
use Rattle.load_plan.specs.declared.FileVerdict.{FileVerdict}
use Rattle.load_plan.specs.declared.LoadedJob.{LoadedJob}
use Rattle.load_plan.specs.declared.Flags.{Flags}
use Rattle.load_plan.specs.declared.Choice.{Choice}
use Rattle.load_plan.specs.declared.Choice.TheVariants.{Nobody, One, Several}
use Rattle.load_plan.specs.declared.Operation.{Operation}
use Rattle.load_plan.specs.declared.Operation.TheVariants.{Load, Replace, Unload, Leave}
use Rattle.load_plan.specs.declared.PlannedStep.{PlannedStep}

-- the file names the label
abbrev pub claims : List ℕ → FileVerdict → Bool
claims label file = bytes_eq file.label.now label

-- the file names the label, and is named for it
abbrev pub claims_by_name : List ℕ → FileVerdict → Bool
claims_by_name label file = bytes_eq file.label.now label && file.is_named

abbrev pub only : ℕ → Option FileVerdict → Option FileVerdict
only count first = if count == 1 then first else None

-- the one file that passes the test, if there is one and no other
abbrev pub sole : (FileVerdict → Bool) → List FileVerdict → Option FileVerdict
sole test files = only (count_by test files) (find test files)

-- what the files say of a label, of which one or none may decide
abbrev pub choice_of : Option FileVerdict → Bool → Choice
choice_of (Some file) claimed = One file
choice_of None true = Several
choice_of None false = Nobody

-- the file that is named for the label decides, or the only one that names it
abbrev pub decider : List FileVerdict → List ℕ → Choice
decider files label =
    choice_of (option_or (sole (claims_by_name label) files) (sole (claims label) files)) (list_any (claims label) files)

abbrev pub is_unread : FileState → Bool
is_unread Unread = true
is_unread _ = false

-- some file can't be read
abbrev pub has_unread : List FileVerdict → Bool
has_unread files = list_any (λ file. is_unread file.standing) files

-- the loaded job of a label
abbrev pub job_at : List LoadedJob → List ℕ → Option LoadedJob
job_at loaded label = find (λ job. bytes_eq job.label.now label) loaded

-- why a file's definition is known not to be loaded
abbrev pub fault : FileState → Option Reason
fault Good = None
fault Refused = Some reason.Refused
fault Unread = Some reason.Unread
fault LeftAtBoot = Some reason.LeftAtBoot
fault Disabled = Some reason.Disabled

-- an unload ends no run that is not to be ended
abbrev pub may_unload : Flags → LoadedJob → Bool
may_unload flags job = flags.at_once || job.is_kept_alive || not job.is_running

abbrev pub unload_operation : Flags → LoadedJob → Option Operation
unload_operation flags job = if may_unload flags job then Some Unload else Some (Leave reason.Runs)

-- the operation at a loaded job that no file names: it is unloaded if its file has another label now, or if what has no file is to be pruned
abbrev pub orphan_operation : Flags → Bool → Bool → LoadedJob → Option Operation
orphan_operation flags unread renamed job =
    if job.was_applied_here
    then (if job.is_going
    then Some (Leave reason.Goes)
    else (if renamed
    then unload_operation flags job
    else (if flags.prune
    then (if unread then Some (Leave reason.UnreadBeside) else unload_operation flags job)
    else Some (Leave reason.Orphan))))
    else None

-- the operation at a good file whose job is loaded
abbrev pub change_operation : Flags → FileVerdict → LoadedJob → Option Operation
change_operation flags file job =
    if job.is_going
    then Some (Leave reason.Goes)
    else (if bytes_eq file.digest.now job.digest.now
    then None
    else (if may_unload flags job then Some (Replace file) else Some (Leave reason.Runs)))

-- a file is loaded if nothing is in the way
abbrev pub load_operation : FileVerdict → Option Reason → Option Operation
load_operation file (Some why) = Some (Leave why)
load_operation file None = Some (Load file)

-- the operation at a file that decides
abbrev pub file_operation : Flags → FileVerdict → Option Reason → Option Reason → Option LoadedJob → Option Operation
file_operation flags file (Some why) block job = Some (Leave why)
file_operation flags file None block None = load_operation file block
file_operation flags file None block (Some job) = change_operation flags file job

abbrev pub free_operation : Flags → Bool → Bool → Option Reason → Choice → Option LoadedJob → Option Operation
free_operation flags unread renamed block Nobody None = None
free_operation flags unread renamed block Nobody (Some job) = orphan_operation flags unread renamed job
free_operation flags unread renamed block Several job = Some (Leave reason.Several)
free_operation flags unread renamed block (One file) job = file_operation flags file (fault file.standing) block job

-- why nothing at all is done
abbrev pub bar : Flags → Option Reason
bar flags = if flags.shuts_down then Some reason.ShutsDown else (if flags.strict && flags.has_warning then Some reason.Warned else None)

-- a operation that is done, not left, is left where all is barred
abbrev pub held : Option Reason → Option Operation → Option Operation
held None operation = operation
held (Some why) None = None
held (Some why) (Some (Leave other)) = Some (Leave other)
held (Some why) (Some operation) = Some (Leave why)

-- the operation at a label, given what the files say of it and which job of it is loaded
abbrev pub decided : Flags → Bool → Bool → Option Reason → Choice → Option LoadedJob → Option Operation
decided flags unread renamed block choice job = held (bar flags) (free_operation flags unread renamed block choice job)

abbrev pub is_good : FileState → Bool
is_good Good = true
is_good _ = false

abbrev pub is_former : List ℕ → Option (Bor (List ℕ)) → Bool
is_former label (Some former) = bytes_eq former.now label
is_former label None = false

abbrev pub is_decided_by : ℕ → Choice → Bool
is_decided_by place (One other) = other.place == place
is_decided_by place _ = false

-- the file had this label before, and decides another now
abbrev pub is_heir : List FileVerdict → List ℕ → FileVerdict → Bool
is_heir files label file =
    is_former label file.former && is_good file.standing && is_decided_by file.place (decider files file.label.now)

abbrev pub has_heir : List FileVerdict → List ℕ → Bool
has_heir files label = list_any (λ file. is_heir files label file) files

-- why a job is in the way of its file's new label: it goes, or runs and is not to be ended
abbrev pub going_block : Flags → LoadedJob → Option Reason
going_block flags old =
    if old.was_applied_here
    then (if old.is_going then Some reason.Goes else (if may_unload flags old then None else Some reason.Runs))
    else None

abbrev pub old_block : Flags → Choice → Option LoadedJob → Option Reason
old_block flags Nobody (Some old) = going_block flags old
old_block flags _ _ = None

abbrev pub former_block : List FileVerdict → List LoadedJob → Flags → Option (Bor (List ℕ)) → Option Reason
former_block files loaded flags (Some former) = old_block flags (decider files former.now) (job_at loaded former.now)
former_block files loaded flags None = None

abbrev pub block_at : List FileVerdict → List LoadedJob → Flags → Choice → Option Reason
block_at files loaded flags (One file) = former_block files loaded flags file.former
block_at files loaded flags _ = None

-- the operation at a label. None: what is loaded is as the files say
abbrev pub operation_of : List FileVerdict → List LoadedJob → Flags → List ℕ → Option Operation
operation_of files loaded flags label =
    decided flags (has_unread files) (has_heir files label) (block_at files loaded flags (decider files label)) (decider files label) (job_at loaded label)

-- the operation of a step
abbrev pub step_operation : Option PlannedStep → Option Operation
step_operation None = None
step_operation (Some step) = Some step.operation

-- the step is of the label
abbrev pub has_step : List ℕ → PlannedStep → Bool
has_step label step = bytes_eq step.label.now label

-- the operation that the steps have for a label
abbrev pub operation_in : List PlannedStep → List ℕ → Option Operation
operation_in steps label = step_operation (find (has_step label) steps)

-- no label has two steps
abbrev pub AreOnce : List PlannedStep → Type 0
AreOnce [] = Unit {0}
AreOnce (step ∷ steps) = (operation_in steps step.label.now ≡ None) × AreOnce steps

-- the steps with one more, if the label has a operation and no step yet
abbrev pub with_operation : List PlannedStep → Bor (List ℕ) → Option Operation → List PlannedStep
with_operation steps label None = steps
with_operation steps label (Some operation) = if is_some (operation_in steps label.now) then steps else steps ++ record { label = label; operation = operation } ∷ []

-- the steps with one more for each of the labels, in their order, if it has a operation and no step yet
abbrev pub with_operations : (List ℕ → Option Operation) → List (Bor (List ℕ)) → List PlannedStep → List PlannedStep
with_operations operation [] steps = steps
with_operations operation (label ∷ labels) steps = with_operations operation labels (with_operation steps label (operation label.now))

-- it unloads for good
abbrev pub is_unload : Operation → Bool
is_unload Unload = true
is_unload _ = false

-- the operation, if it unloads for good
abbrev pub unload_only : Option Operation → Option Operation
unload_only (Some Unload) = Some Unload
unload_only _ = None

-- each of the labels got its step, if what it has is an unload for good and it had none yet
abbrev pub CoversUnloads : List (Bor (List ℕ)) → List FileVerdict → List LoadedJob → Flags → List PlannedStep → List PlannedStep → Type 0
CoversUnloads labels files loaded flags old new = new ≡ with_operations (λ label. unload_only (operation_of files loaded flags label)) labels old

-- each of the labels got its step, if it has a operation and had none yet
abbrev pub Covers : List (Bor (List ℕ)) → List FileVerdict → List LoadedJob → Flags → List PlannedStep → List PlannedStep → Type 0
Covers labels files loaded flags old new = new ≡ with_operations (operation_of files loaded flags) labels old

-- the steps are the operations of all labels
abbrev pub HasOperations : List FileVerdict → List LoadedJob → Flags → List PlannedStep → Type 0
HasOperations files loaded flags steps = (label : List ℕ) → operation_in steps label ≡ operation_of files loaded flags label
