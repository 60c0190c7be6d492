-- What no plan does, and what a plan that is carried out comes to.
use Rattle.std.specs.Prelude.{◌≡◌, ◌⊎◌, count_by, ℕ, ◌||◌, not, Bool, true, false, List, [], ◌∷◌, Option, Some, None, filter, if◌then◌else◌}
use Rattle.std.specs.List.{list_any}
use Rattle.std.specs.Str.{bytes_eq}
use Rattle.std.specs.Borrow.{Bor}
use Rattle.load_plan.specs.declared.Reason.{Reason}
use Rattle.load_plan.specs.declared.FileVerdict.{FileVerdict}
use Rattle.load_plan.specs.declared.LoadedJob.{LoadedJob}
use Rattle.load_plan.specs.declared.Flags.{Flags}
use Rattle.load_plan.specs.declared.Choice.TheVariants.{Nobody, One, Several}
use Rattle.load_plan.specs.declared.Operation.{Operation}
use Rattle.load_plan.specs.declared.Operation.TheVariants.{Load, Replace, Unload, Leave}
use Rattle.load_plan.specs.declared.PlannedStep.{PlannedStep}
use Rattle.load_plan.specs.Plan.{is_unload, claims, has_heir, decider, has_unread, job_at, is_good, operation_of, operation_in}

-- the operation unloads what is loaded: it ends a run, if one is running
abbrev pub ends : Option Operation → Bool
ends (Some (Replace file)) = true
ends (Some Unload) = true
ends _ = false

-- something is done
abbrev pub acts : Option Operation → Bool
acts (Some (Load file)) = true
acts (Some (Replace file)) = true
acts (Some Unload) = true
acts _ = false

-- the operation, where it is to leave the job
abbrev pub left : Option Operation → Option Operation
left (Some (Leave why)) = Some (Leave why)
left _ = None

-- no run is ended but where runs are to be ended, or of a job that is kept alive
abbrev pub EndsNoRun : List LoadedJob → Flags → List PlannedStep → Type 0
EndsNoRun loaded flags steps =
    (label : List ℕ) (job : LoadedJob) → job_at loaded label ≡ Some job → job.is_running ≡ true →
    flags.at_once ≡ false → job.is_kept_alive ≡ false → ends (operation_in steps label) ≡ false

-- nothing is done at a label that several files name, none of which decides
abbrev pub LeavesUnclear : List FileVerdict → List PlannedStep → Type 0
LeavesUnclear files steps = (label : List ℕ) → decider files label ≡ Several → acts (operation_in steps label) ≡ false

-- nothing is done, so nothing unloaded, at a label whose file is not good: it is known not to load, now or at a boot
abbrev pub LeavesFaulty : List FileVerdict → List PlannedStep → Type 0
LeavesFaulty files steps =
    (label : List ℕ) (file : FileVerdict) → decider files label ≡ One file → is_good file.standing ≡ false → acts (operation_in steps label) ≡ false

-- nothing is pruned if there is a file that can't be read
abbrev pub KeepsBesideUnread : List FileVerdict → List PlannedStep → Type 0
KeepsBesideUnread files steps =
    has_unread files ≡ true → (label : List ℕ) → decider files label ≡ Nobody → has_heir files label ≡ false → acts (operation_in steps label) ≡ false

-- what no file names is left but where it is to be pruned, or its file has another label now, and an earlier apply of the folder loaded it
abbrev pub PrunesOwn : List FileVerdict → List LoadedJob → Flags → List PlannedStep → Type 0
PrunesOwn files loaded flags steps =
    (label : List ℕ) (job : LoadedJob) → decider files label ≡ Nobody → job_at loaded label ≡ Some job →
    acts (operation_in steps label) ≡ true → ((flags.prune || has_heir files label) ≡ true) × (job.was_applied_here ≡ true)

-- what is the same is not touched
abbrev pub KeepsSame : List FileVerdict → List LoadedJob → List PlannedStep → Type 0
KeepsSame files loaded steps =
    (label : List ℕ) (file : FileVerdict) (job : LoadedJob) → decider files label ≡ One file → job_at loaded label ≡ Some job →
    file.digest.now ≡ job.digest.now → acts (operation_in steps label) ≡ false

-- with a warning where all is strict, nothing is done
abbrev pub HeedsWarning : Flags → List PlannedStep → Type 0
HeedsWarning flags steps =
    flags.strict ≡ true → flags.has_warning ≡ true → (label : List ℕ) → acts (operation_in steps label) ≡ false

-- nothing is done while the launcher shuts down
abbrev pub WaitsForNoEnd : Flags → List PlannedStep → Type 0
WaitsForNoEnd flags steps = flags.shuts_down ≡ true → (label : List ℕ) → acts (operation_in steps label) ≡ false

-- the loaded jobs, but for those of the label
abbrev pub without : List ℕ → List LoadedJob → List LoadedJob
without label loaded = filter (λ job. not (bytes_eq job.label.now label)) loaded

-- the job of a file that was loaded, of which a run may live
abbrev pub fresh : Bool → Bor (List ℕ) → FileVerdict → LoadedJob
fresh runs label file =
    record { label = label; digest = file.digest; is_running = runs; is_kept_alive = file.is_kept_alive; was_applied_here = true; is_going = false }

-- what is loaded after a operation
abbrev pub done : Bool → Bor (List ℕ) → Operation → List LoadedJob → List LoadedJob
done runs label (Load file) loaded = fresh runs label file ∷ without label.now loaded
done runs label (Replace file) loaded = fresh runs label file ∷ without label.now loaded
done runs label Unload loaded = without label.now loaded
done runs label (Leave why) loaded = loaded

-- what is loaded after all steps, each accepted; which of the jobs run then is free
abbrev pub after : (List ℕ → Bool) → List PlannedStep → List LoadedJob → List LoadedJob
after runs [] loaded = loaded
after runs (step ∷ steps) loaded = after runs steps (done (runs step.label.now) step.label step.operation loaded)

-- once a plan is carried out, a second plan has no step but those that the first left, each for the same reason
abbrev pub Settles : List FileVerdict → List LoadedJob → Flags → List PlannedStep → Type 0
Settles files loaded flags steps =
    (runs : List ℕ → Bool) (label : List ℕ) → operation_of files (after runs steps loaded) flags label ≡ left (operation_in steps label)

-- carried out, a label that a file decides has that file's definition loaded, if it was not left
abbrev pub PutsInEffect : List FileVerdict → List LoadedJob → List PlannedStep → Type 0
PutsInEffect files loaded steps =
    (runs : List ℕ → Bool) (label : List ℕ) (file : FileVerdict) → decider files label ≡ One file → left (operation_in steps label) ≡ None →
    (job : LoadedJob) × (job_at (after runs steps loaded) label ≡ Some job) × (job.digest.now ≡ file.digest.now)

-- carried out, a job that an earlier apply of the folder loaded and that no file names is gone, if it was not left
abbrev pub ClearsOrphans : List FileVerdict → List LoadedJob → List PlannedStep → Type 0
ClearsOrphans files loaded steps =
    (runs : List ℕ → Bool) (label : List ℕ) (job : LoadedJob) → decider files label ≡ Nobody → left (operation_in steps label) ≡ None →
    job_at (after runs steps loaded) label ≡ Some job → job.was_applied_here ≡ false

-- what is being removed is not touched, and is reported where a file decides its label
abbrev pub WaitsForGoing : List FileVerdict → List LoadedJob → List PlannedStep → Type 0
WaitsForGoing files loaded steps =
    (label : List ℕ) (file : FileVerdict) (job : LoadedJob) → decider files label ≡ One file → job_at loaded label ≡ Some job →
    job.is_going ≡ true → (why : Reason) × (operation_in steps label ≡ Some (Leave why))

-- what is unloaded for good is named by no file at all
abbrev pub UnloadsUnnamed : List FileVerdict → List PlannedStep → Type 0
UnloadsUnnamed files steps = (label : List ℕ) → operation_in steps label ≡ Some Unload → list_any (claims label) files ≡ false

-- a file's definition is loaded under a new label only if the job under the former one, which this folder loaded and no file names, is unloaded
abbrev pub MovesWhole : List FileVerdict → List LoadedJob → List PlannedStep → Type 0
MovesWhole files loaded steps =
    (label : List ℕ) (file : FileVerdict) (former : Bor (List ℕ)) (old : LoadedJob) → decider files label ≡ One file →
    file.former ≡ Some former → decider files former.now ≡ Nobody → job_at loaded former.now ≡ Some old → old.was_applied_here ≡ true →
    operation_in steps label ≡ Some (Load file) → operation_in steps former.now ≡ Some Unload

-- the file whose definition a operation loads
abbrev pub loads : Option Operation → Option FileVerdict
loads (Some (Load file)) = Some file
loads (Some (Replace file)) = Some file
loads _ = None

-- what is loaded is of a file that names the label: of one that is named for it, or of the only one
abbrev pub LoadsRightly : List FileVerdict → List PlannedStep → Type 0
LoadsRightly files steps =
    (label : List ℕ) (file : FileVerdict) → loads (operation_in steps label) ≡ Some file →
    (claims label file ≡ true) × ((file.is_named ≡ true) ⊎ (count_by (claims label) files ≡ 1))

-- the step unloads for good
abbrev pub unloads : PlannedStep → Bool
unloads step = is_unload step.operation

-- what is unloaded for good comes before all else
abbrev pub unloads_first : List PlannedStep → Bool
unloads_first [] = true
unloads_first (step ∷ steps) = if unloads step then unloads_first steps else not (list_any unloads steps)
