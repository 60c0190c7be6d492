-- Worked examples of settings (launchctl(1): enable, disable, load -w and -F, unload -w; launchd.plist(5): Disabled). Each is
-- a theorem that computes.
use Rattle.std.specs.Prelude.{◌≡◌, true, false, [], ◌∷◌, refl, codes}
use Rattle.std.specs.Fmt.{digits}
use Rattle.history_model.specs.declared.Act.TheVariants.{Gone}
use Rattle.history_model.specs.declared.Refusal.TheVariants.{BadRequest, AlreadyLoaded, Disabled, StoreRefused}
use Rattle.history_model.specs.Items.{Definition}
use Rattle.history_model.specs.Clock.{no_definition}
use Rattle.history_model.specs.Machine.{Unreadable, UnloadJob, Set, ListJobs, PrintJob}
use Rattle.history_model.specs.Step.{outcomes}
use Rattle.history_model.proofs.ExampleWords.{start_with, start, load_as, load, a, none, gives, says, refuses}

-- a disabled label is not loaded, but for -F, which leaves the setting; an event that can't be read is refused
pub disabled_and_forced : outcomes (
    Set a true true ∷ load a no_definition ∷ load_as false true true true a no_definition ∷ PrintJob a ∷ load a no_definition ∷ Set a false true ∷ Unreadable ∷ []
    ) start
    ≡ none ∷ refuses Disabled ∷ none
    ∷ says (codes "a = {\n\tstate = idle\n\tpid = -\n\truns = 0\n\tlast exit = never\n\tdemand = no\n\tconnections = 0\n\tdisabled = true\n}\n")
    ∷ refuses AlreadyLoaded ∷ none ∷ refuses BadRequest ∷ []
unfolding digits
disabled_and_forced = refl

-- a load that the store refuses leaves the setting and the jobs
pub store_refused : outcomes (Set a true true ∷ load_as true false true false a no_definition ∷ load a no_definition ∷ load_as true false true true a no_definition ∷ ListJobs ∷ []) start
    ≡ none ∷ refuses StoreRefused ∷ refuses Disabled ∷ none ∷ says (codes "PID\tStatus\tLabel\n-\t0\ta\n") ∷ []
store_refused = refl

-- what a header has under `overrides` are settings
pub override_of_the_header : outcomes (load a no_definition ∷ load_as false true true true a no_definition ∷ []) (start_with (record { label = a; disabled = true } ∷ []))
    ≡ refuses Disabled ∷ none ∷ []
override_of_the_header = refl

-- of a name that is given twice the last counts
pub last_override : outcomes (load a no_definition ∷ []) (start_with (record { label = a; disabled = true } ∷ record { label = a; disabled = false } ∷ []))
    ≡ none ∷ []
last_override = refl

-- a setting needs no job, and orders nothing
pub setting_without_a_job : outcomes (Set (codes "z") true true ∷ Set (codes "z") true false ∷ Set (codes "a/b") true true ∷ []) start
    ≡ none ∷ refuses StoreRefused ∷ refuses BadRequest ∷ []
setting_without_a_job = refl

-- a job whose definition says Disabled
abbrev pub disabled_job : Definition
disabled_job = record no_definition { disabled = true }

-- -w of load enables the label, -w of unload disables it, and a store that refuses leaves the job
pub kept_settings : outcomes (
    load a disabled_job ∷ load_as true false true true a disabled_job ∷ UnloadJob a false true ∷ load a disabled_job ∷ UnloadJob a true false ∷ ListJobs
    ∷ UnloadJob a true true ∷ load a disabled_job ∷ []
    ) start
    ≡ refuses Disabled ∷ none ∷ gives ((a, Gone) ∷ []) ∷ none ∷ refuses StoreRefused ∷ says (codes "PID\tStatus\tLabel\n-\t0\ta\n")
    ∷ gives ((a, Gone) ∷ []) ∷ refuses Disabled ∷ []
kept_settings = refl
