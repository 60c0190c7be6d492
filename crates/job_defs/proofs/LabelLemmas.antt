-- What a definition's keys make of its label.
use Rattle.std.proofs.Common.{◌≡◌, ℕ, Bool, true, false, List, Result, Ok, Err, refl, ap, subst}
use Rattle.std.specs.Prelude.{if◌then◌else◌}
use Rattle.serde_json.specs.Data.{Data}
use Rattle.serde_json.specs.Find.{as_object}
use Rattle.history_model.specs.declared.Reason.TheVariants.{BadLabel, NotObject}
use Rattle.history_model.specs.declared.KeyName.TheVariants as keys
use Rattle.history_model.specs.Labels.{is_label}
use Rattle.history_model.specs.Machine.{Fault}
use Rattle.history_model.specs.Described.{Described}
use Rattle.history_model.specs.KeyGroups.{Launch}
use Rattle.json_kinds.specs.DefFaults.{bad, or_fault, ◌>>=◌}
use Rattle.json_kinds.specs.JsonKinds.{bool_key, optional_text, required, text_at}
use Rattle.job_defs.specs.Commands.{command_key, label_key}
use Rattle.job_defs.specs.Sockets.{sockets_and_inetd}
use Rattle.job_defs.specs.Keys.{json_at, launch_at, demand_at, pace_at, surroundings_at, refusals_at, def_at, def_of}

-- what a step goes on with
goes_on : {A B E : Type 0} (r : Result A E) (f : A → Result B E) (b : B) → (r >>= f) ≡ Ok b → (a : A) × (r ≡ Ok a) × (f a ≡ Ok b)
goes_on (Ok a) f b is = (a, refl, is)
goes_on (Err e) f b is = cc

abbrev value_or : {A E : Type 0} → A → Result A E → A
value_or other (Ok a) = a
value_or other (Err e) = other

picked_by : (b : Bool) (text label : List ℕ) → is_label text ≡ b → (if b then Ok text else Err (bad BadLabel keys.Label)) ≡ Ok label → is_label label ≡ true
picked_by true text label e is = subst (λ l. is_label l ≡ true) (ap (λ (r : Result (List ℕ) Fault). value_or text r) is) e
picked_by false text label e is = cc

key_label : (d : Data) (label : List ℕ) → label_key d ≡ Ok label → is_label label ≡ true
unfolding label_key
key_label d label is =
    let found = goes_on (required keys.Label d) _ label is in
    let text = goes_on (text_at keys.Label found.0) _ label found.2 in
    picked_by (is_label text.0) text.0 label refl text.2

launch_label : (d : Data) (launch : Launch) → launch_at d ≡ Ok launch → is_label launch.label ≡ true
unfolding launch_at
launch_label d launch is =
    let label = goes_on (label_key d) _ launch is in
    let program = goes_on (optional_text 4096 keys.Program d) _ launch label.2 in
    let command = goes_on (command_key program.0 d) _ launch program.2 in
    let run = goes_on (bool_key false keys.RunAtLoad d) _ launch command.2 in
    let once = goes_on (bool_key false keys.LaunchOnlyOnce d) _ launch run.2 in
    let disabled = goes_on (bool_key false keys.DisabledKey d) _ launch once.2 in
    subst (λ l. is_label l ≡ true) (ap (λ (r : Result Launch Fault). (value_or launch r).label) disabled.2) (key_label d label.0 label.1)

at_label : (d : Data) (described : Described) → def_at d ≡ Ok described → is_label described.label ≡ true
unfolding def_at
at_label d described is =
    let dictionary = goes_on (or_fault (as_object d) (bad NotObject keys.NoKey)) _ described is in
    let launch = goes_on (launch_at d) _ described dictionary.2 in
    let demand = goes_on (demand_at d) _ described launch.2 in
    let pace = goes_on (pace_at d) _ described demand.2 in
    let around = goes_on (surroundings_at d) _ described pace.2 in
    let sockets = goes_on (sockets_and_inetd d) _ described around.2 in
    let nothing = goes_on (refusals_at d) _ described sockets.2 in
    subst (λ l. is_label l ≡ true) (ap (λ (r : Result Described Fault). (value_or described r).label) nothing.2) (launch_label d launch.0 launch.1)

-- what is read has a label
pub label_read : (bytes : List ℕ) (described : Described) → def_of bytes ≡ Ok described → is_label described.label ≡ true
unfolding def_of
label_read bytes described is =
    let read = goes_on (json_at bytes) _ described is in
    at_label read.0 described read.2
