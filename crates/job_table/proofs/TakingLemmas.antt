-- A setting that was made ready and is made is the machine's step, and a question is none.
use Rattle.std.proofs.Common.{◌≡◌, ◌≤◌, ℕ, List, is_some, Bool, true, ◌||◌, [], Option, Some, None, refl, sym, ap, ◌∙◌, subst}
use Rattle.history_model.specs.Labels.{Label}
use Rattle.history_model.specs.declared.Refusal.{Refusal}
use Rattle.history_model.specs.declared.TheConstants.{MAX_UP}
use Rattle.std.specs.Prelude.{Ok}
use Rattle.history_model.specs.Definitions.{given}
use Rattle.history_model.specs.Machine.{State, Event, Load}
use Rattle.history_model.specs.Step.{taken, step, step_by, with_orders}
use Rattle.history_model.specs.Acceptance.{refusal_in, refusal_stored}
use Rattle.job_defs.specs.Keys.{def_of}
use Rattle.loaded_jobs.specs.Counts.{counts, count_in}
use Rattle.loaded_jobs.specs.Loads.{described_in, new_setting_in}
use Rattle.loaded_jobs.specs.Touching.{SparesOthers}
use Rattle.loaded_jobs.specs.declared.loading.Ready.{Ready}
use Rattle.job_table.specs.LoadOfBytes.{given_in, load_of_bytes}
use Rattle.loaded_jobs.specs.Tables.{Table}
use Rattle.loaded_jobs.specs.StandsFor.{KeepsState}
use Rattle.loaded_jobs.specs.TableOutcomes.{IsSameFor}
use Rattle.loaded_jobs.specs.SettingChanges.{set_of, IsChanged, Changes}
use Rattle.loaded_jobs.specs.declared.settings_change.NewSetting.{NewSetting}
use Rattle.loaded_jobs.proofs.ChangesLemmas.{set_same}
use Rattle.loaded_jobs.proofs.RestLemmas.{rests-with_orders}
use Rattle.job_table.specs.declared.take.Taken.{Taken}
use Rattle.job_table.specs.declared.take.Taken.TheVariants.{Made}
use Rattle.job_table.specs.Taking.{Steps, outcome_of}

ready_set : (ready : NewSetting) (label : Label) (disabled unload store : Bool) → ready.setting.label ≡ label → ready.setting.disabled ≡ (disabled || unload) → ready.unload ≡ unload
    → set_of ready.setting.label ready.setting.disabled ready.unload store ≡ set_of label disabled unload store
ready_set ready label disabled unload store named set withdrawn =
    ap (λ l. set_of l ready.setting.disabled ready.unload store) named ∙ ap (λ d. set_of label d ready.unload store) set ∙ ap (λ u. set_of label (disabled || unload) u store) withdrawn ∙ set_same label disabled unload store

pub changed : (before old new : Table) (ready : NewSetting) (label : Label) (disabled unload store : Bool) (taken : Taken)
    → ready.setting.label ≡ label → ready.setting.disabled ≡ (disabled || unload) → ready.unload ≡ unload
    → ((s : State) (store : Bool) → KeepsState before s → refusal_in s (set_of label disabled unload store) ≡ refusal_stored true store) → store ≡ true → IsSameFor before old
    → Changes old ready new → taken ≡ Made [] → Steps (set_of label disabled unload store) before (outcome_of taken new) new
changed before old new ready label disabled unload store taken named set withdrawn admitted stored same changes plain = λ s keeps.
    let as_asked = ready_set ready label disabled unload store named set withdrawn in
    let none : refusal_in s (set_of label disabled unload store) ≡ None = admitted s store keeps ∙ ap (refusal_stored true) stored in
    let is : IsChanged new s (set_of label disabled unload store) = subst (IsChanged new s) as_asked (changes s store (same s keeps) (ap (refusal_in s) as_asked ∙ none)) in
    (is.outcome ∙ ap (λ t. outcome_of t new) (sym plain), is.kept)

-- a question that is refused, and one that is answered, leaves a state that a table keeps as it is
pub asked_rests : (table : Table) (s : State) (e : Event) → table.reading.up ≤ MAX_UP → KeepsState table s → taken s e ≡ s → step s e ≡ s
asked_rests table s e range keeps same = go (refusal_in s e) where
  go : (o : Option Refusal) → step_by o s e ≡ s
  go (Some refusal) = refl
  go None = ap with_orders same ∙ (rests-with_orders table s range keeps).0

-- ---- which jobs are asked

-- what is spared of a table that was made ready is spared of the one before it, which has the same jobs
pub spared_before : (e : Event) (before old new : Table) → IsSameFor before old → old.rows ≡ before.rows → SparesOthers e old new → SparesOthers e before new
spared_before e before old new same rows spared = λ s keeps label past there apart.
    spared s (same s keeps) label past there apart ∙ ap (λ r. count_in (counts r) label) rows

-- a setting that was made ready
pub set_spared : (before old new : Table) (ready : NewSetting) (label : Label) (disabled unload store : Bool) →
    ready.setting.label ≡ label → ready.setting.disabled ≡ (disabled || unload) → ready.unload ≡ unload → IsSameFor before old → old.rows ≡ before.rows →
    ((store : Bool) → SparesOthers (set_of ready.setting.label ready.setting.disabled ready.unload store) old new) → SparesOthers (set_of label disabled unload store) before new
set_spared before old new ready label disabled unload store named set withdrawn same rows spared =
    subst (λ (e : Event). SparesOthers e before new) (ready_set ready label disabled unload store named set withdrawn)
    (spared_before (set_of ready.setting.label ready.setting.disabled ready.unload store) before old new same rows (spared store))

-- a load that was made ready
pub load_spared : (before old new : Table) (ready : Ready) (bytes : List ℕ) (writes_setting force bind store : Bool) →
    def_of bytes ≡ Ok (described_in ready) → is_some (new_setting_in ready) ≡ writes_setting → IsSameFor before old → old.rows ≡ before.rows →
    ((force bind store : Bool) → SparesOthers (Load (Ok (given (described_in ready))) (is_some (new_setting_in ready)) force bind store) old new) →
    SparesOthers (load_of_bytes bytes writes_setting force bind store) before new
load_spared before old new ready bytes writes_setting force bind store read writes same rows spared =
    subst (λ (e : Event). SparesOthers e before new)
    ((λ i. Load (Ok (given (described_in ready))) (writes i) force bind store) ∙ (λ i. Load (given_in (sym read i)) writes_setting force bind store))
    (spared_before (Load (Ok (given (described_in ready))) (is_some (new_setting_in ready)) force bind store) before old new same rows (spared force bind store))
