-- A setting removes the job with its label, or touches no job.
use Rattle.std.proofs.Common.{◌≡◌, ◌≤◌, Bool, true, false, [], map, Some, None, refl, sym, ap, ◌∙◌, subst, ◌||◌}
use Rattle.std.specs.Prelude.{Result, Ok, Err, is_ok}
use Rattle.std.specs.List.{flat_map}
use Rattle.history_model.specs.declared.Refusal.{Refusal}
use Rattle.history_model.specs.declared.TheConstants.{MAX_UP}
use Rattle.history_model.specs.Items.{History}
use Rattle.history_model.specs.Labels.{Label}
use Rattle.history_model.specs.Machine.{State, UnloadJob}
use Rattle.history_model.specs.Acceptance.{refusal_in}
use Rattle.history_model.specs.Step.{Outcome, with_orders, step, step_by, outcome, outcome_by, orders_of}
use Rattle.loaded_jobs.specs.Tables.{Table}
use Rattle.loaded_jobs.specs.StandsFor.{KeepsState, labelled, acts_in}
use Rattle.loaded_jobs.specs.SettingChanges.{withdrawn, set_of}
use Rattle.loaded_jobs.specs.JobSlots.{rows, name}
use Rattle.loaded_jobs.specs.TableOutcomes.{plain_outcome}
use Rattle.loaded_jobs.specs.Alike.{IsAlike}
use Rattle.loaded_jobs.specs.Counts.{counts, Counts, IsCounted}
use Rattle.loaded_jobs.specs.Numbers.{row_names, KeepsNames}
use Rattle.loaded_jobs.specs.Touching.{is_for_job}
use Rattle.loaded_jobs.specs.Sound.{seen_table}
use Rattle.loaded_jobs.specs.declared.jobs.Jobs.{Jobs}
use Rattle.loaded_jobs.proofs.EventsLemmas.{alike-state}
use Rattle.loaded_jobs.proofs.RestLemmas.{rests-with_orders}

-- the state with its orders once the job heard its unload, or nobody did
pub record IsWithdrawn (new : Jobs) (s : State) : Type 0 where
  pub kept : KeepsState (seen_table new) (with_orders s)
  pub orders : acts_in (seen_table new) ≡ flat_map orders_of s.jobs

pub none-withdrawn : (old new : Jobs) (label : Label) (b : Bool) (s : State) → b ≡ false → IsAlike old new → rows new.job_slots.items ≡ rows old.job_slots.items → new.orders.items ≡ [] →
    old.reading.up ≤ MAX_UP → KeepsState (seen_table old) s → IsWithdrawn new (withdrawn label b s)
none-withdrawn old new label true s is alike same orders range keeps = cc
none-withdrawn old new label false s is alike same orders range keeps =
    let idle = rests-with_orders (seen_table old) s range keeps in
    record {
      kept = subst (KeepsState (seen_table new)) (sym idle.0) (alike-state old new s alike keeps same);
      orders = ap (labelled (map name new.job_slots.items)) orders ∙ sym idle.1;
    }

pub one-withdrawn : (new : Jobs) (label : Label) (b : Bool) (s : State) (result : Result (Unit {0}) Refusal) → b ≡ true → (b ≡ true → refusal_in s (UnloadJob label false true) ≡ None) →
    outcome s (UnloadJob label false true) ≡ plain_outcome result (seen_table new) → KeepsState (seen_table new) (step s (UnloadJob label false true)) → is_ok result ≡ true →
    IsWithdrawn new (withdrawn label b s)
one-withdrawn new label false s result is allowed answer kept good = cc
one-withdrawn new label true s (Err refusal) is allowed answer kept good = cc
one-withdrawn new label true s (Ok done) is allowed answer kept good =
    let e = UnloadJob label false true in
    let none = allowed refl in
    record {
      kept = subst (KeepsState (seen_table new)) (ap (λ o. step_by o s e) none) kept;
      orders = ap (λ (o : Outcome). o.orders) (sym answer ∙ ap (λ o. outcome_by o s e) none);
    }

-- an unload that is not refused gives no refusal
pub never-refused : {P : Type 0} (new : Table) (label : Label) (b : Bool) (s : State) (result : Result (Unit {0}) Refusal) → b ≡ true → (b ≡ true → refusal_in s (UnloadJob label false true) ≡ None) →
    outcome s (UnloadJob label false true) ≡ plain_outcome result new → is_ok result ≡ false → P
never-refused new label false s result is allowed answer bad = cc
never-refused new label true s (Ok done) is allowed answer bad = cc
never-refused new label true s (Err refusal) is allowed answer bad =
    let e = UnloadJob label false true in
    let clash : Some refusal ≡ None = ap (λ (o : Outcome). o.refusal) (sym answer ∙ ap (λ o. outcome_by o s e) (allowed refl)) in absurd (cc clash)

-- the frame of an unload that was accepted, and of one that was refused
pub counted-ok : (old new : Table) (result : Result (Unit {0}) Refusal) → is_ok result ≡ true → Counts result old new → IsCounted (counts old.rows) new.rows new.gone new.visited
counted-ok old new (Ok done) good counted = counted
counted-ok old new (Err refusal) good counted = cc

pub names-ok : (old new : Table) (result : Result (Unit {0}) Refusal) → is_ok result ≡ true → KeepsNames result old new → new.names ≡ row_names old.rows
names-ok old new (Ok done) good names = names
names-ok old new (Err refusal) good names = cc

pub rows-err : (old new : Table) (result : Result (Unit {0}) Refusal) → is_ok result ≡ false → Counts result old new → new.rows ≡ old.rows
rows-err old new (Ok done) bad counted = cc
rows-err old new (Err refusal) bad same = same

-- whom a setting with an unload is not for, the unload is not for
pub apart-unload : (label other : Label) (past : History) (disabled b store : Bool) → b ≡ true → is_for_job (set_of label disabled b store) other past ≡ false → is_for_job (UnloadJob label false true) other past ≡ false
apart-unload label other past disabled true store is apart = apart
apart-unload label other past disabled false store is apart = cc

-- an unload disables: a setting's event says nothing else of it
pub set_same : (label : Label) (disabled unload store : Bool) → set_of label (disabled || unload) unload store ≡ set_of label disabled unload store
set_same label true true store = refl
set_same label true false store = refl
set_same label false true store = refl
set_same label false false store = refl
