-- A question leaves a state at rest as it is.
use Rattle.std.proofs.Common.{◌≡◌, ℕ, ◌≤◌, Bool, true, false, ◌&&◌, cond, zero, suc, List, [], ◌∷◌, map, get_or, Some, None, refl, ap, ◌∙◌}
use Rattle.std.specs.List.{flat_map, list_all}
use Rattle.history_model.specs.declared.Reading.{Reading}
use Rattle.history_model.specs.declared.TheConstants.{MAX_UP}
use Rattle.history_model.specs.Machine.{State, Job, Event}
use Rattle.history_model.specs.Acceptance.{refusal_in}
use Rattle.history_model.specs.Step.{orders_of, taken, with_orders, step, step_by, outcome, outcome_by}
use Rattle.history_model.specs.Texts.{text_after}
use Rattle.history_model.proofs.OneLabelLemmas.{rest-stays, rest-orders}
use Rattle.loaded_jobs.specs.Tables.{Table, label_of, definition_of_number}
use Rattle.loaded_jobs.specs.StandsFor.{KeepsJobs, KeepsState, is_none}
use Rattle.loaded_jobs.specs.JobSlots.{row, name, rows, has_number}
use Rattle.loaded_jobs.specs.declared.job_slot.JobSlot.{JobSlot}
use Rattle.loaded_jobs.proofs.FirstLemmas.{IsFirstWhere, NonePasses}
use Rattle.loaded_jobs.proofs.OutcomesLemmas.{good}

pub rests-text : (table : Table) (s : State) (e : Event) (text : List ℕ) → table.reading.up ≤ MAX_UP → KeepsState table s → refusal_in s e ≡ None → taken s e ≡ s →
    text_after e s ≡ text → (outcome s e ≡ record { refusal = None; orders = []; text = text }) × (step s e ≡ s)
rests-text table s e text range keeps none same said =
    let rests = (good table s range keeps).rests in
    let stay : with_orders s ≡ s = λ i. record s { jobs = rest-stays s.reading s.jobs rests i } in
    let orders = ap (λ t. flat_map orders_of t.jobs) same ∙ rest-orders s.reading s.jobs rests in
    let shown = ap (λ t. text_after e (with_orders t)) same ∙ ap (text_after e) stay ∙ said in (
      ap (λ o. outcome_by o s e) none ∙ (λ i. record { refusal = None; orders = orders i; text = shown i }),
      ap (λ o. step_by o s e) none ∙ ap with_orders same ∙ stay,
    )

-- a state that a table keeps rests: asked again it stays, and orders nothing
pub rests-with_orders : (table : Table) (s : State) → table.reading.up ≤ MAX_UP → KeepsState table s → (with_orders s ≡ s) × (flat_map orders_of s.jobs ≡ [])
rests-with_orders table s range keeps =
    let rests = (good table s range keeps).rests in
    ((λ i. record s { jobs = rest-stays s.reading s.jobs rests i }), rest-orders s.reading s.jobs rests)

-- no job is loaded if every slot is gone
pub empty-same : (at : Reading) (es : List JobSlot) (jobs : List Job) → KeepsJobs at (rows es) jobs → list_all (λ e. e.has_gone) es ≡ is_none jobs
empty-same at [] [] keeps = refl
empty-same at [] (job ∷ jobs) keeps = absurd keeps
empty-same at (e ∷ es) jobs keeps = go e.has_gone jobs keeps (empty-same at es jobs)
  where
    go : (b : Bool) (jobs : List Job) → KeepsJobs at (cond b (rows es) (row e ∷ rows es)) jobs → (KeepsJobs at (rows es) jobs → list_all (λ e. e.has_gone) es ≡ is_none jobs) →
        (b && list_all (λ e. e.has_gone) es) ≡ is_none jobs
    go true jobs keeps later = later keeps
    go false [] keeps later = absurd keeps
    go false (job ∷ jobs) keeps later = refl

-- ---- labels by number

pub label-at : (number : ℕ) (es : List JobSlot) (k : ℕ) (d : JobSlot) → IsFirstWhere (has_number number) es k → label_of (map name es) number ≡ (get_or es k d).def.label
label-at number [] k d at = absurd at
label-at number (e ∷ es) zero d at = ap (λ b. cond b e.def.label (label_of (map name es) number)) at
label-at number (e ∷ es) (suc k) d at = ap (λ b. cond b e.def.label (label_of (map name es) number)) at.0 ∙ label-at number es k d at.1

pub no-label : (number : ℕ) (es : List JobSlot) → NonePasses (has_number number) es → label_of (map name es) number ≡ []
no-label number [] none = refl
no-label number (e ∷ es) none = ap (λ b. cond b e.def.label (label_of (map name es) number)) none.0 ∙ no-label number es none.1

pub definition-at : (number : ℕ) (es : List JobSlot) (k : ℕ) (d : JobSlot) → IsFirstWhere (has_number number) es k → definition_of_number (map name es) number ≡ Some (get_or es k d).def
definition-at number [] k d at = absurd at
definition-at number (e ∷ es) zero d at = ap (λ b. cond b (Some e.def) (definition_of_number (map name es) number)) at
definition-at number (e ∷ es) (suc k) d at = ap (λ b. cond b (Some e.def) (definition_of_number (map name es) number)) at.0 ∙ definition-at number es k d at.1

pub no-definition : (number : ℕ) (es : List JobSlot) → NonePasses (has_number number) es → definition_of_number (map name es) number ≡ None
no-definition number [] none = refl
no-definition number (e ∷ es) none = ap (λ b. cond b (Some e.def) (definition_of_number (map name es) number)) none.0 ∙ no-definition number es none.1
