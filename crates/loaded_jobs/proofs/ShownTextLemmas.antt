-- The text of the list grows slot by slot.
use Rattle.std.proofs.Common.{◌≡◌, ℕ, suc, Bool, true, false, List, [], ◌∷◌, ◌++◌, cond, ◌+◌, ◌<◌, drop, length, get_or, add-one, subst, append-nil, refl, sym, ap, ◌∙◌, append_assoc}
use Rattle.std.specs.List.{flat_map}
use Rattle.history_model.specs.declared.Reading.{Reading}
use Rattle.history_model.specs.Machine.{Job}
use Rattle.history_model.specs.Texts.{shown_text}
use Rattle.loaded_jobs.specs.StandsFor.{KeepsJob, KeepsJobs}
use Rattle.loaded_jobs.specs.JobSlots.{row, rows}
use Rattle.loaded_jobs.specs.Listed.{IsListed}
use Rattle.loaded_jobs.specs.declared.job_slot.JobSlot.{JobSlot}
use Rattle.loaded_jobs.proofs.ListLemmas.{at-drop}

-- the list comes one slot further
pub listed-step : (at : Reading) (es : List JobSlot) (i : ℕ) (e : JobSlot) (text later whole : List ℕ) → i < length es → e ≡ get_or es i e →
    (e.has_gone ≡ true → later ≡ text) → ((job : Job) → e.has_gone ≡ false → KeepsJob at (row e) job → later ≡ text ++ shown_text job) →
    IsListed at (rows (drop i es)) text whole → IsListed at (rows (drop (i + 1) es)) later whole
listed-step at es i e text later whole within is going line way =
    let first : drop i es ≡ e ∷ drop (suc i) es = at-drop es i e within is in
    rw add-one (go e.has_gone refl (subst (λ all. IsListed at (rows all) text whole) first way))
  where
    go : (b : Bool) → e.has_gone ≡ b → IsListed at (cond e.has_gone (rows (drop (suc i) es)) (row e ∷ rows (drop (suc i) es))) text whole → IsListed at (rows (drop (suc i) es)) later whole
    go true stays way =
        let kept = subst (λ b. KeepsJobs at (cond b (rows (drop (suc i) es)) (row e ∷ rows (drop (suc i) es))) way.rest) stays way.keeps in
        record { rest = way.rest; keeps = kept; leads = ap (λ t. t ++ flat_map shown_text way.rest) (going stays) ∙ way.leads }
    go false stays way = more way.rest (subst (λ b. KeepsJobs at (cond b (rows (drop (suc i) es)) (row e ∷ rows (drop (suc i) es))) way.rest) stays way.keeps) way.leads
      where
        more : (rest : List Job) → KeepsJobs at (row e ∷ rows (drop (suc i) es)) rest → text ++ flat_map shown_text rest ≡ whole → IsListed at (rows (drop (suc i) es)) later whole
        more [] keeps leads = absurd keeps
        more (job ∷ rest) keeps leads = record {
          rest = rest;
          keeps = keeps.1;
          leads = ap (λ t. t ++ flat_map shown_text rest) (line job stays keeps.0) ∙ append_assoc text (shown_text job) (flat_map shown_text rest) ∙ leads;
        }

pub listed-end : (at : Reading) (text whole : List ℕ) → IsListed at [] text whole → text ≡ whole
listed-end at text whole way = go way.rest way.keeps way.leads
  where
    go : (rest : List Job) → KeepsJobs at [] rest → text ++ flat_map shown_text rest ≡ whole → text ≡ whole
    go [] keeps leads = sym (append-nil text) ∙ leads
    go (job ∷ rest) keeps leads = absurd keeps
