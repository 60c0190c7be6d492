-- Byte order, the paths of rows and of jobs, and the slot with a label.
use Rattle.std.proofs.Common.{◌≡◌, ℕ, zero, suc, true, false, not, List, [], ◌∷◌, ◌++◌, get_or, refl, sym, ap, ◌∙◌}
use Rattle.std.specs.Ordering.{nat_cmp, ordering_reverse}
use Rattle.std.specs.Cmp.Lexicographic.{slice_cmp, nat_list_cmp_total}
use Rattle.std.specs.declared.cmp.Ordering.{Ordering}
use Rattle.std.specs.declared.cmp.Ordering.TheVariants.{Less, Equal, Greater}
use Rattle.history_model.specs.declared.Reading.{Reading}
use Rattle.history_model.specs.Labels.{Label, is_less, is_before}
use Rattle.history_model.specs.Machine.{Job}
use Rattle.history_model.proofs.BooleanLemmas.{and-right}
use Rattle.loaded_jobs.specs.Tables.{Row}
use Rattle.loaded_jobs.specs.StandsFor.{KeepsJobs}
use Rattle.loaded_jobs.specs.JobSlots.{has_label, is_loaded_under}
use Rattle.loaded_jobs.specs.Nearest.{paths_of, listed_paths, paths_in}
use Rattle.loaded_jobs.specs.declared.job_slot.JobSlot.{JobSlot}
use Rattle.loaded_jobs.proofs.FirstLemmas.{IsFirstWhere}
use Rattle.loaded_jobs.proofs.SettingLemmas.{is-label}

-- ---- byte order

self-equal : (a : Label) → slice_cmp nat_cmp a a ≡ Equal
self-equal a = go (slice_cmp nat_cmp a a) refl (nat_list_cmp_total.antisymm a a)
  where
    go : (o : Ordering) → slice_cmp nat_cmp a a ≡ o → slice_cmp nat_cmp a a ≡ ordering_reverse (slice_cmp nat_cmp a a) → slice_cmp nat_cmp a a ≡ Equal
    go Less is same = let clash : Less ≡ Greater = sym is ∙ same ∙ ap ordering_reverse is in absurd (cc clash)
    go Equal is same = is
    go Greater is same = let clash : Greater ≡ Less = sym is ∙ same ∙ ap ordering_reverse is in absurd (cc clash)

pub not-before-self : (a : Label) → is_before a a ≡ false
not-before-self a = ap is_less (self-equal a)

-- ---- the paths of rows and of jobs

pub paths-same : (at : Reading) (rs : List Row) (jobs : List Job) → KeepsJobs at rs jobs → paths_in rs ≡ listed_paths jobs
paths-same at [] [] keeps = refl
paths-same at [] (job ∷ jobs) keeps = absurd keeps
paths-same at (r ∷ rs) [] keeps = absurd keeps
paths-same at (r ∷ rs) (job ∷ jobs) keeps = λ i. paths_of (keeps.0.definition i) ++ paths-same at rs jobs keeps.1 i

-- ---- the slot with a label

here-at : (label : Label) (es : List JobSlot) (k : ℕ) (d : JobSlot) → IsFirstWhere (is_loaded_under label) es k → is_loaded_under label (get_or es k d) ≡ true
here-at label [] k d at = absurd at
here-at label (e ∷ es) zero d at = at
here-at label (e ∷ es) (suc k) d at = here-at label es k d at.1

pub here-labelled : (label : Label) (es : List JobSlot) (k : ℕ) (e : JobSlot) → IsFirstWhere (is_loaded_under label) es k → e ≡ get_or es k e → label ≡ e.def.label
here-labelled label es k e at is = is-label label e.def.label (and-right (not e.has_gone) (has_label label e) (ap (is_loaded_under label) is ∙ here-at label es k e at))
