-- The intervals of the jobs that stay, and of one more.
use Rattle.std.proofs.Common.{ℕ, zero, suc, Bool, true, false, not, cond, List, [], ◌∷◌, ◌++◌, map, take, drop}
use Rattle.std.specs.List.{filter}
use Rattle.loaded_jobs.specs.Periods.{HasPositivePeriod, HavePeriods}
use Rattle.loaded_jobs.specs.JobSlots.{name, job_slot_stays}
use Rattle.loaded_jobs.specs.declared.job_slot.JobSlot.{JobSlot}

pub periods-tidy : (es : List JobSlot) → HavePeriods (map name es) → HavePeriods (map name (filter job_slot_stays es))
periods-tidy [] all = tt
periods-tidy (e ∷ es) all = go e.has_gone (periods-tidy es all.1)
  where
    go : (b : Bool) → HavePeriods (map name (filter job_slot_stays es)) → HavePeriods (map name (cond (not b) (e ∷ filter job_slot_stays es) (filter job_slot_stays es)))
    go true later = later
    go false later = (all.0, later)

pub periods-placed : (new : JobSlot) (es : List JobSlot) (k : ℕ) → HasPositivePeriod new.def → HavePeriods (map name es) → HavePeriods (map name (take k es ++ new ∷ drop k es))
periods-placed new es zero own all = (own, all)
periods-placed new [] (suc k) own all = (own, tt)
periods-placed new (e ∷ es) (suc k) own all = (all.0, periods-placed new es k own all.1)
