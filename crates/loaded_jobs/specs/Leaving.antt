-- Which jobs went at the last event.
use Rattle.std.specs.Prelude.{◌≡◌, ◌⊎◌, ℕ, zero, suc, ◌==◌, Bool, false, not, List, [], ◌∷◌}
use Rattle.std.specs.List.{filter}
use Rattle.loaded_jobs.specs.JobSlots.{AllStay}
use Rattle.loaded_jobs.specs.Triggers.{triggers_of}
use Rattle.loaded_jobs.specs.declared.job_slot.JobSlot.{JobSlot}
use Rattle.loaded_jobs.specs.declared.gone_jobs.Gone.{Gone}
use Rattle.loaded_jobs.specs.declared.gone_jobs.Gone.TheVariants.{Nobody, One, Several}
use Rattle.loaded_jobs.specs.declared.trigger.Listed.{Listed}

-- each job but the one at this place stays
abbrev pub AllStayBut : ℕ → List JobSlot → Type 0
AllStayBut place [] = Unit {0}
AllStayBut zero (e ∷ es) = AllStay es
AllStayBut (suc place) (e ∷ es) = (e.has_gone ≡ false) × AllStayBut place es

-- nobody went, or only the job at one place may have; else each may have
abbrev pub StayBut : Gone → List JobSlot → Type 0
StayBut Nobody es = AllStay es
StayBut (One place) es = AllStayBut place es
StayBut Several es = Unit {0}

-- who may have gone, once the job at this place went too
abbrev pub one_more_gone : Gone → ℕ → Gone
one_more_gone Nobody place = One place
one_more_gone gone place = Several

-- the trigger is that of another job
abbrev pub is_of_other : ℕ → Listed → Bool
is_of_other number one = not (one.number == number)

-- the triggers of the job are dropped; or it has none, and all are as they were
abbrev pub IsWithout : JobSlot → List Listed → List Listed → Type 0
IsWithout gone listed later =
    (later ≡ filter (is_of_other gone.number) listed)
    ⊎ ((triggers_of gone.def ≡ []) × (later ≡ listed))
