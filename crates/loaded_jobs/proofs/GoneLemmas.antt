-- Who may have gone: nobody, the job at one place, or several.
use Rattle.std.proofs.Common.{◌≡◌, ℕ, zero, suc, ◌≤◌, false, List, [], ◌∷◌, length, Some, ap, ◌∙◌, arith}
use Rattle.std.specs.Prelude.{slice_get, slice_set}
use Rattle.loaded_jobs.specs.JobSlots.{AllStay}
use Rattle.loaded_jobs.specs.Leaving.{AllStayBut, StayBut, one_more_gone}
use Rattle.loaded_jobs.specs.declared.job_slot.JobSlot.{JobSlot}
use Rattle.loaded_jobs.specs.declared.gone_jobs.Gone.{Gone}
use Rattle.loaded_jobs.specs.declared.gone_jobs.Gone.TheVariants.{Nobody, One, Several}
use Rattle.loaded_jobs.proofs.PlacesLemmas.{stay-set}

all-but : (place : ℕ) (es : List JobSlot) → AllStay es → AllStayBut place es
all-but place [] stay = tt
all-but zero (e ∷ es) stay = stay.1
all-but (suc place) (e ∷ es) stay = (stay.0, all-but place es stay.1)

-- if all stay, what is said of who may have gone is right
pub stay-but : (gone : Gone) (es : List JobSlot) → AllStay es → StayBut gone es
stay-but Nobody es stay = stay
stay-but (One place) es stay = all-but place es stay
stay-but Several es stay = tt

pub all-past : (place : ℕ) (es : List JobSlot) → AllStayBut place es → length es ≤ place → AllStay es
all-past place [] others past = tt
all-past zero (e ∷ es) others past = absurd (omega (arith, past))
all-past (suc place) (e ∷ es) others past = (others.0, all-past place es others.1 (omega (arith, past)))

pub all-here : (place : ℕ) (es : List JobSlot) (e : JobSlot) → AllStayBut place es → slice_get es place ≡ Some e → e.has_gone ≡ false → AllStay es
all-here place [] e others at stays = tt
all-here zero (x ∷ xs) e others at stays = let same : x ≡ e = cc in (ap (λ y. y.has_gone) same ∙ stays, others)
all-here (suc place) (x ∷ xs) e others at stays = (others.0, all-here place xs e others.1 at stays)

but-set : (place : ℕ) (es : List JobSlot) (new : JobSlot) → AllStay es → AllStayBut place (slice_set es place new)
but-set place [] new stay = tt
but-set zero (e ∷ es) new stay = stay.1
but-set (suc place) (e ∷ es) new stay = (stay.0, but-set place es new stay.1)

but-other : (place k : ℕ) (es : List JobSlot) (new : JobSlot) → AllStayBut place es → new.has_gone ≡ false → AllStayBut place (slice_set es k new)
but-other place k [] new others stays = tt
but-other zero zero (e ∷ es) new others stays = others
but-other zero (suc k) (e ∷ es) new others stays = stay-set es k new others stays
but-other (suc place) zero (e ∷ es) new others stays = (stays, others.1)
but-other (suc place) (suc k) (e ∷ es) new others stays = (others.0, but-other place k es new others.1 stays)

-- one more job was visited, and stays
pub stayed-more : (gone : Gone) (k : ℕ) (es : List JobSlot) (new : JobSlot) → StayBut gone es → new.has_gone ≡ false → StayBut gone (slice_set es k new)
stayed-more Nobody k es new others stays = stay-set es k new others stays
stayed-more (One place) k es new others stays = but-other place k es new others stays
stayed-more Several k es new others stays = tt

-- one more job was visited, and may be gone
pub went-more : (gone : Gone) (k : ℕ) (es : List JobSlot) (new : JobSlot) → StayBut gone es → StayBut (one_more_gone gone k) (slice_set es k new)
went-more Nobody k es new others = but-set k es new others
went-more (One place) k es new others = tt
went-more Several k es new others = tt
