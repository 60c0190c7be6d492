-- What an order leaves of a past, and the rows of lists.
use Rattle.std.proofs.Common.{◌≡◌, Bool, true, false, cond, List, [], ◌∷◌, ◌++◌, Option, Some, None, refl, ap, subst}
use Rattle.history_model.specs.declared.Reading.{Reading}
use Rattle.history_model.specs.declared.Act.{Act}
use Rattle.history_model.specs.Items.{History}
use Rattle.history_model.specs.Clock.{now, definition_of}
use Rattle.history_model.specs.Due.{due}
use Rattle.history_model.specs.Facts.{Facts}
use Rattle.history_model.specs.FactsOfPast.{Keeps, ordered}
use Rattle.history_model.specs.Machine.{Job}
use Rattle.loaded_jobs.specs.Tables.{Row}
use Rattle.loaded_jobs.specs.StandsFor.{KeepsJobs}
use Rattle.loaded_jobs.specs.JobSlots.{row, rows}
use Rattle.loaded_jobs.specs.declared.job_slot.JobSlot.{JobSlot}

pub now-ordered : (o : Option Act) (t : History) → now (ordered o t) ≡ now t
now-ordered None t = refl
now-ordered (Some act) t = refl

pub definition-ordered : (o : Option Act) (t : History) → definition_of (ordered o t) ≡ definition_of t
definition-ordered None t = refl
definition-ordered (Some act) t = refl

pub Keeps-due : (new : Facts) (wanted : Option Act) (t : History) → wanted ≡ due t → Keeps new (ordered wanted t) → Keeps new (ordered (due t) t)
Keeps-due new wanted t e keeps = subst (λ o. Keeps new (ordered o t)) e keeps

pub KeepsJobs-append : (at : Reading) (xs ys : List Row) (js ks : List Job) → KeepsJobs at xs js → KeepsJobs at ys ks → KeepsJobs at (xs ++ ys) (js ++ ks)
KeepsJobs-append at [] ys [] ks p q = q
KeepsJobs-append at [] ys (j ∷ js) ks p q = absurd p
KeepsJobs-append at (x ∷ xs) ys [] ks p q = absurd p
KeepsJobs-append at (x ∷ xs) ys (j ∷ js) ks p q = (p.0, KeepsJobs-append at xs ys js ks p.1 q)

rows-cons : (b : Bool) (r : Row) (xs ys both : List Row) → both ≡ xs ++ ys → cond b both (r ∷ both) ≡ cond b xs (r ∷ xs) ++ ys
rows-cons true r xs ys both e = e
rows-cons false r xs ys both e = ap (λ rs. r ∷ rs) e

pub rows-append : (xs ys : List JobSlot) → rows (xs ++ ys) ≡ rows xs ++ rows ys
rows-append [] ys = refl
rows-append (e ∷ es) ys = rows-cons e.has_gone (row e) (rows es) (rows ys) (rows (es ++ ys)) (rows-append es ys)

pub rows-stay : (e : JobSlot) (es : List JobSlot) → e.has_gone ≡ false → rows (e ∷ es) ≡ row e ∷ rows es
rows-stay e es stays = ap (λ b. cond b (rows es) (row e ∷ rows es)) stays
