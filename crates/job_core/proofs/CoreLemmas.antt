-- What a core's facts are, to which it holds a pointer.
use Rattle.std.proofs.Common.{◌≡◌, ℕ, Option, subst, sym}
use Rattle.std.specs.Prelude.{Result}
use Rattle.history_model.specs.declared.Act.{Act}
use Rattle.history_model.specs.declared.Reading.{Reading as Moment}
use Rattle.history_model.specs.declared.Refusal.{Refusal}
use Rattle.history_model.specs.Items.{History, Item}
use Rattle.history_model.specs.Facts.{Facts}
use Rattle.history_model.specs.FactsOfPast.{Keeps}
use Rattle.history_model.specs.ByFacts.{Follows, facts_after_order}
use Rattle.history_model.specs.DueByFacts.{due_by}
use Rattle.job_core.specs.State.{CoreState}
use Rattle.job_core.specs.JobFields.{facts}
use Rattle.job_core.specs.declared.job.Job.{Job}

-- a past that the core keeps is kept by what lies there
pub within : (s t : CoreState) (past : History) → s ≡ t → Keeps t.facts past → Keeps s.facts past
within s t past same = subst (λ (x : CoreState). Keeps x.facts past) (sym same)

-- what follows of the one facts follows of the same
pub follows-there : (a b : Job) (item : Item) (now : Moment) (result : Result (Unit {0}) Refusal) (after : Facts) → a ≡ b → Follows (facts a) item now result after → Follows (facts b) item now result after
follows-there a b item now result after same = subst (λ (j : Job). Follows (facts j) item now result after) same

-- and so is what is due
pub due-there : (a b : Job) (up : ℕ) (act : Option Act) → a ≡ b → act ≡ due_by (facts a) up → act ≡ due_by (facts b) up
due-there a b up act same = subst (λ (j : Job). act ≡ due_by (facts j) up) same

-- and what they are after that
pub after-there : (a b : Job) (up : ℕ) (act : Option Act) (after : Facts) → a ≡ b → after ≡ facts_after_order act up (facts a) → after ≡ facts_after_order act up (facts b)
after-there a b up act after same = subst (λ (j : Job). after ≡ facts_after_order act up (facts j)) same
