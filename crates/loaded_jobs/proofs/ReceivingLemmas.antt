-- Once every job has heard the touch, the table stands for the jobs with their items.
use Rattle.std.proofs.Common.{◌≡◌, ℕ, Bool, true, false, zero, suc, List, [], ◌∷◌, ◌++◌, map, take, drop, Option, Some, None, refl, ap, ◌∙◌, subst, Bor}
use Rattle.std.specs.Prelude.{Result, Ok, Err, OnOk, if◌then◌else◌}
use Rattle.history_model.specs.declared.Obs.{Obs}
use Rattle.history_model.specs.declared.CivilMinute.{CivilMinute}
use Rattle.history_model.specs.declared.Reading.{Reading as Moment}
use Rattle.history_model.specs.declared.Refusal.{Refusal}
use Rattle.history_model.specs.Items.{Item, Saw, History}
use Rattle.history_model.specs.Clock.{now, definition_of}
use Rattle.history_model.specs.Facts.{Facts}
use Rattle.history_model.specs.FactsOfPast.{Keeps, reply}
use Rattle.history_model.specs.Machine.{Job}
use Rattle.history_model.specs.Step.{received, with_item, lists}
use Rattle.history_model.specs.Definitions.{definition}
use Rattle.history_model.specs.Described.{Described}
use Rattle.loaded_jobs.specs.StandsFor.{KeepsJobs}
use Rattle.loaded_jobs.specs.JobSlots.{row}
use Rattle.loaded_jobs.specs.AffectedJobs.{item_for, nothing_for}
use Rattle.loaded_jobs.specs.Receiving.{followed, refusal_if, IsReceived, AreReceived, AreFor, IsAccepted, Brings}
use Rattle.loaded_jobs.specs.declared.job_slot.JobSlot.{JobSlot}
use Rattle.loaded_jobs.specs.declared.job_slot.AffectedJobs.TheVariants.{Shutdown, Reading, Observation}

pub accepted-kept : (result : Result (Unit {0}) Refusal) (o : Option Refusal) (new : Facts) (past : History) → result ≡ reply o → o ≡ None → OnOk result (Keeps new past) → Keeps new past
accepted-kept (Ok u) o new past is none kept = kept
accepted-kept (Err r) None new past is none kept = cc
accepted-kept (Err r) (Some s) new past is none kept = cc

pub received-as : {at : Moment} {o p : Option Item} {e new : JobSlot} → o ≡ p → IsReceived at o e new → IsReceived at p e new
received-as {at} {o} {p} {e} {new} same received = subst (λ q. IsReceived at q e new) same received

pub received-nothing : {at : Moment} {e : JobSlot} → IsReceived at None e e
received-nothing = record { name = refl; going = refl; decided = refl; kept = λ past keeps present fine. keeps }

pub label-with : (job : Job) (o : Option Item) → job.label ≡ (with_item job o).label
label-with job None = refl
label-with job (Some item) = refl

pub past-with : (job : Job) (o : Option Item) → followed o job.past ≡ (with_item job o).past
past-with job None = refl
past-with job (Some item) = refl

-- ---- what is heard leaves the definition, and brings the clock reading

observation-definition : (past : History) (b : Bool) (path : List ℕ) (obs : Obs) → definition_of past ≡ definition_of (followed (if b then Some (Saw path obs) else None) past)
observation-definition past true path obs = refl
observation-definition past false path obs = refl

observation-present : (past : History) (b : Bool) (path : List ℕ) (obs : Obs) → now past ≡ now (followed (if b then Some (Saw path obs) else None) past)
observation-present past true path obs = refl
observation-present past false path obs = refl

pub observation-brings : (path : Bor (List ℕ)) (obs : Obs) (at : Moment) → Brings (item_for (Observation path obs)) at at
observation-brings path obs at = record {
  present = λ d past is. is ∙ observation-present past (lists (definition d) path.now) path.now obs;
  definition = λ d past. observation-definition past (lists (definition d) path.now) path.now obs;
}

pub shutdown-brings : (at : Moment) → Brings (item_for Shutdown) at at
shutdown-brings at = record { present = λ d past is. is; definition = λ d past. refl }

pub reading-brings : (before at : Moment) (minutes : Bor (List CivilMinute)) → Brings (item_for (Reading at minutes)) before at
reading-brings before at minutes = record { present = λ d past is. refl; definition = λ d past. refl }

pub nothing-brings : (at : Moment) → Brings nothing_for at at
nothing-brings at = record { present = λ d past is. is; definition = λ d past. refl }

module _ (receives : Described → Option Item) (before at : Moment) (brings : Brings receives before at) where
  pub definition-with : (job : Job) (d : Described) (o : Option Item) → receives d ≡ o → definition_of job.past ≡ definition_of (with_item job o).past
  definition-with job d o same = brings.definition d job.past ∙ ap (λ p. definition_of (followed p job.past)) same ∙ ap definition_of (past-with job o)

  pub present-with : (job : Job) (d : Described) (o : Option Item) → receives d ≡ o → before ≡ now job.past → at ≡ now (with_item job o).past
  present-with job d o same is = brings.present d job.past is ∙ ap (λ p. now (followed p job.past)) same ∙ ap now (past-with job o)

pub take-of-drop : {X : Type 0} (xs : List X) (i : ℕ) (x : X) (rest : List X) → drop i xs ≡ x ∷ rest → take (suc i) xs ≡ take i xs ++ x ∷ []
take-of-drop [] zero x rest e = cc
take-of-drop [] (suc i) x rest e = cc
take-of-drop (y ∷ ys) zero x rest e = let same : y ≡ x = cc in ap (λ z. z ∷ []) same
take-of-drop (y ∷ ys) (suc i) x rest e = ap (λ zs. y ∷ zs) (take-of-drop ys i x rest e)

module _ (receives : Described → Option Item) (before at : Moment) (brings : Brings receives before at) where
  -- each job of the machine with its item
  pub received-rows : (item : Job → Option Item) (es later : List JobSlot) (jobs : List Job) → AreReceived before receives es later → AreFor receives item (map row es) jobs → IsAccepted before item →
      KeepsJobs before (map row es) jobs → KeepsJobs at (map row later) (received item jobs)
  received-rows item [] [] [] all for accepted keeps = tt
  received-rows item [] [] (job ∷ jobs) all for accepted keeps = absurd keeps
  received-rows item [] (n ∷ ns) jobs all for accepted keeps = absurd all
  received-rows item (e ∷ es) [] jobs all for accepted keeps = absurd all
  received-rows item (e ∷ es) (n ∷ ns) [] all for accepted keeps = absurd keeps
  received-rows item (e ∷ es) (n ∷ ns) (job ∷ jobs) all for accepted keeps =
      let this = keeps.0 in
      let same : receives e.def ≡ item job = for.0 in
      let past = all.0.kept job.past this.keeps this.present (ap (λ o. refusal_if o job.past) same ∙ accepted job this.present) in (
        record {
          label = ap (λ m. m.described.label) all.0.name ∙ this.label ∙ label-with job (item job);
          definition = ap (λ m. definition m.described) all.0.name ∙ this.definition ∙ definition-with receives before at brings job e.def (item job) same;
          keeps = subst (Keeps n.core.facts) (ap (λ o. followed o job.past) same ∙ past-with job (item job)) past;
          present = present-with receives before at brings job e.def (item job) same this.present;
        },
        received-rows item es ns jobs all.1 for.1 accepted keeps.1,
      )
