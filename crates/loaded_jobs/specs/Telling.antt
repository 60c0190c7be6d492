-- What an event of one job gives, and what it leaves.
use Rattle.std.specs.Prelude.{◌≡◌, false, Result, OnOk, OnErr}
use Rattle.history_model.specs.declared.Refusal.{Refusal}
use Rattle.history_model.specs.Items.{Item}
use Rattle.history_model.specs.Labels.{Label, is_same}
use Rattle.history_model.specs.Machine.{State, past_of}
use Rattle.history_model.specs.Acceptance.{refusal_at}
use Rattle.history_model.specs.Step.{received_one}
use Rattle.loaded_jobs.specs.Tables.{Table}
use Rattle.loaded_jobs.specs.StandsFor.{KeepsState}
use Rattle.loaded_jobs.specs.TableOutcomes.{IsOrderedFrom}
use Rattle.loaded_jobs.specs.Counts.{counts, count_in}
use Rattle.loaded_jobs.specs.Loads.{refused_with}

-- The label's job received the item: the answer is the machine's to it. If it was taken in, the machine's jobs with the item were
-- asked; if not, no row changed. The count of each other label stays.
pub record IsTold (label : Label) (item : Item) (old : Table) (result : Result (Unit {0}) Refusal)
    (new : Table) : Type 0 where
  pub answer : (s : State) → KeepsState old s →
      refused_with result ≡ refusal_at (past_of s label) item
  pub asked : OnOk result ((s : State) → KeepsState old s →
      IsOrderedFrom new (record s { jobs = received_one label item s.jobs }))
  pub same : OnErr result (new.rows ≡ old.rows)
  pub spared : (other : Label) → is_same other label ≡ false →
      count_in (counts new.rows) other ≡ count_in (counts old.rows) other
