-- The job under a label, as the machine has it.
use Rattle.std.specs.Prelude.{◌≡◌, List, Option, Some, None}
use Rattle.std.specs.Borrow.{Bor}
use Rattle.std.specs.List.{filter}
use Rattle.history_model.specs.declared.Reading.{Reading}
use Rattle.history_model.specs.Items.{History}
use Rattle.history_model.specs.Search.{first}
use Rattle.history_model.specs.Clock.{now, definition_of}
use Rattle.history_model.specs.FactsOfPast.{Keeps}
use Rattle.history_model.specs.Labels.{Label}
use Rattle.history_model.specs.Machine.{Job, State, is_of, past_in, past_of}
use Rattle.history_model.specs.Definitions.{definition}
use Rattle.loaded_jobs.specs.declared.job_slot.JobSlot.{JobSlot}

-- the slot is that of the job with the label: it has the definition and the facts of the job's past
pub record IsFound (at : Reading) (label : Label) (e : JobSlot) (jobs : List Job) : Type 0 where
  pub past : History
  pub keeps : Keeps e.core.facts past
  pub present : at ≡ now past
  pub described : definition e.def ≡ definition_of past
  pub is : past_in (first (filter (is_of label) jobs)) ≡ Some past

-- this is the slot of the job with the label, or no such job is loaded
abbrev pub IsHere : State → Label → Option (Bor JobSlot) → Type 0
IsHere s label None = past_of s label ≡ None
IsHere s label (Some job_slot) = IsFound s.reading label job_slot.now s.jobs
