-- The lines of loaded jobs.
use Rattle.std.specs.Prelude.{◌≡◌, ℕ, Bool, List, ◌++◌, false, Option, Some, is_some}
use Rattle.std.specs.Option.{option_map}
use Rattle.std.specs.List.{flat_map, AllByRecursion}
use Rattle.history_model.specs.declared.Entry.{Entry}
use Rattle.history_model.specs.Clock.{definition_of}
use Rattle.history_model.specs.Labels.{Label}
use Rattle.history_model.specs.Machine.{State, past_of, is_disabled}
use Rattle.loaded_jobs.specs.StandsFor.{KeepsState}
use Rattle.loaded_jobs.specs.Tables.{Table}
use Rattle.status_file.specs.declared.line.StatusText.{StatusText}
use Rattle.status_file.specs.declared.status.JobStatus.{JobStatus}
use Rattle.status_file.specs.Facts.{HasFacts}
use Rattle.status_file.specs.Lines.{line_of}
use Rattle.status_file.specs.Tokens.{job_tokens}

-- the line of a job: what it says of the job, and the entries of its calendar
pub record JobLine : Type 0 where
  pub job : JobStatus
  pub calendar : List Entry

abbrev pub text_of : JobLine → List ℕ
text_of line = line_of (job_tokens line.job line.calendar)

-- whether the label of a loaded job is disabled: its setting decides, or else its definition
abbrev pub disabled_in : State → Label → Option Bool
disabled_in s label = option_map (λ past. is_disabled s label (definition_of past).disabled) (past_of s label)

-- What is reported of a job holds of the job with its own label, by this machine: its facts, and whether it is disabled.
abbrev pub Tells : State → JobStatus → Type 0
Tells s job = HasFacts (past_of s job.label.now) (Some job.facts) × (disabled_in s job.label.now ≡ Some (is_some job.disabled))

abbrev pub IsOf : State → JobLine → Type 0
IsOf s line = Tells s line.job

-- Some lines follow the text of before, unless memory was refused. For each machine that the table keeps, each line has the facts of its own job.
pub record AddsJobs (table : Table) (old new : StatusText) : Type 0 where
  pub kept : new.is_refused ≡ false → old.is_refused ≡ false
  pub added : new.is_refused ≡ false → (lines : List JobLine)
      × (new.bytes.items ≡ old.bytes.items ++ flat_map text_of lines)
      × ((s : State) → KeepsState table s → AllByRecursion (IsOf s) lines)
