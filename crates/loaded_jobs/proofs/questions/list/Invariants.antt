-- The lines so far, and the jobs whose lines are still to come.
use Rattle.std.proofs.Common.{List, ◌++◌, drop}
use Rattle.std.specs.Prelude.{codes}
use Rattle.std.specs.List.{flat_map}
use Rattle.std.specs.String.{string_bytes}
use Rattle.history_model.specs.declared.Reading.{Reading}
use Rattle.history_model.specs.Machine.{Job}
use Rattle.history_model.specs.Texts.{shown_text}
use Rattle.loaded_jobs.specs.StandsFor.{KeepsJobs}
use Rattle.loaded_jobs.specs.JobSlots.{rows}
use Rattle.loaded_jobs.specs.Listed.{IsListed}
use Rattle.loaded_jobs.proofs.questions.list.Given as goal

abbrev pub invariant-loop-job_slot : goal.invariant-loop-job_slot
invariant-loop-job_slot l = (at : Reading) (jobs : List Job) → KeepsJobs at (rows l.job_slots) jobs →
    IsListed at (rows (drop l.job_slot-index l.job_slots)) (string_bytes l.text) (codes "PID\tStatus\tLabel\n" ++ flat_map shown_text jobs)
