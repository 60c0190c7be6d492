-- A list of which some lines are written.
use Rattle.std.specs.Prelude.{◌≡◌, ℕ, List, ◌++◌}
use Rattle.std.specs.List.{flat_map}
use Rattle.history_model.specs.declared.Reading.{Reading}
use Rattle.history_model.specs.Machine.{Job}
use Rattle.history_model.specs.Texts.{shown_text}
use Rattle.loaded_jobs.specs.Tables.{Row}
use Rattle.loaded_jobs.specs.StandsFor.{KeepsJobs}

-- the rows to come stand for jobs whose lines are what the whole still wants
pub record IsListed (at : Reading) (todo : List Row) (text whole : List ℕ) : Type 0 where
  pub rest : List Job
  pub keeps : KeepsJobs at todo rest
  pub leads : text ++ flat_map shown_text rest ≡ whole
