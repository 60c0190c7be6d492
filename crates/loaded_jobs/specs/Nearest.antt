-- What comes next after a text in byte order: a path that is listed, or a job with a child.
use Rattle.std.specs.Prelude.{◌≡◌, ℕ, true, false, ◌&&◌, List, ◌++◌, map, Option, Some, None}
use Rattle.std.specs.Borrow.{Bor}
use Rattle.std.specs.List.{list_any, filter_map, flat_map}
use Rattle.std.specs.Option.{option_map}
use Rattle.history_model.specs.Items.{Definition, History}
use Rattle.history_model.specs.Clock.{definition_of}
use Rattle.history_model.specs.Runs.{child}
use Rattle.history_model.specs.Labels.{Label, is_same, is_before}
use Rattle.history_model.specs.Machine.{Job, State, past_of}
use Rattle.history_model.specs.Definitions.{definition}
use Rattle.loaded_jobs.specs.Tables.{Row, Table, label_of}

-- one of the texts comes after the given one, and none of them between the two
pub record IsNearest (query : List ℕ) (texts : List (List ℕ)) (found : List ℕ) : Type 0 where
  pub among : list_any (is_same found) texts ≡ true
  pub after : is_before query found ≡ true
  pub nearest : list_any (λ other. is_before query other && is_before other found) texts ≡ false

-- this is the nearest of the texts, or none of them comes after the given one
abbrev pub IsNearestOf : List ℕ → List (List ℕ) → Option (List ℕ) → Type 0
IsNearestOf query texts None = list_any (is_before query) texts ≡ false
IsNearestOf query texts (Some found) = IsNearest query texts found

-- ---- paths

-- the paths that a definition lists
abbrev pub paths_of : Definition → List (List ℕ)
paths_of d = map (λ state. state.path) d.path_state ++ (d.watch_paths ++ d.queue_directories)

-- those of all loaded jobs
abbrev pub listed_paths : List Job → List (List ℕ)
listed_paths jobs = flat_map (λ job. paths_of (definition_of job.past)) jobs

-- the same, by the rows of the table
abbrev pub paths_in : List Row → List (List ℕ)
paths_in rows = flat_map (λ row. paths_of (definition row.described)) rows

-- ---- children

-- the label of a job that has a child
abbrev pub parent_in : Job → Option Label
parent_in job = option_map (λ c. job.label) (child job.past)

-- the labels of all jobs that have a child
abbrev pub with_child : List Job → List Label
with_child jobs = filter_map parent_in jobs

-- the run of the child, if the label is loaded and its job has one
abbrev pub run_in : Option History → Option ℕ
run_in None = None
run_in (Some past) = option_map (λ c. c.run) (child past)

-- the label is the nearest one with a child, the number stands for it, and the run is that of its
-- child; or there is none
abbrev pub IsNextChild : Table → List ℕ → State → Option (Bor Label × ℕ × ℕ) → Type 0
IsNextChild table query s None = list_any (is_before query) (with_child s.jobs) ≡ false
IsNextChild table query s (Some found) =
    IsNearest query (with_child s.jobs) found.0.now × (label_of table.names found.1 ≡ found.0.now)
    × (run_in (past_of s found.0.now) ≡ Some found.2)
