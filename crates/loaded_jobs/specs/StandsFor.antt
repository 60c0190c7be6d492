-- Which states of the machine a table stands for.
use Rattle.std.specs.Prelude.{◌≡◌, ℕ, Bool, true, false, List, [], ◌∷◌, ◌++◌, map, Option, Some, None}
use Rattle.std.specs.List.{filter, AllByRecursion}
use Rattle.history_model.specs.declared.Reading.{Reading}
use Rattle.history_model.specs.declared.Act.{Act}
use Rattle.history_model.specs.declared.Order.{Order}
use Rattle.history_model.specs.declared.event.Setting.{Setting}
use Rattle.history_model.specs.Search.{first}
use Rattle.history_model.specs.Clock.{now, definition_of}
use Rattle.history_model.specs.Runs.{is_gone}
use Rattle.history_model.specs.Due.{due}
use Rattle.history_model.specs.FactsOfPast.{Keeps}
use Rattle.history_model.specs.Labels.{Label}
use Rattle.history_model.specs.Machine.{Job, State, sets}
use Rattle.history_model.specs.Step.{acts_of}
use Rattle.history_model.specs.Definitions.{definition}
use Rattle.calendar_due.specs.ZoneRules.{minute_at}
use Rattle.loaded_jobs.specs.Tables.{Row, Name, Table, label_of}

-- a row stands for a job of the machine: its facts are those of the job's past
pub record KeepsJob (at : Reading) (row : Row) (job : Job) : Type 0 where
  pub label : row.described.label ≡ job.label
  pub definition : definition row.described ≡ definition_of job.past
  pub keeps : Keeps row.facts job.past
  pub present : at ≡ now job.past

-- label by label
abbrev pub KeepsJobs : Reading → List Row → List Job → Type 0
KeepsJobs at [] [] = Unit {0}
KeepsJobs at [] (job ∷ jobs) = ⊥
KeepsJobs at (row ∷ rows) [] = ⊥
KeepsJobs at (row ∷ rows) (job ∷ jobs) = KeepsJob at row job × KeepsJobs at rows jobs

-- nothing of the job is due, and it has not gone: as each step of the machine leaves it
abbrev pub IsAtRest : Job → Type 0
IsAtRest job = (due job.past ≡ None) × (is_gone job.past ≡ false)

-- each label has the same setting
abbrev pub KeepsSettings : List Setting → List Setting → Type 0
KeepsSettings held settings =
    (label : Label) → first (filter (sets label) held) ≡ first (filter (sets label) settings)

-- the settings with the new one in front, if there is one
abbrev pub with_setting : Option Setting → List Setting → List Setting
with_setting None settings = settings
with_setting (Some setting) settings = setting ∷ settings

-- the table stands for this state: it has the state's reading, zone, settings and shutdown, and
-- a row for each job, with nothing left to do
pub record KeepsState (table : Table) (s : State) : Type 0 where
  pub reading : table.reading ≡ s.reading
  pub zone : minute_at table.zone ≡ s.zone
  pub settings : KeepsSettings table.settings s.settings
  pub shutdown : table.is_shutting_down ≡ s.is_shutting_down
  pub jobs : KeepsJobs s.reading table.rows s.jobs
  pub rests : AllByRecursion IsAtRest s.jobs

-- orders as the table gives them, by number
abbrev pub numbered_orders : ℕ → List Act → List Order
numbered_orders number acts = map (λ act. record { job = number; act = act }) acts

-- the orders of all jobs, by number
abbrev pub numbered_all : List Row → List Job → List Order
numbered_all [] jobs = []
numbered_all (row ∷ rows) [] = []
numbered_all (row ∷ rows) (job ∷ jobs) =
    numbered_orders row.number (acts_of job.past) ++ numbered_all rows jobs

-- and by label
abbrev pub labelled : List Name → List Order → List (Label × Act)
labelled names orders = map (λ order. (label_of names order.job, order.act)) orders

-- the orders that the last event gave, by label
abbrev pub acts_in : Table → List (Label × Act)
acts_in table = labelled table.names table.orders

-- no job is loaded
abbrev pub is_none : List Job → Bool
is_none [] = true
is_none (job ∷ jobs) = false
