-- The numbers under which the table holds the jobs.
use Rattle.std.specs.Prelude.{◌≡◌, ◌==◌, Bool, not, List, map, Some, Result, Ok, Err}
use Rattle.std.specs.List.{AllByRecursion, filter, list_any}
use Rattle.history_model.specs.declared.Refusal.{Refusal}
use Rattle.loaded_jobs.specs.Tables.{Row, Name, Table, IsOnce, definition_of_number}
use Rattle.loaded_jobs.specs.Loads.{described_in, number_in}
use Rattle.loaded_jobs.specs.declared.loading.Ready.{Ready}

-- the row's number, and the definition that it stands for
abbrev pub row_name : Row → Name
row_name row = record { number = row.number; described = row.described }

-- these for each row
abbrev pub row_names : List Row → List Name
row_names rows = map row_name rows

-- a loaded job has the name's number
abbrev pub is_loaded : List Row → Name → Bool
is_loaded rows name = list_any (λ row. name.number == row.number) rows

-- the names that no loaded job has
abbrev pub not_loaded : List Row → List Name → List Name
not_loaded rows names = filter (λ name. not (is_loaded rows name)) names

-- each number stands for one label, that of a loaded job for the job's own; those that are gone have
-- the names that no loaded job has
pub record IsNumbered (table : Table) : Type 0 where
  pub once : IsOnce table.names
  pub named : AllByRecursion
      (λ row. definition_of_number table.names row.number ≡ Some row.described) table.rows
  pub gone : row_names table.gone ≡ not_loaded table.rows table.names

-- after an event that was accepted the names are those of the jobs that were loaded before it: no
-- job changes its number
abbrev pub KeepsNames : {A : Type 0} → Result A Refusal → Table → Table → Type 0
KeepsNames (Ok a) old new = new.names ≡ row_names old.rows
KeepsNames (Err refusal) old new = Unit {0}

-- after a load each number that a loaded job had is still its own, and the new job has the number
-- that it was made ready with
pub record IsNamedBeside (ready : Ready) (old new : Table) : Type 0 where
  pub numbered : IsNumbered new
  pub others : AllByRecursion
      (λ row. definition_of_number new.names row.number ≡ Some row.described) old.rows
  pub own : definition_of_number new.names (number_in ready) ≡ Some (described_in ready)
