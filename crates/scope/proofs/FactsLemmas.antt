-- What a table says of a job are the facts of each machine that it keeps, and so of the one that received the
-- lines.
use Rattle.std.proofs.Common.{ℕ, List, [], ◌∷◌, map, Option, Some}
use Rattle.history_model.specs.Labels.{Label}
use Rattle.history_model.specs.Machine.{State, past_of}
use Rattle.history_model.specs.Step.{run}
use Rattle.loaded_jobs.specs.Tables.{Table}
use Rattle.loaded_jobs.specs.StandsFor.{KeepsState}
use Rattle.table_opening.specs.JournalEvents.{event_in}
use Rattle.status_file.specs.Facts.{HasFacts}
use Rattle.status_file.specs.declared.facts.JobFacts.{JobFacts}
use Rattle.scope.specs.Facts.{HasFactsAfter}
use Rattle.scope.specs.Journals.{KeepsLines}

pub after : (lines : List (List ℕ)) (label : Label) (table : Table) (facts : Option JobFacts) → ((s : State) → KeepsState table s → HasFacts (past_of s label) facts) → KeepsLines lines (Some table) → HasFactsAfter lines label facts
after [] label table facts told keeps = absurd keeps
after (header ∷ lines) label table facts told (s, opens, keeps) = (s, opens, told (run (map event_in lines) s) keeps)
