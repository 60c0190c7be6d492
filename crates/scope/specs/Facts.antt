-- What is reported of a job: the facts of a machine that received the lines of a journal.
use Rattle.std.specs.Prelude.{ℕ, List, [], ◌∷◌, map, Option}
use Rattle.history_model.specs.Labels.{Label}
use Rattle.history_model.specs.Machine.{State, past_of}
use Rattle.history_model.specs.Step.{run}
use Rattle.table_opening.specs.Output.{Opens}
use Rattle.table_opening.specs.JournalEvents.{event_in}
use Rattle.status_file.specs.Facts.{HasFacts}
use Rattle.status_file.specs.declared.facts.JobFacts.{JobFacts}

-- The facts of the job with this label, by the machine that the first line opens and that received
-- the others. It is the machine whose orders a replay of these lines writes (`IsOutput` of `Output`
-- in `table_opening`).
abbrev pub HasFactsAfter : List (List ℕ) → Label → Option JobFacts → Type 0
HasFactsAfter [] label facts = ⊥
HasFactsAfter (header ∷ lines) label facts =
    (s : State) × Opens header s × HasFacts (past_of (run (map event_in lines) s) label) facts
