-- How the table stands for a machine, as the code's own functions hand it on.
use Rattle.std.specs.Prelude.{◌≡◌, ℕ, List, Option, Some, None}
use Rattle.history_model.specs.Machine.{State, Event}
use Rattle.history_model.specs.Step.{outcome, step}
use Rattle.loaded_jobs.specs.Tables.{Table}
use Rattle.loaded_jobs.specs.StandsFor.{KeepsState}
use Rattle.ctl_protocol.specs.OutcomeLines.{outcome_line}
use Rattle.ctl_protocol.specs.Headers.{header_at}
use Rattle.ctl_protocol.specs.declared.header.Header.{Header}
use Rattle.table_opening.specs.Output.{Opens, IsNoHeader, output_from}

-- whatever machine the table stands for: the line is its outcome's, and then the table stands for
-- its next state
abbrev pub IsReplied : Event → Table → Table → List ℕ → Type 0
IsReplied e old new line =
    (s : State) → KeepsState old s → (line ≡ outcome_line (outcome s e)) × KeepsState new (step s e)

-- ---- the opening

-- a machine that the line opens, which the table represents
abbrev pub IsOpened : List ℕ → Option Table → Type 0
IsOpened line None = IsNoHeader line
IsOpened line (Some table) = (s : State) × Opens line s × KeepsState table s

-- so of a header, whatever line it was read from
abbrev pub IsOpenedFrom : Header → Option Table → Type 0
IsOpenedFrom header table = (line : List ℕ) → header_at line ≡ Some header → IsOpened line table

-- the table will answer so
abbrev pub WillWrite : Table → (List (List ℕ) → List ℕ) → Type 0
WillWrite table future =
    (s : State) × KeepsState table s
    × ((lines : List (List ℕ)) → future lines ≡ output_from s lines)
