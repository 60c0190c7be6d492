-- The launcher as a machine that reads lines.
use Rattle.std.proofs.Common.{◌≡◌, ℕ, List, [], ◌∷◌, ◌++◌, Some, refl, sym, ap, ◌∙◌}
use Rattle.history_model.specs.Machine.{State}
use Rattle.history_model.specs.Step.{step}
use Rattle.loaded_jobs.specs.Tables.{Table}
use Rattle.loaded_jobs.specs.StandsFor.{KeepsState}
use Rattle.ctl_protocol.specs.declared.header.Header.{Header}
use Rattle.ctl_protocol.specs.Headers.{header_at}
use Rattle.replay_loop.specs.LineMachine.{Future}
use Rattle.replay.specs.Answers.{IsReplied, IsOpened, WillWrite}
use Rattle.table_opening.specs.JournalEvents.{event_in}
use Rattle.table_opening.specs.Openings.{StandsOpened}
use Rattle.table_opening.specs.Output.{Opens, IsOutput, output_from}

-- the table that a header opens will write the output of each input with this header
pub opened_writes : (header : List ℕ) (table : Table) → IsOpened header (Some table)
    → (future : Future) × (WillWrite table future × (future [] ≡ [])) × ((lines : List (List ℕ)) → IsOutput (header ∷ lines) (Some (future lines)))
opened_writes header table (s, opens, keeps) = (output_from s, ((s, keeps, λ lines. refl), refl), λ lines. (s, opens, refl))

-- a table that answered a line will write what is left
pub answered_goes_on : (old new : Table) (line text : List ℕ) → IsReplied (event_in line) old new text → (future : Future) → WillWrite old future
    → (next : Future) × (WillWrite new next × (next [] ≡ [])) × ((lines : List (List ℕ)) → future (line ∷ lines) ≡ text ++ next lines)
answered_goes_on old new line text answered future (s, keeps, is) =
    let (said, kept) = answered s keeps in
    let after = step s (event_in line) in
    (output_from after, ((after, kept, λ lines. refl), refl), λ lines. is (line ∷ lines) ∙ ap (λ t. t ++ output_from after lines) (sym said))

-- the machine of a header that was read from a line
pub opened_from : (header : Header) (table : Table) (line : List ℕ) → header_at line ≡ Some header → StandsOpened header table → (s : State) × Opens line s × KeepsState table s
opened_from header table line read stands = (
  stands.machine,
  record { header = header; read = read; ahead = stands.opens.ahead; describes = stands.opens.describes; state = stands.opens.state },
  stands.kept,
)
