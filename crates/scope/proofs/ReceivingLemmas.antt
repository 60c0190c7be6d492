-- A journal that heard a line more stands for it too.
use Rattle.std.proofs.Common.{◌≡◌, ℕ, Bool, false, List, [], ◌∷◌, ◌++◌, map, Option, Some, refl, sym, ap, ◌∙◌, subst, append_assoc, append-nil}
use Rattle.std.proofs.lemmas.List.{map-append}
use Rattle.history_model.specs.Machine.{State, Event}
use Rattle.history_model.specs.Step.{step, run}
use Rattle.loaded_jobs.specs.Tables.{Table}
use Rattle.loaded_jobs.specs.StandsFor.{KeepsState}
use Rattle.loaded_jobs.specs.TableOutcomes.{IsNextTable}
use Rattle.table_opening.specs.JournalEvents.{event_in}
use Rattle.scope.specs.Journals.{KeepsLines, StandsAfter, ReceivesLine, ReceivesLines, with_line}
use Rattle.scope.specs.declared.journal.reader.OpenJournal.{OpenJournal}

run_one : (es : List Event) (e : Event) (s : State) → run (es ++ e ∷ []) s ≡ step (run es s) e
run_one [] e s = refl
run_one (x ∷ es) e s = run_one es e (step s x)

keeps_on : (old new : Table) (line : List ℕ) (lines : List (List ℕ)) → IsNextTable (event_in line) old new → KeepsLines lines (Some old) → KeepsLines (lines ++ line ∷ []) (Some new)
keeps_on old new line [] next keeps = absurd keeps
keeps_on old new line (header ∷ lines) next (s, opens, keeps) =
    let all : run (map event_in (lines ++ line ∷ [])) s ≡ step (run (map event_in lines) s) (event_in line) =
    ap (λ es. run es s) (map-append event_in lines (line ∷ [])) ∙ run_one (map event_in lines) (event_in line) s in
    (s, opens, subst (KeepsState new) (sym all) (next (run (map event_in lines) s) keeps))

-- the journal that was open received a line that is not a header
pub receives_on : (at : Option OpenJournal) (old new : OpenJournal) (line : List ℕ) (is_header : Bool) → at ≡ Some old → is_header ≡ false → IsNextTable (event_in line) old.table new.table
    → ReceivesLine StandsAfter at line is_header (Some new)
receives_on at old new line is_header is later next = λ lines stands.
    subst (λ b. KeepsLines (with_line b lines line) (Some new.table)) (sym later) (keeps_on old.table new.table line lines next (subst (λ a. StandsAfter a lines) is stands))

-- ---- lines one after the other

-- no line
pub receives_none : {A : Type 0} (stands : A → List (List ℕ) → Type 0) (count : ℕ) (old : A) → ReceivesLines stands count old [] old
receives_none stands count old = λ lines none stood. subst (stands old) (sym (append-nil lines)) stood

-- some lines, and after them more; of a count that is not 0 nothing is said of the lines before
pub receives_more : {A : Type 0} (stands : A → List (List ℕ) → Type 0) (count then : ℕ) (old mid new : A) (done more : List (List ℕ)) → (then ≡ 0 → (count ≡ 0) × (done ≡ []))
    → ReceivesLines stands count old done mid → ReceivesLines stands then mid more new → ReceivesLines stands count old (done ++ more) new
receives_more stands count then old mid new done more begins first later = λ lines none stood.
    subst (stands new) (append_assoc lines done more)
    (later (lines ++ done) (λ at. ap (λ ls. ls ++ done) (none (begins at).0) ∙ (begins at).1) (first lines none stood))
