-- What the lines of a crontab came to, and the exit status that follows.
use Rattle.std.specs.Prelude.{◌≡◌, ◌||◌, ℕ, List, [], ◌∷◌, ◌++◌, map, Bool, true, false, Option, Some, Result, Ok, Err, if◌then◌else◌}
use Rattle.std.specs.List.{list_any}
use Rattle.exit_status.specs.declared.TheConstants.{BAD_FILE, REFUSED}
use Rattle.history_model.specs.Described.{Described}
use Rattle.job_defs.specs.Keys.{def_of}
use Rattle.definition_files.specs.declared.cron.fault.LineFault.{LineFault}
use Rattle.definition_files.specs.declared.cron.fault.LineFault.TheVariants as fault
use Rattle.definition_files.specs.declared.cron.keeper.LineVerdict.{LineVerdict}
use Rattle.definition_files.specs.declared.cron.keeper.LineVerdict.TheVariants.{Well, Refused, Unkept}
use Rattle.definition_files.specs.declared.cron.verdicts.LineVerdicts.{LineVerdicts}

-- a load takes the bytes as a definition
abbrev pub Loads : List ℕ → Type 0
Loads bytes = (d : Described) × (def_of bytes ≡ Ok d)

abbrev pub is_refused : LineVerdict → Bool
is_refused Refused = true
is_refused _ = false

abbrev pub is_unkept : LineVerdict → Bool
is_unkept Unkept = true
is_unkept _ = false

-- whether something refused this
abbrev pub is_fault : {A : Type 0} → Result A LineFault → Bool
is_fault (Ok a) = false
is_fault (Err f) = true

-- a line that was judged: its text, and the verdict
abbrev pub LineJudged : Type 0
LineJudged = List ℕ × LineVerdict

-- From old to new this one was judged too. Nothing is claimed of a keeper that does not record what it
-- judged.
abbrev pub TellsLine : Option (List LineJudged) → List LineJudged → Option (List LineJudged) → Type 0
TellsLine old found new =
    (after : List LineJudged) → new ≡ Some after
    → (before : List LineJudged) × (old ≡ Some before) × (after ≡ before ++ found)

-- From old to new each of the lines was judged once, in order, and the verdicts fit.
abbrev pub Judges : List (List ℕ) → (List LineJudged → Type 0) → Option (List LineJudged) → Option (List LineJudged) → Type 0
Judges lines Fits old new =
    (after : List LineJudged) → new ≡ Some after
    → (before found : List LineJudged)
    × (old ≡ Some before) × (after ≡ before ++ found)
    × (map (λ judged. judged.0) found ≡ lines) × Fits found

abbrev pub some_refused : List LineJudged → Bool
some_refused found = list_any (λ judged. is_refused judged.1) found

abbrev pub some_unkept : List LineJudged → Bool
some_unkept found = list_any (λ judged. is_unkept judged.1) found

-- these are the verdicts on the lines
abbrev pub AreLineVerdicts : LineVerdicts → List LineJudged → Type 0
AreLineVerdicts verdicts found =
    (verdicts.has_refused ≡ some_refused found) × (verdicts.has_unkept ≡ some_unkept found)

-- The exit status of a crontab: some definition could not be kept; some line was refused; or all is well.
abbrev pub crontab_status : List LineJudged → ℕ
crontab_status found =
    if some_unkept found then BAD_FILE else if some_refused found then REFUSED else 0
