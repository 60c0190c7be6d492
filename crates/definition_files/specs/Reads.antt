-- What was read of the files of definitions, and the exit status that follows.
use Rattle.std.specs.Prelude.{◌≡◌, ◌||◌, ◌&&◌, ℕ, List, [], ◌∷◌, ◌++◌, map, Bool, true, false, not, Option, Some, Result, Ok, Err, if◌then◌else◌}
use Rattle.std.specs.List.{list_any}
use Rattle.std.specs.String.{string_bytes}
use Rattle.exit_status.specs.declared.TheConstants.{BAD_FILE, REFUSED}
use Rattle.history_model.specs.Described.{Described}
use Rattle.history_model.specs.Machine.{Fault}
use Rattle.files_and_process.specs.declared.path_files.files.Found.{Found}
use Rattle.job_defs.specs.Keys.{def_of}
use Rattle.definition_files.specs.declared.files.Contents.{Contents}
use Rattle.definition_files.specs.declared.files.Contents.TheVariants as came
use Rattle.definition_files.specs.declared.verdict.Verdict.{Verdict}
use Rattle.definition_files.specs.declared.verdict.Verdict.TheVariants.{Well, Refused, Unread}
use Rattle.definition_files.specs.declared.verdict.Verdicts.{Verdicts}

-- what a load would say of a definition: it is taken, or refused
abbrev pub load_verdict : Result Described Fault → Verdict
load_verdict (Ok d) = Well
load_verdict (Err fault) = Refused

-- the verdict on what a file came to; a folder without a definition has no fault
abbrev pub verdict_on : Contents → Verdict
verdict_on (came.Bytes bytes) = load_verdict (def_of bytes.items)
verdict_on came.Unread = Unread
verdict_on came.TooLong = Unread
verdict_on came.Nothing = Well

-- a file that was read: its path, and what it came to
abbrev pub FileRead : Type 0
FileRead = List ℕ × Contents

-- From old to new exactly these files were read, in this order. Nothing is claimed of a source that does
-- not record what it read.
abbrev pub Tells : Option (List FileRead) → List FileRead → Option (List FileRead) → Type 0
Tells old found new =
    (after : List FileRead) → new ≡ Some after
    → (before : List FileRead) × (old ≡ Some before) × (after ≡ before ++ found)

-- the paths of files
abbrev pub paths_of : List Found → List (List ℕ)
paths_of files = map (λ file. string_bytes file.path) files

-- From old to new each of the files was read once, in order, and what they came to fits.
abbrev pub Reads : List Found → (List FileRead → Type 0) → Option (List FileRead) → Option (List FileRead) → Type 0
Reads files Fits old new =
    (after : List FileRead) → new ≡ Some after
    → (before found : List FileRead)
    × (old ≡ Some before) × (after ≡ before ++ found)
    × (map (λ read. read.0) found ≡ paths_of files) × Fits found

abbrev pub is_unread : Verdict → Bool
is_unread Unread = true
is_unread _ = false

abbrev pub is_refused : Verdict → Bool
is_refused Refused = true
is_refused _ = false

-- some file could not be read
abbrev pub some_unread : List FileRead → Bool
some_unread found = list_any (λ read. is_unread (verdict_on read.1)) found

-- a load would refuse some definition
abbrev pub some_refused : List FileRead → Bool
some_refused found = list_any (λ read. is_refused (verdict_on read.1)) found

-- these are the verdicts on the files that were read
abbrev pub AreVerdicts : Verdicts → List FileRead → Type 0
AreVerdicts verdicts found =
    (verdicts.has_unread ≡ some_unread found) × (verdicts.has_refused ≡ some_refused found)

-- From old to new the file was read, and this is the verdict on it.
abbrev pub ReadsOne : Found → Verdict → Option (List FileRead) → Option (List FileRead) → Type 0
ReadsOne file verdict old new =
    (contents : Contents) × (verdict ≡ verdict_on contents)
    × Tells old ((string_bytes file.path, contents) ∷ []) new

-- The exit status of a check: a file could not be read; a definition would be refused, or has a warning
-- where these count; or all is well.
abbrev pub check_status : Bool → List FileRead → ℕ
check_status warned found =
    if some_unread found then BAD_FILE else if some_refused found || warned then REFUSED else 0

-- The status is that of a check of these files. Whether some definition has a warning is asked by a strict
-- check alone.
abbrev pub IsCheckStatus : Bool → ℕ → List FileRead → Type 0
IsCheckStatus strict status found = (warned : Bool) × (status ≡ check_status (strict && warned) found)

-- the exit status of the coming starts: each file has to be read, and to be a definition
abbrev pub starts_status : List FileRead → ℕ
starts_status found = if some_unread found || some_refused found then BAD_FILE else 0
