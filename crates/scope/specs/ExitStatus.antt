-- The exit status of `jobscope`, by what its parts ended with.
use Rattle.std.specs.Prelude.{◌≡◌, ◌==◌, ℕ, List, length, Bool, not, Option, Some, None, Result, Ok, Err, String, max}
use Rattle.std.specs.String.{string_bytes}
use Rattle.std.specs.IoError.{error_kind}
use Rattle.std.specs.declared.alloc.Global.{Global}
use Rattle.std.specs.declared.io.Error.{Error}
use Rattle.exit_status.specs.declared.TheConstants.{USAGE, NO_MEMORY}
use Rattle.command_words.specs.declared.command.WordFault.{WordFault}
use Rattle.command_words.specs.declared.command.WordFault.TheVariants.{NoMemory, Usage}
use Rattle.command_words.specs.declared.scope_command.Meaning.{Meaning}
use Rattle.command_words.specs.declared.scope_command.Meaning.TheVariants.{Command, Wrong}
use Rattle.command_words.specs.declared.scope_command.ScopeCommand.{ScopeCommand}
use Rattle.run_times.specs.Endings.{status_of_end}
use Rattle.scope.specs.Parts.{part_in}
use Rattle.scope.specs.declared.subcommands.Part.{Part}
use Rattle.scope.specs.declared.subcommands.Part.TheVariants.{Journals}
use Rattle.scope.specs.declared.subcommands.Statuses.{Statuses}

-- what a run of two steps ended with, as one status: the greater of the two
abbrev pub greatest_status : Result Statuses Error → Result ℕ Error
greatest_status (Ok statuses) = Ok (max statuses.last statuses.before)
greatest_status (Err error) = Err error

-- the exit status: that which was ended with, or that of the error which kept the run from its end
abbrev pub status_by : Result ℕ Error → ℕ
status_by (Ok status) = status
status_by (Err error) = status_of_end (error_kind error)

-- there are arguments
abbrev pub has_words : List (List ℕ) → Bool
has_words words = not (length words == 0)

module _ (Names : ScopeCommand → Result (Option (String Global)) Error → Type 0)
    (Tells : ScopeCommand → List ℕ → Result Statuses Error → Type 0)
    (Ends : Part → ScopeCommand → Result Statuses Error → Type 0) where
  -- the statuses of this status file; if no file is named, those of the journals
  abbrev pub TellsOf : Result (Option (String Global)) Error → ScopeCommand → Result Statuses Error → Type 0
  TellsOf (Ok (Some path)) command ended = Tells command (string_bytes path) ended
  TellsOf (Ok None) command ended = Ends Journals command ended
  TellsOf (Err error) command ended = ended ≡ Err error

  -- the statuses of the command's own file, if it names one, and else those of the journals
  abbrev pub RunsBySource : ScopeCommand → Result Statuses Error → Type 0
  RunsBySource command ended =
      (named : Result (Option (String Global)) Error) × Names command named × TellsOf named command ended

  -- the statuses of the part that ran, or where there is none, those of the file or the journals
  abbrev pub RunsPart : Option Part → ScopeCommand → Result Statuses Error → Type 0
  RunsPart (Some part) command ended = Ends part command ended
  RunsPart None command ended = RunsBySource command ended

  -- the part that the command asks for ran, and this is the greatest of its statuses
  abbrev pub Runs : ScopeCommand → Result ℕ Error → Type 0
  Runs command status =
      (ended : Result Statuses Error)
      × RunsPart (part_in command.task (has_words command.words)) command ended
      × (status ≡ greatest_status ended)

module _ (Explained : Result ℕ Error → Type 0) (Ran : ScopeCommand → Result ℕ Error → Type 0) where
  -- the exit status, by what the arguments mean
  abbrev pub Answers : Result Meaning WordFault → ℕ → Type 0
  Answers (Ok (Command command)) status =
      (ended : Result ℕ Error) × Ran command ended × (status ≡ status_by ended)
  Answers (Ok (Wrong text)) status = status ≡ USAGE
  Answers (Err Usage) status = (ended : Result ℕ Error) × Explained ended × (status ≡ status_by ended)
  Answers (Err NoMemory) status = status ≡ NO_MEMORY

-- The exit status of a run, if its parts answer so: the arguments mean something, and the status is that of the one part which
-- they ask for.
abbrev pub IsExit : (List (String Global) → Result Meaning WordFault → Type 0) → (List (String Global) → Result ℕ Error → Type 0) → (ScopeCommand → Result ℕ Error → Type 0) → List (String Global) → ℕ → Type 0
IsExit Means Explains Ran words status =
    (meaning : Result Meaning WordFault) × Means words meaning × Answers (Explains words) Ran meaning status
