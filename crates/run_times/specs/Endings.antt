-- How a run ends that an error kept from its end.
use Rattle.std.specs.Prelude.{◌≡◌, ℕ, IsErr, IfErr, Result}
use Rattle.std.specs.IoError.{error_kind}
use Rattle.std.specs.declared.io.Error.{Error}
use Rattle.std.specs.declared.io.ErrorKind.{ErrorKind}
use Rattle.std.specs.declared.io.ErrorKind.TheVariants.{OutOfMemory, BrokenPipe}
use Rattle.exit_status.specs.declared.TheConstants.{NO_MEMORY, READER_GONE, BAD_OUTPUT}

-- the exit status: memory was refused, the reader of the standard output has closed it, or else the
-- standard output failed
abbrev pub status_of_end : ErrorKind → ℕ
status_of_end OutOfMemory = NO_MEMORY
status_of_end BrokenPipe = READER_GONE
status_of_end _ = BAD_OUTPUT

-- an error, and it is want of memory
abbrev pub WantsMemory : {A : Type 0} → Result A Error → Type 0
WantsMemory result = IsErr result × IfErr result (λ error. error_kind error ≡ OutOfMemory)
