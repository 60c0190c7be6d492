-- Which processes a run left running.
use Rattle.std.specs.Prelude.{Bool, ℕ, List, ◌&&◌, bytes_eq, nat_lt, string_bytes}
use Rattle.leftovers.specs.declared.RunProcess.{RunProcess}

-- a process is left of a job if it has the name of a run of that label, and began before the job's present run
abbrev pub is_left : RunProcess → List ℕ → ℕ → Bool
is_left process label since = bytes_eq (string_bytes process.label) label && nat_lt process.began since
