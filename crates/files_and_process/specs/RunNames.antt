-- The name of a run among the processes of its machine.
use Rattle.std.specs.Prelude.{ℕ, List, ◌++◌, codes}
use Rattle.std.specs.Fmt.{decimal}

-- the launcher's PID, the time of its start, the job's label and the run's number
abbrev pub name_of_run : ℕ → ℕ → List ℕ → ℕ → List ℕ
name_of_run pid began label run =
    decimal pid ++ (codes "." ++ (decimal began ++ (codes "/" ++ (label ++ (codes "/" ++ decimal run)))))
