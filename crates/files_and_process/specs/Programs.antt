-- Which program a name means: one file is four programs, and acts by the name that it was started under.
use Rattle.std.specs.Prelude.{ℕ, List, [], ◌∷◌, Bool, ◌||◌, if◌then◌else◌}
use Rattle.std.specs.Prelude.{codes, nat_eq}
use Rattle.std.specs.Cmp.Lexicographic.{pointwise}
use Rattle.std.specs.List.{ends_with}
use Rattle.files_and_process.specs.declared.own_process.program.Program.{Program}
use Rattle.files_and_process.specs.declared.own_process.program.Program.TheVariants.{Jobd, Jobctl, Jobscope, LookOut}

-- the path is this name, or its last part is, which is the name after a slash at the end
abbrev pub is_named : List ℕ → List ℕ → Bool
is_named path name = pointwise nat_eq path name || ends_with nat_eq path (47 ∷ name)

-- The program that a path means: a launcher's helper by this name without a folder, else the program of its last part.
-- It is jobd if that is the name of neither of the others.
abbrev pub program_meant : List ℕ → Program
program_meant path =
    if is_named path (codes "jobctl") then Jobctl else (
    if is_named path (codes "jobscope") then Jobscope else (
    if pointwise nat_eq path (codes "jobd-look-out") then LookOut else Jobd))

-- the program that its arguments mean, the first of which is its name
abbrev pub program_of : List (List ℕ) → Program
program_of [] = Jobd
program_of (name ∷ words) = program_meant name
