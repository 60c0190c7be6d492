-- What a child's command has in its environment besides what the launcher has.
use Rattle.std.specs.Prelude.{◌≡◌, ℕ, List, [], ◌∷◌, codes, fold, bytes_eq, Option, Some, None, if◌then◌else◌}
use Rattle.files_and_process.specs.declared.run_names.LauncherId.{LauncherId}
use Rattle.files_and_process.specs.RunNames.{name_of_run}
use Rattle.history_model.specs.declared.definition.parts.Variable.{Variable}

-- what is said of a name, if anything: its value, or that it has none
abbrev pub VariableValue : Type 0
VariableValue = Option (Option (List ℕ))

-- What is said of a name once these variables were set in order, if `before` was said. The last variable of the name
-- counts, and nothing is said of a name that none has.
abbrev pub said_after : List ℕ → VariableValue → List Variable → VariableValue
said_after name before variables =
    fold (λ said v. if bytes_eq v.name name then Some (Some v.value) else said) before variables

-- of each name is said what these variables say, set in order
abbrev pub SetsVariables : List Variable → (List ℕ → VariableValue) → (List ℕ → VariableValue) → Type 0
SetsVariables variables old new =
    (name : List ℕ) → new name ≡ said_after name (old name) variables

-- the folder that a child begins in: none, if the definition says none; else the place where it is held, or the folder itself
abbrev pub folder_at : Option (List ℕ) → Option (List ℕ) → Option (List ℕ)
folder_at None held = None
folder_at (Some folder) None = Some folder
folder_at (Some folder) (Some place) = Some place

-- what a run has of its launcher: its name, if it is known which process the launcher is
abbrev pub own_of_run : Option LauncherId → List ℕ → ℕ → List Variable
own_of_run None label run = []
own_of_run (Some launcher) label run =
    record { name = codes "JOBD_RUN"; value = name_of_run launcher.pid launcher.began label run } ∷ []
