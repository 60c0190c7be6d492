-- The causes of a job as objects of a list of JSON.
use Rattle.std.specs.Prelude.{◌≡◌, ℕ, List, [], ◌∷◌, ◌++◌, codes}
use Rattle.history_model.specs.declared.reasons.Reasons.{Reasons}
use Rattle.json_lines.specs.declared.Field.{Field}
use Rattle.json_lines.specs.Objects.{IsObject, TellsObject}
use Rattle.run_times.specs.declared.writer.TextWriter.{TextWriter}
use Rattle.run_times.specs.Written.{Adds}
use Rattle.scope.specs.declared.journal.telling.JobCause.{JobCause}
use Rattle.scope.specs.declared.journal.telling.JobCause.TheVariants.{Removing, Child, Awaited, LaunchSpent, RunsSpent, Throttled, NotWanted, Demand, Connections, KeepAlive, SuccessfulExit, Crashed, PathState, QueueDirectories}
use Rattle.scope.specs.Causes.{AreCauses}

-- the name of a cause
abbrev pub kind_text : JobCause → List ℕ
kind_text Removing = codes "removing"
kind_text (Child child) = codes "running"
kind_text (Awaited act) = codes "awaited"
kind_text LaunchSpent = codes "launch_only_once"
kind_text RunsSpent = codes "runs_used_up"
kind_text (Throttled up) = codes "throttled"
kind_text NotWanted = codes "not_wanted"
kind_text Demand = codes "demand"
kind_text (Connections count) = codes "connections"
kind_text KeepAlive = codes "keep_alive"
kind_text SuccessfulExit = codes "successful_exit"
kind_text Crashed = codes "crashed"
kind_text PathState = codes "path_state"
kind_text QueueDirectories = codes "queue_directories"

-- an object whose first key is its kind
abbrev pub IsCause : JobCause → List ℕ → Type 0
IsCause cause text = (fields : List Field) × IsObject (codes "kind") (kind_text cause) fields text

-- an object for each of the causes, in order, each after a comma
abbrev pub AreMore : List JobCause → List ℕ → Type 0
AreMore [] text = text ≡ []
AreMore (cause ∷ causes) text =
    (one : List ℕ) × (others : List ℕ) × IsCause cause one × AreMore causes others × (text ≡ codes "," ++ (one ++ others))

-- the same, but that the first has no comma
abbrev pub AreObjects : List JobCause → List ℕ → Type 0
AreObjects [] text = text ≡ []
AreObjects (cause ∷ causes) text =
    (one : List ℕ) × (others : List ℕ) × IsCause cause one × AreMore causes others × (text ≡ one ++ others)

abbrev pub TellsCause : JobCause → TextWriter → TextWriter → Type 0
TellsCause cause old new = (text : List ℕ) × IsCause cause text × Adds text old new

abbrev pub TellsMore : List JobCause → TextWriter → TextWriter → Type 0
TellsMore causes old new = (text : List ℕ) × AreMore causes text × Adds text old new

abbrev pub TellsCauses : List JobCause → TextWriter → TextWriter → Type 0
TellsCauses causes old new = (text : List ℕ) × AreObjects causes text × Adds text old new

-- a list with an object for each cause that the reasons say, in order, and no other
abbrev pub IsCauseList : Reasons → List ℕ → Type 0
IsCauseList reasons text =
    (causes : List JobCause) × AreCauses reasons causes
    × ((objects : List ℕ) × AreObjects causes objects × (text ≡ codes "[" ++ (objects ++ codes "]")))
