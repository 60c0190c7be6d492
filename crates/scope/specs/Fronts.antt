-- How the line of a cause begins, and the lines of several causes.
use Rattle.std.specs.Prelude.{◌≡◌, ℕ, List, [], ◌∷◌, ◌++◌, ◌==◌, if◌then◌else◌, codes}
use Rattle.std.specs.Fmt.{decimal}
use Rattle.history_model.specs.declared.Act.{Act}
use Rattle.history_model.specs.declared.Act.TheVariants.{Spawn, Term, Kill, Close, Gone}
use Rattle.history_model.specs.declared.reasons.StandingChild.{StandingChild}
use Rattle.history_model.specs.declared.reasons.Reasons.{Reasons}
use Rattle.run_times.specs.declared.writer.TextWriter.{TextWriter}
use Rattle.run_times.specs.Written.{Adds}
use Rattle.scope.specs.declared.journal.telling.JobCause.{JobCause}
use Rattle.scope.specs.declared.journal.telling.JobCause.TheVariants.{Removing, Child, Awaited, LaunchSpent, RunsSpent, Throttled, NotWanted, Demand, Connections, KeepAlive, SuccessfulExit, Crashed, PathState, QueueDirectories}
use Rattle.scope.specs.ShownCauses.{AreShown}

-- of an order whose answer is awaited
abbrev pub front_of_order : Act → List ℕ
front_of_order (Spawn run conn) = codes "  The start of run " ++ decimal run ++ codes " was ordered, and the answer is awaited."
front_of_order (Term run) = codes "  TERM for run " ++ decimal run ++ codes " was ordered, and the answer is awaited."
front_of_order (Kill run) = codes "  KILL for run " ++ decimal run ++ codes " was ordered, and the answer is awaited."
front_of_order (Close conn) = codes "  An answer is awaited."
front_of_order Gone = codes "  An answer is awaited."

-- of the child
abbrev pub front_of_child : StandingChild → List ℕ
front_of_child child =
    (codes "  Run " ++ decimal child.run) ++ (codes " is running, PID " ++ decimal child.pid)

-- of this many connections
abbrev pub front_of_connections : ℕ → List ℕ
front_of_connections count =
    if count == 1 then codes "  It is wanted: a connection waits."
    else codes "  It is wanted: " ++ decimal count ++ codes " connections wait."

-- how the line of a cause begins, with its numbers
abbrev pub front_of : JobCause → List ℕ
front_of Removing = codes "  It is being removed"
front_of (Child child) = front_of_child child
front_of (Awaited act) = front_of_order act
front_of LaunchSpent = codes "  It does not start again: LaunchOnlyOnce is true, and a start went well."
front_of RunsSpent = codes "  It does not start again: 2^63 starts were ordered since its load."
front_of (Throttled up) = codes "  It is throttled until "
front_of NotWanted = codes "  Nothing wants it."
front_of Demand = codes "  It is wanted: "
front_of (Connections count) = front_of_connections count
front_of KeepAlive = codes "  It is wanted: KeepAlive is true."
front_of SuccessfulExit = codes "  It is wanted: KeepAlive SuccessfulExit is "
front_of Crashed = codes "  It is wanted: KeepAlive Crashed is "
front_of PathState = codes "  It is wanted: KeepAlive PathState, and "
front_of QueueDirectories = codes "  It is wanted: QueueDirectories, and "

-- a line for each of the causes, in order: how that of its cause begins, and more
abbrev pub AreLines : List JobCause → List ℕ → Type 0
AreLines [] text = text ≡ []
AreLines (cause ∷ causes) text =
    (more : List ℕ) × (others : List ℕ) × AreLines causes others
    × (text ≡ front_of cause ++ (more ++ 10 ∷ others))

-- a line for each of the causes follows what was written before
abbrev pub TellsEach : List JobCause → TextWriter → TextWriter → Type 0
TellsEach causes old new = (text : List ℕ) × AreLines causes text × Adds text old new

-- so for each cause that the reasons say, in order, but for those that are left out
abbrev pub TellsCauses : Reasons → TextWriter → TextWriter → Type 0
TellsCauses reasons old new =
    (causes : List JobCause) × AreShown reasons causes × TellsEach causes old new
