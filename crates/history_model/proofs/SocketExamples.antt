-- Worked examples of jobs with sockets (launchd.plist(5): Sockets, inetdCompatibility). Each is a theorem that computes.
use Rattle.std.specs.Prelude.{◌≡◌, true, false, [], ◌∷◌, ◌++◌, Some, None, refl, codes, replicate}
use Rattle.std.specs.Fmt.{digits}
use Rattle.history_model.specs.declared.Ended.TheVariants.{Code, Signal}
use Rattle.history_model.specs.declared.Act.TheVariants.{Spawn, Term, Close, Gone}
use Rattle.history_model.specs.declared.Ask.TheVariants.{Start, Stop}
use Rattle.history_model.specs.declared.Refusal.TheVariants.{NoSuchJob, Removing, NotRunning, SocketRefused, TooManyConnections, Stale}
use Rattle.history_model.specs.Items.{Came, Left}
use Rattle.history_model.specs.Machine.{UnloadJob, PrintJob, OfJob}
use Rattle.history_model.specs.Step.{outcomes}
use Rattle.history_model.proofs.ExampleWords.{start, read, load_as, load, ask, spawned, spawn_refused, termed, ended, cames, s, socket_job, none, gives, says, refuses}

-- connections are carried in order of arrival, and closed if the job leaves
pub sockets_of_a_job : outcomes (
    load s socket_job ∷ ask s Start ∷ spawned s 1 700 ∷ OfJob s (Came 1) ∷ OfJob s (Came 2) ∷ OfJob s (Came 3) ∷ OfJob s (Left 2)
    ∷ PrintJob s ∷ ended s 1 (Code 0) ∷ read 10000 ∷ spawned s 2 701 ∷ ended s 2 (Code 0) ∷ read 20000 ∷ spawned s 3 702 ∷ PrintJob s
    ∷ OfJob s (Came 4) ∷ UnloadJob s false true ∷ termed s 3 ∷ ended s 3 (Signal 15) ∷ PrintJob s ∷ []
    ) start
    ≡ none ∷ gives ((s, Spawn 1 None) ∷ []) ∷ none ∷ none ∷ none ∷ none ∷ none
    ∷ says (codes "s = {\n\tstate = running\n\tpid = 700\n\truns = 1\n\tlast exit = never\n\tdemand = no\n\tconnections = 2\n\tdisabled = false\n}\n")
    ∷ none ∷ gives ((s, Spawn 2 (Some 1)) ∷ []) ∷ none ∷ none ∷ gives ((s, Spawn 3 (Some 3)) ∷ []) ∷ none
    ∷ says (codes "s = {\n\tstate = running\n\tpid = 702\n\truns = 3\n\tlast exit = code 0\n\tdemand = no\n\tconnections = 0\n\tdisabled = false\n}\n")
    ∷ none ∷ gives ((s, Term 3) ∷ []) ∷ none ∷ gives ((s, Close 4) ∷ (s, Gone) ∷ []) ∷ refuses NoSuchJob ∷ []
unfolding digits
sockets_of_a_job = refl

-- a refused spawn keeps its connection, which is gone once it left
pub kept_connection : outcomes (
    load s socket_job ∷ OfJob s (Came 1) ∷ spawn_refused s 1 ∷ read 10000 ∷ OfJob s (Left 1) ∷ spawned s 2 7 ∷ PrintJob s ∷ OfJob s (Came 2) ∷ OfJob s (Left 1) ∷ []
    ) start
    ≡ none ∷ gives ((s, Spawn 1 (Some 1)) ∷ []) ∷ none ∷ gives ((s, Spawn 2 (Some 1)) ∷ []) ∷ none ∷ none
    ∷ says (codes "s = {\n\tstate = running\n\tpid = 7\n\truns = 2\n\tlast exit = never\n\tdemand = no\n\tconnections = 0\n\tdisabled = false\n}\n")
    ∷ none ∷ refuses Stale ∷ []
unfolding digits
kept_connection = refl

-- refusals of a job with sockets: they can't be bound, nothing runs, 64 connections wait, a number is used, the job is being removed
pub socket_refusals : outcomes (
    load_as false false false true s socket_job ∷ load s socket_job ∷ ask s Stop
    ∷ ask s Start ∷ spawned s 1 7 ∷ cames s 1 64
    ++ OfJob s (Came 65) ∷ OfJob s (Came 64) ∷ UnloadJob s false true ∷ ask s Start ∷ load s socket_job ∷ OfJob s (Came 66) ∷ OfJob s (Left 1) ∷ []
    ) start
    ≡ refuses SocketRefused ∷ none ∷ refuses NotRunning ∷ gives ((s, Spawn 1 None) ∷ []) ∷ none ∷ replicate 64 none
    ++ refuses TooManyConnections ∷ refuses Stale ∷ gives ((s, Term 1) ∷ []) ∷ refuses Removing ∷ refuses Removing ∷ refuses Removing ∷ none ∷ []
socket_refusals = refl
