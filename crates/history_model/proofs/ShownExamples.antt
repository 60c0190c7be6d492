-- Worked examples of what list and print show of a job in each state (launchctl(1): list, print; the layout is this
-- project's own). Each is a theorem that computes.
use Rattle.std.specs.Prelude.{◌≡◌, [], ◌∷◌, true, false, refl, codes, None}
use Rattle.std.specs.Fmt.{digits}
use Rattle.history_model.specs.declared.Ended.TheVariants.{Code, Signal}
use Rattle.history_model.specs.declared.Act.TheVariants.{Spawn, Term, Kill, Gone}
use Rattle.history_model.specs.declared.Ask.TheVariants.{Start, Stop, Kickstart}
use Rattle.history_model.specs.Clock.{no_definition}
use Rattle.history_model.specs.Machine.{UnloadJob, ListJobs, PrintJob, ShutDown}
use Rattle.history_model.specs.Step.{outcomes}
use Rattle.history_model.proofs.ExampleWords.{start, read, load, ask, spawned, spawn_refused, ended, a, b, at_load, none, gives, says}

-- idle before any run
pub idle : outcomes (load a no_definition ∷ ListJobs ∷ PrintJob a ∷ []) start
    ≡ none ∷ says (codes "PID\tStatus\tLabel\n-\t0\ta\n")
    ∷ says (codes "a = {\n\tstate = idle\n\tpid = -\n\truns = 0\n\tlast exit = never\n\tdemand = no\n\tconnections = 0\n\tdisabled = false\n}\n") ∷ []
unfolding digits
idle = refl

-- spawning, running, being stopped, being removed with a child, and gone
pub one_life : outcomes (
    load a at_load ∷ ListJobs ∷ PrintJob a ∷ spawned a 1 812 ∷ ListJobs ∷ PrintJob a ∷ ask a Stop ∷ ListJobs ∷ PrintJob a
    ∷ UnloadJob a false true ∷ ListJobs ∷ PrintJob a ∷ ended a 1 (Signal 15) ∷ ListJobs ∷ []
    ) start
    ≡ gives ((a, Spawn 1 None) ∷ [])
    ∷ says (codes "PID\tStatus\tLabel\n-\t0\ta\n")
    ∷ says (codes "a = {\n\tstate = spawning\n\tpid = -\n\truns = 1\n\tlast exit = never\n\tdemand = yes\n\tconnections = 0\n\tdisabled = false\n}\n")
    ∷ none
    ∷ says (codes "PID\tStatus\tLabel\n812\t0\ta\n")
    ∷ says (codes "a = {\n\tstate = running\n\tpid = 812\n\truns = 1\n\tlast exit = never\n\tdemand = no\n\tconnections = 0\n\tdisabled = false\n}\n")
    ∷ gives ((a, Term 1) ∷ [])
    ∷ says (codes "PID\tStatus\tLabel\n812\t0\ta\n")
    ∷ says (codes "a = {\n\tstate = stopping\n\tpid = 812\n\truns = 1\n\tlast exit = never\n\tdemand = no\n\tconnections = 0\n\tdisabled = false\n}\n")
    ∷ none
    ∷ says (codes "PID\tStatus\tLabel\n812\t0\ta\n")
    ∷ says (codes "a = {\n\tstate = removing\n\tpid = 812\n\truns = 1\n\tlast exit = never\n\tdemand = no\n\tconnections = 0\n\tdisabled = false\n}\n")
    ∷ gives ((a, Gone) ∷ [])
    ∷ says (codes "PID\tStatus\tLabel\n") ∷ []
unfolding digits
one_life = refl

-- removing is shown before spawning, and stays once the child is there; a shutdown removes too
pub removing_while_spawning : outcomes (load a at_load ∷ ShutDown ∷ ListJobs ∷ PrintJob a ∷ spawned a 1 7 ∷ ListJobs ∷ PrintJob a ∷ []) start
    ≡ gives ((a, Spawn 1 None) ∷ []) ∷ none
    ∷ says (codes "PID\tStatus\tLabel\n-\t0\ta\n")
    ∷ says (codes "a = {\n\tstate = removing\n\tpid = -\n\truns = 1\n\tlast exit = never\n\tdemand = yes\n\tconnections = 0\n\tdisabled = false\n}\n")
    ∷ gives ((a, Term 1) ∷ [])
    ∷ says (codes "PID\tStatus\tLabel\n7\t0\ta\n")
    ∷ says (codes "a = {\n\tstate = removing\n\tpid = 7\n\truns = 1\n\tlast exit = never\n\tdemand = no\n\tconnections = 0\n\tdisabled = false\n}\n") ∷ []
unfolding digits
removing_while_spawning = refl

-- a job whose spawn is awaited is spawning, also if it is to be stopped or was struck
pub stopped_while_spawning : outcomes (load a at_load ∷ ask a Stop ∷ ask a (Kickstart true) ∷ PrintJob a ∷ []) start
    ≡ gives ((a, Spawn 1 None) ∷ []) ∷ none ∷ none
    ∷ says (codes "a = {\n\tstate = spawning\n\tpid = -\n\truns = 1\n\tlast exit = never\n\tdemand = yes\n\tconnections = 0\n\tdisabled = false\n}\n") ∷ []
unfolding digits
stopped_while_spawning = refl

-- the last end: a code, an unknown signal, a signal; it is shown until the next one, also while there is a child
pub last_ends : outcomes (
    load a at_load ∷ spawned a 1 7 ∷ ended a 1 (Code 3) ∷ ListJobs ∷ PrintJob a ∷ read 10000 ∷ ask a Start ∷ spawned a 2 8 ∷ ListJobs ∷ PrintJob a
    ∷ ended a 2 (Signal 0) ∷ ListJobs ∷ PrintJob a ∷ read 20000 ∷ ask a Start ∷ spawned a 3 9 ∷ ended a 3 (Signal 11) ∷ ListJobs ∷ PrintJob a ∷ []
    ) start
    ≡ gives ((a, Spawn 1 None) ∷ []) ∷ none ∷ none
    ∷ says (codes "PID\tStatus\tLabel\n-\t3\ta\n")
    ∷ says (codes "a = {\n\tstate = idle\n\tpid = -\n\truns = 1\n\tlast exit = code 3\n\tdemand = no\n\tconnections = 0\n\tdisabled = false\n}\n")
    ∷ none ∷ gives ((a, Spawn 2 None) ∷ []) ∷ none
    ∷ says (codes "PID\tStatus\tLabel\n8\t3\ta\n")
    ∷ says (codes "a = {\n\tstate = running\n\tpid = 8\n\truns = 2\n\tlast exit = code 3\n\tdemand = no\n\tconnections = 0\n\tdisabled = false\n}\n")
    ∷ none
    ∷ says (codes "PID\tStatus\tLabel\n-\t-?\ta\n")
    ∷ says (codes "a = {\n\tstate = idle\n\tpid = -\n\truns = 2\n\tlast exit = signal ?\n\tdemand = no\n\tconnections = 0\n\tdisabled = false\n}\n")
    ∷ none ∷ gives ((a, Spawn 3 None) ∷ []) ∷ none ∷ none
    ∷ says (codes "PID\tStatus\tLabel\n-\t-11\ta\n")
    ∷ says (codes "a = {\n\tstate = idle\n\tpid = -\n\truns = 3\n\tlast exit = signal 11\n\tdemand = no\n\tconnections = 0\n\tdisabled = false\n}\n") ∷ []
unfolding digits
last_ends = refl

-- the code 0, and the greatest code
pub codes_shown : outcomes (
    load a at_load ∷ spawned a 1 7 ∷ ended a 1 (Code 0) ∷ ListJobs ∷ PrintJob a ∷ read 10000 ∷ ask a Start ∷ spawned a 2 8 ∷ ended a 2 (Code 255) ∷ ListJobs ∷ []
    ) start
    ≡ gives ((a, Spawn 1 None) ∷ []) ∷ none ∷ none
    ∷ says (codes "PID\tStatus\tLabel\n-\t0\ta\n")
    ∷ says (codes "a = {\n\tstate = idle\n\tpid = -\n\truns = 1\n\tlast exit = code 0\n\tdemand = no\n\tconnections = 0\n\tdisabled = false\n}\n")
    ∷ none ∷ gives ((a, Spawn 2 None) ∷ []) ∷ none ∷ none ∷ says (codes "PID\tStatus\tLabel\n-\t255\ta\n") ∷ []
unfolding digits
codes_shown = refl

-- a refused spawn counts as a run, and leaves its demand
pub refused_shown : outcomes (load a at_load ∷ spawn_refused a 1 ∷ ListJobs ∷ PrintJob a ∷ []) start
    ≡ gives ((a, Spawn 1 None) ∷ []) ∷ none
    ∷ says (codes "PID\tStatus\tLabel\n-\t0\ta\n")
    ∷ says (codes "a = {\n\tstate = idle\n\tpid = -\n\truns = 1\n\tlast exit = never\n\tdemand = yes\n\tconnections = 0\n\tdisabled = false\n}\n") ∷ []
unfolding digits
refused_shown = refl

-- rows in byte order of labels, and print of the one that is asked for
pub two_shown : outcomes (load b no_definition ∷ load a at_load ∷ ListJobs ∷ PrintJob b ∷ []) start
    ≡ none ∷ gives ((a, Spawn 1 None) ∷ [])
    ∷ says (codes "PID\tStatus\tLabel\n-\t0\ta\n-\t0\tb\n")
    ∷ says (codes "b = {\n\tstate = idle\n\tpid = -\n\truns = 0\n\tlast exit = never\n\tdemand = no\n\tconnections = 0\n\tdisabled = false\n}\n") ∷ []
unfolding digits
two_shown = refl

-- a job whose run was stopped, or struck, is idle once that run has ended
pub idle_again : outcomes (
    load a at_load ∷ spawned a 1 7 ∷ ask a Stop ∷ ended a 1 (Signal 15) ∷ PrintJob a ∷ read 10000 ∷ ask a Start ∷ spawned a 2 8 ∷ ask a (Kickstart true)
    ∷ ended a 2 (Signal 9) ∷ PrintJob a ∷ []
    ) start
    ≡ gives ((a, Spawn 1 None) ∷ []) ∷ none ∷ gives ((a, Term 1) ∷ []) ∷ none
    ∷ says (codes "a = {\n\tstate = idle\n\tpid = -\n\truns = 1\n\tlast exit = signal 15\n\tdemand = no\n\tconnections = 0\n\tdisabled = false\n}\n")
    ∷ none ∷ gives ((a, Spawn 2 None) ∷ []) ∷ none ∷ gives ((a, Kill 2) ∷ []) ∷ none
    ∷ says (codes "a = {\n\tstate = idle\n\tpid = -\n\truns = 2\n\tlast exit = signal 9\n\tdemand = yes\n\tconnections = 0\n\tdisabled = false\n}\n") ∷ []
unfolding digits
idle_again = refl
