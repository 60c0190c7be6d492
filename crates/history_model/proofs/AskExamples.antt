-- Worked examples of one job: what is asked of it at each time, and answers that come out of turn (launchctl(1): start, stop,
-- unload, kickstart; launchd.plist(5): ExitTimeOut). Each is a theorem that computes.
use Rattle.std.specs.Prelude.{◌≡◌, true, false, [], ◌∷◌, ◌^◌, ◌-◌, Some, None, refl}
use Rattle.history_model.specs.declared.Ended.TheVariants.{Code, Signal}
use Rattle.history_model.specs.declared.Act.TheVariants.{Spawn, Term, Kill}
use Rattle.history_model.specs.declared.Ask.TheVariants.{Start, Stop, Unload, Shutdown, Kickstart}
use Rattle.history_model.specs.declared.Answer.TheVariants.{SpawnRefused, Spawned, Termed, Killed}
use Rattle.history_model.specs.declared.Refusal.TheVariants.{Removing, NotRunning, Stale}
use Rattle.history_model.specs.Items.{Asked, Answered, Came, Left, WaitRefused}
use Rattle.history_model.specs.Clock.{no_definition}
use Rattle.history_model.specs.Facts.{facts_of}
use Rattle.history_model.specs.DueByFacts.{due_by}
use Rattle.history_model.proofs.ThrottleExamples.{play, none, gives, refused, load, read, spawned, ended}
use Rattle.history_model.proofs.StopExamples.{unthrottled}

-- ---- start

-- a start of a job that runs does not make a demand
pub start_of_a_running_job : play (load unthrottled ∷ spawned 1 ∷ Asked Start ∷ ended 1 (Code 0) ∷ [])
    ≡ gives (Spawn 1 None) ∷ none ∷ none ∷ none ∷ []
start_of_a_running_job = refl

-- nor is one while its spawn is awaited
pub start_while_awaited : play (load unthrottled ∷ Asked Start ∷ spawned 1 ∷ ended 1 (Code 0) ∷ [])
    ≡ gives (Spawn 1 None) ∷ none ∷ none ∷ none ∷ []
start_while_awaited = refl

-- of a run that is being stopped it is one, which its successor meets
pub start_of_a_stopped_job : play (load unthrottled ∷ spawned 1 ∷ Asked Stop ∷ Asked Start ∷ Answered (Termed 1 true) ∷ ended 1 (Signal 15) ∷ [])
    ≡ gives (Spawn 1 None) ∷ none ∷ gives (Term 1) ∷ none ∷ none ∷ gives (Spawn 2 None) ∷ []
start_of_a_stopped_job = refl

-- also if the spawn was still awaited at the stop and at the start
pub stopped_and_started_while_awaited : play (load unthrottled ∷ Asked Stop ∷ Asked Start ∷ spawned 1 ∷ Answered (Termed 1 true) ∷ ended 1 (Signal 15) ∷ spawned 2 ∷ ended 2 (Code 0) ∷ [])
    ≡ gives (Spawn 1 None) ∷ none ∷ none ∷ gives (Term 1) ∷ none ∷ gives (Spawn 2 None) ∷ none ∷ none ∷ []
stopped_and_started_while_awaited = refl

-- without the start nothing follows
pub stopped_while_awaited : play (load unthrottled ∷ Asked Stop ∷ spawned 1 ∷ Answered (Termed 1 true) ∷ ended 1 (Signal 15) ∷ [])
    ≡ gives (Spawn 1 None) ∷ none ∷ gives (Term 1) ∷ none ∷ none ∷ []
stopped_while_awaited = refl

-- a kickstart of a stopped run is a demand like a start
pub kickstart_of_a_stopped_job : play (load unthrottled ∷ spawned 1 ∷ Asked Stop ∷ Asked (Kickstart false) ∷ Answered (Termed 1 true) ∷ ended 1 (Signal 15) ∷ [])
    ≡ gives (Spawn 1 None) ∷ none ∷ gives (Term 1) ∷ none ∷ none ∷ gives (Spawn 2 None) ∷ []
kickstart_of_a_stopped_job = refl

-- of one that runs it is nothing
pub kickstart_of_a_running_job : play (load unthrottled ∷ spawned 1 ∷ Asked (Kickstart false) ∷ ended 1 (Code 0) ∷ [])
    ≡ gives (Spawn 1 None) ∷ none ∷ none ∷ none ∷ []
kickstart_of_a_running_job = refl

-- kickstart -k of a job that does not run is a start, and strikes nothing
pub struck_while_idle : play (load (record no_definition { throttle_interval = 0 }) ∷ Asked (Kickstart true) ∷ spawned 1 ∷ ended 1 (Code 0) ∷ [])
    ≡ none ∷ gives (Spawn 1 None) ∷ none ∷ none ∷ []
struck_while_idle = refl

-- ---- stop

-- a stop is of one run: a refused spawn ends it, and the next run is not stopped
pub stop_of_a_refused_run : play (load unthrottled ∷ Asked Stop ∷ Answered (SpawnRefused 1) ∷ Asked Stop ∷ read 1000 ∷ spawned 2 ∷ [])
    ≡ gives (Spawn 1 None) ∷ none ∷ none ∷ refused NotRunning ∷ gives (Spawn 2 None) ∷ none ∷ []
stop_of_a_refused_run = refl

-- so is a kickstart -k
pub strike_of_a_refused_run : play (load unthrottled ∷ Asked (Kickstart true) ∷ Answered (SpawnRefused 1) ∷ read 1000 ∷ spawned 2 ∷ [])
    ≡ gives (Spawn 1 None) ∷ none ∷ none ∷ gives (Spawn 2 None) ∷ none ∷ []
strike_of_a_refused_run = refl

-- a second stop is accepted, and gives no second TERM
pub stopped_twice : play (load unthrottled ∷ spawned 1 ∷ Asked Stop ∷ Asked Stop ∷ Answered (Termed 1 true) ∷ Asked Stop ∷ [])
    ≡ gives (Spawn 1 None) ∷ none ∷ gives (Term 1) ∷ none ∷ none ∷ none ∷ []
stopped_twice = refl

-- a job that is kept alive is started again after a stop
pub stopped_and_kept_alive : play (load (record no_definition { keep_alive = true; throttle_interval = 0 }) ∷ spawned 1 ∷ Asked Stop ∷ Answered (Termed 1 true) ∷ ended 1 (Signal 15) ∷ spawned 2 ∷ [])
    ≡ gives (Spawn 1 None) ∷ none ∷ gives (Term 1) ∷ none ∷ gives (Spawn 2 None) ∷ none ∷ []
stopped_and_kept_alive = refl

-- if KILL and TERM may both be given, KILL is; once it was sent no TERM follows
pub kill_before_term : play (
    load (record unthrottled { exit_timeout = 1 }) ∷ spawned 1 ∷ Asked Stop ∷ Answered (Termed 1 false) ∷ read 999 ∷ read 1000 ∷ Answered (Killed 1 true)
    ∷ read 5000 ∷ ended 1 (Signal 9) ∷ []
    )
    ≡ gives (Spawn 1 None) ∷ none ∷ gives (Term 1) ∷ none ∷ none ∷ gives (Kill 1) ∷ none ∷ none ∷ none ∷ []
kill_before_term = refl

-- a KILL that was refused is given again after a second
pub kill_again : play (
    load (record unthrottled { exit_timeout = 1 }) ∷ spawned 1 ∷ Asked Stop ∷ Answered (Termed 1 true) ∷ read 1000 ∷ Answered (Killed 1 false)
    ∷ read 1999 ∷ read 2000 ∷ Answered (Killed 1 false) ∷ read 3000 ∷ []
    )
    ≡ gives (Spawn 1 None) ∷ none ∷ gives (Term 1) ∷ none ∷ gives (Kill 1) ∷ none ∷ none ∷ gives (Kill 1) ∷ none ∷ gives (Kill 1) ∷ []
kill_again = refl

-- an end while the answer to KILL is awaited ends the wait
pub ended_while_killed : play (load unthrottled ∷ spawned 1 ∷ Asked (Kickstart true) ∷ ended 1 (Signal 9) ∷ Answered (Killed 1 true) ∷ [])
    ≡ gives (Spawn 1 None) ∷ none ∷ gives (Kill 1) ∷ gives (Spawn 2 None) ∷ refused Stale ∷ []
ended_while_killed = refl

-- ---- removal

-- a job that is being removed refuses what is asked of it, and shutdown alone is accepted; its child is stopped and no run follows
pub removed : play (
    load (record no_definition { keep_alive = true; has_sockets = true; throttle_interval = 0 }) ∷ spawned 1 ∷ Asked Unload ∷ Asked Start ∷ Asked Stop ∷ Asked Unload
    ∷ Asked (Kickstart false) ∷ Came 1 ∷ Asked Shutdown ∷ Answered (Termed 1 true) ∷ ended 1 (Signal 15) ∷ []
    )
    ≡ gives (Spawn 1 None) ∷ none ∷ gives (Term 1) ∷ refused Removing ∷ refused Removing ∷ refused Removing ∷ refused Removing ∷ refused Removing
    ∷ none ∷ none ∷ none ∷ []
removed = refl

-- a shutdown stops a child too, and a demand that waits is given up
pub shut_down : play (load (record no_definition { start_interval = Some 1; throttle_interval = 0 }) ∷ read 1000 ∷ spawned 1 ∷ read 2000 ∷ Asked Shutdown ∷ Answered (Termed 1 true) ∷ ended 1 (Signal 15) ∷ read 5000 ∷ [])
    ≡ none ∷ gives (Spawn 1 None) ∷ none ∷ none ∷ gives (Term 1) ∷ none ∷ none ∷ none ∷ []
shut_down = refl

-- ---- answers and ends out of turn

-- while a spawn is awaited only its own answer is taken
pub awaiting_a_spawn : play (
    load unthrottled ∷ Answered (Spawned 2 7) ∷ Answered (SpawnRefused 2) ∷ Answered (Termed 1 true) ∷ Answered (Killed 1 true) ∷ ended 1 (Code 0) ∷ WaitRefused 1
    ∷ Answered (SpawnRefused 1) ∷ Answered (SpawnRefused 1) ∷ []
    )
    ≡ gives (Spawn 1 None) ∷ refused Stale ∷ refused Stale ∷ refused Stale ∷ refused Stale ∷ refused Stale ∷ refused Stale ∷ none ∷ refused Stale ∷ []
awaiting_a_spawn = refl

-- so it is with a TERM
pub awaiting_a_term : play (
    load unthrottled ∷ spawned 1 ∷ Asked Stop ∷ Answered (Killed 1 true) ∷ Answered (Termed 2 true) ∷ Answered (Spawned 1 7) ∷ Answered (SpawnRefused 1)
    ∷ ended 2 (Code 0) ∷ WaitRefused 2 ∷ WaitRefused 1 ∷ Answered (Termed 1 true) ∷ Answered (Termed 1 true) ∷ []
    )
    ≡ gives (Spawn 1 None) ∷ none ∷ gives (Term 1) ∷ refused Stale ∷ refused Stale ∷ refused Stale ∷ refused Stale
    ∷ refused Stale ∷ refused Stale ∷ none ∷ none ∷ refused Stale ∷ []
awaiting_a_term = refl

-- and with a KILL
pub awaiting_a_kill : play (
    load unthrottled ∷ spawned 1 ∷ Asked (Kickstart true) ∷ Answered (Termed 1 true) ∷ Answered (Killed 2 true) ∷ Answered (Spawned 1 7) ∷ Answered (SpawnRefused 1)
    ∷ Answered (Killed 1 true) ∷ Answered (Killed 1 true) ∷ []
    )
    ≡ gives (Spawn 1 None) ∷ none ∷ gives (Kill 1) ∷ refused Stale ∷ refused Stale ∷ refused Stale ∷ refused Stale ∷ none ∷ refused Stale ∷ []
awaiting_a_kill = refl

-- ---- connections

-- a job without sockets takes none; a number has to be above every earlier one, and 0 is one
pub numbers : play (load no_definition ∷ Came 1 ∷ []) ∷ play (
    load (record no_definition { has_sockets = true; throttle_interval = 0 }) ∷ Came 0 ∷ Came 0 ∷ Came 5 ∷ Came 3 ∷ Came 5 ∷ spawned 1 ∷ Left 0 ∷ Left 7 ∷ Left 5 ∷ Came 5
    ∷ ended 1 (Code 0) ∷ []
    ) ∷ []
    ≡ (none ∷ refused Stale ∷ []) ∷ (
    none ∷ gives (Spawn 1 (Some 0)) ∷ refused Stale ∷ none ∷ refused Stale ∷ refused Stale ∷ none ∷ refused Stale ∷ refused Stale ∷ none ∷ refused Stale
    ∷ none ∷ []
    ) ∷ []
numbers = refl

-- one that leaves while its spawn is awaited starts no other run if that spawn is refused; the next one does
pub left_and_refused : play (
    load (record no_definition { has_sockets = true }) ∷ Came 1 ∷ Left 1 ∷ Answered (SpawnRefused 1) ∷ read 10000 ∷ Came 2 ∷ []
    )
    ≡ none ∷ gives (Spawn 1 (Some 1)) ∷ none ∷ none ∷ none ∷ gives (Spawn 2 (Some 2)) ∷ []
left_and_refused = refl

-- connections start a job that is launched once but once
pub launched_once_for_a_connection : play (
    load (record no_definition { has_sockets = true; launch_only_once = true; throttle_interval = 0 }) ∷ Came 1 ∷ Came 2 ∷ spawned 1 ∷ ended 1 (Code 0) ∷ read 5000 ∷ []
    )
    ≡ none ∷ gives (Spawn 1 (Some 1)) ∷ none ∷ none ∷ none ∷ none ∷ []
launched_once_for_a_connection = refl

-- ---- the last run

-- a load has 2^63 runs at most: before the last one a spawn may be ordered, after it none
pub last_run : due_by (record (facts_of (load unthrottled ∷ [])) { run_count = 2 ^ 63 - 1 }) 0 ≡ Some (Spawn (2 ^ 63) None)
last_run = refl

pub no_run_remains : due_by (record (facts_of (load unthrottled ∷ [])) { run_count = 2 ^ 63 }) 0 ≡ None
no_run_remains = refl

-- ---- each run from the start

-- what was ordered and answered for one run says nothing of the next: TERM, its refusals and its timeout, and KILL
pub each_run_anew : play (
    load (record no_definition { keep_alive = true; throttle_interval = 0; exit_timeout = 1 }) ∷ spawned 1 ∷ Asked Stop ∷ Answered (Termed 1 false) ∷ ended 1 (Signal 15)
    ∷ spawned 2 ∷ read 500 ∷ Asked Stop ∷ Answered (Termed 2 true) ∷ read 1000 ∷ read 1500 ∷ Answered (Killed 2 true) ∷ ended 2 (Signal 9)
    ∷ spawned 3 ∷ Asked Stop ∷ Answered (Termed 3 true) ∷ read 2500 ∷ []
    )
    ≡ gives (Spawn 1 None) ∷ none ∷ gives (Term 1) ∷ none ∷ gives (Spawn 2 None)
    ∷ none ∷ none ∷ gives (Term 2) ∷ none ∷ none ∷ gives (Kill 2) ∷ none ∷ gives (Spawn 3 None)
    ∷ none ∷ gives (Term 3) ∷ none ∷ gives (Kill 3) ∷ []
each_run_anew = refl

-- a refused spawn clears no demand, whatever runs succeeded before
pub refused_after_a_success : play (load unthrottled ∷ spawned 1 ∷ ended 1 (Code 0) ∷ Asked Start ∷ Answered (SpawnRefused 2) ∷ read 1000 ∷ [])
    ≡ gives (Spawn 1 None) ∷ none ∷ none ∷ gives (Spawn 2 None) ∷ none ∷ gives (Spawn 3 None) ∷ []
refused_after_a_success = refl
