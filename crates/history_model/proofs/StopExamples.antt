-- Worked examples of one job: how it is stopped (launchctl(1): stop, kickstart; launchd.plist(5): ExitTimeOut). Each is a
-- theorem that computes.
use Rattle.std.specs.Prelude.{◌≡◌, true, false, [], ◌∷◌, Some, None, refl}
use Rattle.history_model.specs.declared.Ended.TheVariants.{Signal}
use Rattle.history_model.specs.declared.Act.TheVariants.{Spawn, Term, Kill}
use Rattle.history_model.specs.declared.Ask.TheVariants.{Stop, Unload, Kickstart}
use Rattle.history_model.specs.declared.Answer.TheVariants.{Termed, Killed}
use Rattle.history_model.specs.declared.Refusal.TheVariants.{Removing, Stale}
use Rattle.history_model.specs.Items.{Definition, Asked, Answered}
use Rattle.history_model.specs.Clock.{no_definition}
use Rattle.history_model.proofs.ThrottleExamples.{play, none, gives, refused, load, read, spawned, ended}

-- a job that starts when it is loaded, with no throttle
abbrev pub unthrottled : Definition
unthrottled = record no_definition { run_at_load = true; throttle_interval = 0 }

-- ---- TERM, then KILL

-- KILL comes if the timeout has passed since TERM
pub stopped : play (
    load unthrottled ∷ spawned 1 ∷ read 1000 ∷ Asked Stop ∷ Answered (Termed 1 true) ∷ read 20999 ∷ read 21000 ∷ Answered (Killed 1 true)
    ∷ ended 1 (Signal 9) ∷ []
    )
    ≡ gives (Spawn 1 None) ∷ none ∷ none ∷ gives (Term 1) ∷ none ∷ none ∷ gives (Kill 1) ∷ none ∷ none ∷ []
stopped = refl

-- a refused TERM is given again after a second, and KILL counts from the first
pub refused_term : play (
    load unthrottled ∷ spawned 1 ∷ read 1000 ∷ Asked Stop ∷ Answered (Termed 1 false) ∷ read 1999 ∷ read 2000 ∷ Answered (Termed 1 true) ∷ read 20999
    ∷ read 21000 ∷ []
    )
    ≡ gives (Spawn 1 None) ∷ none ∷ none ∷ gives (Term 1) ∷ none ∷ none ∷ gives (Term 1) ∷ none ∷ none ∷ gives (Kill 1) ∷ []
refused_term = refl

-- with a timeout of 0 no KILL comes
pub no_timeout : play (
    load (record no_definition { run_at_load = true; exit_timeout = 0 }) ∷ spawned 1 ∷ Asked Stop ∷ Answered (Termed 1 true) ∷ read 1000000000 ∷ []
    )
    ≡ gives (Spawn 1 None) ∷ none ∷ gives (Term 1) ∷ none ∷ none ∷ []
no_timeout = refl

-- an unknown signal is not a crash if the run was ordered to end
pub ordered_to_end : play (
    load (record no_definition { run_at_load = true; crashed = Some true }) ∷ spawned 1 ∷ Asked Stop ∷ Answered (Termed 1 true) ∷ ended 1 (Signal 0)
    ∷ read 10000 ∷ []
    )
    ≡ gives (Spawn 1 None) ∷ none ∷ gives (Term 1) ∷ none ∷ none ∷ none ∷ []
ordered_to_end = refl

-- an end while the answer to TERM is awaited ends the wait, and the late answer is stale
pub late_answer : play (load unthrottled ∷ spawned 1 ∷ Asked Stop ∷ ended 1 (Signal 15) ∷ Answered (Termed 1 true) ∷ [])
    ≡ gives (Spawn 1 None) ∷ none ∷ gives (Term 1) ∷ none ∷ refused Stale ∷ []
late_answer = refl

-- ---- kickstart

-- a kickstart of a running job is nothing; with -k the child gets KILL at once, and the job starts again
pub struck : play (
    load unthrottled ∷ spawned 1 ∷ read 500 ∷ Asked (Kickstart false) ∷ Asked (Kickstart true) ∷ Answered (Killed 1 true) ∷ ended 1 (Signal 9) ∷ []
    )
    ≡ gives (Spawn 1 None) ∷ none ∷ none ∷ none ∷ gives (Kill 1) ∷ none ∷ gives (Spawn 2 None) ∷ []
struck = refl

-- a refused KILL is given again after a second, no TERM comes between, and the throttle is obeyed
pub refused_kill : play (
    load (record no_definition { run_at_load = true }) ∷ spawned 1 ∷ read 1000 ∷ Asked (Kickstart true) ∷ Answered (Killed 1 false) ∷ Asked Stop
    ∷ read 1999 ∷ read 2000 ∷ Answered (Killed 1 true) ∷ ended 1 (Signal 9) ∷ read 10000 ∷ []
    )
    ≡ gives (Spawn 1 None) ∷ none ∷ none ∷ gives (Kill 1) ∷ none ∷ none ∷ none ∷ gives (Kill 1) ∷ none ∷ none ∷ gives (Spawn 2 None) ∷ []
refused_kill = refl

-- ExitTimeOut 0 keeps back the KILL after a TERM, not that of a kickstart
pub struck_without_timeout : play (load (record no_definition { run_at_load = true; exit_timeout = 0 }) ∷ spawned 1 ∷ Asked (Kickstart true) ∷ [])
    ≡ gives (Spawn 1 None) ∷ none ∷ gives (Kill 1) ∷ []
struck_without_timeout = refl

-- a run that is struck while its spawn is awaited gets KILL once it is there, and its successor comes
pub struck_while_awaited : play (
    load no_definition ∷ Asked (Kickstart false) ∷ Asked (Kickstart true) ∷ spawned 1 ∷ Answered (Killed 1 true) ∷ ended 1 (Signal 9) ∷ read 10000
    ∷ []
    )
    ≡ none ∷ gives (Spawn 1 None) ∷ none ∷ gives (Kill 1) ∷ none ∷ none ∷ gives (Spawn 2 None) ∷ []
struck_while_awaited = refl

-- a job that is being removed can't be kickstarted
pub kickstart_refused : play (load unthrottled ∷ spawned 1 ∷ Asked Unload ∷ Asked (Kickstart true) ∷ [])
    ≡ gives (Spawn 1 None) ∷ none ∷ gives (Term 1) ∷ refused Removing ∷ []
kickstart_refused = refl
