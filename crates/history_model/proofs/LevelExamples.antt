-- Worked examples of one job: levels, paths and connections (launchd.plist(5): KeepAlive, WatchPaths, QueueDirectories,
-- Sockets). Each is a theorem that computes.
use Rattle.std.specs.Prelude.{◌≡◌, true, false, [], ◌∷◌, Some, None, refl}
use Rattle.history_model.specs.declared.Ended.TheVariants.{Code, Signal}
use Rattle.history_model.specs.declared.Act.TheVariants.{Spawn}
use Rattle.history_model.specs.declared.Answer.TheVariants.{SpawnRefused}
use Rattle.history_model.specs.declared.Ask.TheVariants.{Start}
use Rattle.history_model.specs.declared.Refusal.TheVariants.{Stale}
use Rattle.history_model.specs.Items.{Asked, Came, Left, Answered}
use Rattle.history_model.specs.Clock.{no_definition}
use Rattle.history_model.proofs.ThrottleExamples.{play, none, gives, refused, load, read, spawned, ended, saw}

-- ---- levels and paths

-- conditions are ORed, and hold of nothing that was not seen
pub conditions : play (
    load (record no_definition { successful_exit = Some false; path_state = record { path = 1 ∷ []; present = true } ∷ [] }) ∷ spawned 1 ∷ saw (1 ∷ []) true false 0
    ∷ ended 1 (Code 0) ∷ read 10000 ∷ spawned 2 ∷ saw (1 ∷ []) false false 0 ∷ ended 2 (Code 0) ∷ read 20000 ∷ []
    )
    ≡ gives (Spawn 1 None) ∷ none ∷ none ∷ none ∷ gives (Spawn 2 None) ∷ none ∷ none ∷ none ∷ none ∷ []
conditions = refl

-- a job that is to be started after a crash, and does not crash the second time
pub after_a_crash : play (
    load (record no_definition { run_at_load = true; crashed = Some true }) ∷ spawned 1 ∷ ended 1 (Signal 11) ∷ read 10000 ∷ spawned 2
    ∷ ended 2 (Signal 15) ∷ read 20000 ∷ []
    )
    ≡ gives (Spawn 1 None) ∷ none ∷ none ∷ gives (Spawn 2 None) ∷ none ∷ none ∷ none ∷ []
after_a_crash = refl

-- an unknown signal is a crash if nobody ordered the run to end
pub after_an_unknown_signal : play (
    load (record no_definition { run_at_load = true; crashed = Some true }) ∷ spawned 1 ∷ ended 1 (Signal 0) ∷ read 10000 ∷ []
    )
    ≡ gives (Spawn 1 None) ∷ none ∷ none ∷ gives (Spawn 2 None) ∷ []
after_an_unknown_signal = refl

-- a job that is to be started unless it crashed: not after a crash, but after an exit with a code
pub unless_crashed : play (
    load (record no_definition { run_at_load = true; crashed = Some false }) ∷ spawned 1 ∷ ended 1 (Signal 11) ∷ read 10000 ∷ Asked Start ∷ spawned 2
    ∷ ended 2 (Code 1) ∷ read 20000 ∷ []
    )
    ≡ gives (Spawn 1 None) ∷ none ∷ none ∷ none ∷ gives (Spawn 2 None) ∷ none ∷ none ∷ gives (Spawn 3 None) ∷ []
unless_crashed = refl

-- a watched path starts the job if it changes, a queue directory as long as it is not empty
pub watched : play (
    load (record no_definition { watch_paths = (1 ∷ []) ∷ []; queue_directories = (2 ∷ []) ∷ [] }) ∷ saw (1 ∷ []) true false 5
    ∷ saw (1 ∷ []) true false 5 ∷ saw (1 ∷ []) true false 6 ∷ spawned 1 ∷ saw (2 ∷ []) true true 0 ∷ ended 1 (Code 0) ∷ read 10000 ∷ spawned 2
    ∷ saw (2 ∷ []) true false 0 ∷ ended 2 (Code 0) ∷ read 20000 ∷ []
    )
    ≡ none ∷ none ∷ none ∷ gives (Spawn 1 None) ∷ none ∷ none ∷ none ∷ gives (Spawn 2 None) ∷ none ∷ none ∷ none ∷ none ∷ []
watched = refl

-- ---- connections

-- connections are carried in order of arrival, but for those that left
pub connections : play (
    load (record no_definition { has_sockets = true }) ∷ Asked Start ∷ spawned 1 ∷ Came 1 ∷ Came 2 ∷ Came 3 ∷ Left 2 ∷ ended 1 (Code 0) ∷ read 10000
    ∷ spawned 2 ∷ ended 2 (Code 0) ∷ read 20000 ∷ spawned 3 ∷ []
    )
    ≡ none ∷ gives (Spawn 1 None) ∷ none ∷ none ∷ none ∷ none ∷ none ∷ none ∷ gives (Spawn 2 (Some 1)) ∷ none ∷ none ∷ gives (Spawn 3 (Some 3)) ∷ none
    ∷ []
connections = refl

-- a refused spawn keeps its connection; one that leaves while it is awaited is carried by no later spawn
pub connection_kept : play (
    load (record no_definition { has_sockets = true }) ∷ Came 1 ∷ Answered (SpawnRefused 1) ∷ read 10000 ∷ Left 1 ∷ spawned 2 ∷ Came 2 ∷ Left 1
    ∷ ended 2 (Code 0) ∷ read 20000 ∷ []
    )
    ≡ none ∷ gives (Spawn 1 (Some 1)) ∷ none ∷ gives (Spawn 2 (Some 1)) ∷ none ∷ none ∷ none ∷ refused Stale ∷ none ∷ gives (Spawn 3 (Some 2)) ∷ []
connection_kept = refl
