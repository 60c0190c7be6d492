-- Worked examples of one job: what is seen at its paths (launchd.plist(5): WatchPaths, QueueDirectories, KeepAlive with
-- PathState). Each is a theorem that computes.
use Rattle.std.specs.Prelude.{◌≡◌, ℕ, true, false, List, [], ◌∷◌, None, refl}
use Rattle.history_model.specs.declared.Obs.{Obs}
use Rattle.history_model.specs.declared.Ended.TheVariants.{Code}
use Rattle.history_model.specs.declared.Act.TheVariants.{Spawn}
use Rattle.history_model.specs.Items.{Definition}
use Rattle.history_model.specs.Clock.{no_definition}
use Rattle.history_model.specs.Machine.{Observation}
use Rattle.history_model.specs.Step.{outcomes, run}
use Rattle.history_model.proofs.ThrottleExamples.{play, none, gives, load, read, spawned, ended, saw}
use Rattle.history_model.proofs.ExampleWords as scene

-- two paths, of which the one is the beginning of the other
abbrev pub p : List ℕ
p = 1 ∷ []

-- the longer one
abbrev pub q : List ℕ
q = 1 ∷ 2 ∷ []

-- ---- WatchPaths

-- a job that watches both
abbrev pub watcher : Definition
watcher = record no_definition { watch_paths = p ∷ q ∷ [] }

-- a path that comes to be fires, with the stamp as it was; the first observation is the baseline
pub appears : play (load watcher ∷ saw p false false 5 ∷ saw p true false 5 ∷ []) ≡ none ∷ none ∷ gives (Spawn 1 None) ∷ []
appears = refl

-- so does one that is gone
pub disappears : play (load watcher ∷ saw p true false 5 ∷ saw p false false 5 ∷ []) ≡ none ∷ none ∷ gives (Spawn 1 None) ∷ []
disappears = refl

-- and one whose stamp alone changed, backwards too
pub is_changed : play (load watcher ∷ saw q true false 5 ∷ saw q true false 4 ∷ []) ≡ none ∷ none ∷ gives (Spawn 1 None) ∷ []
is_changed = refl

-- a directory that is no longer empty does not, with the stamp as it was
pub is_filled : play (load watcher ∷ saw p true false 5 ∷ saw p true true 5 ∷ []) ≡ none ∷ none ∷ none ∷ []
is_filled = refl

-- each path is compared with itself, and with its latest observation
pub each_with_itself : play (load watcher ∷ saw p true false 5 ∷ saw q true false 6 ∷ saw (2 ∷ []) true false 7 ∷ saw (2 ∷ []) true false 8 ∷ saw p true false 5 ∷ saw q true false 6 ∷ [])
    ≡ none ∷ none ∷ none ∷ none ∷ none ∷ none ∷ none ∷ []
each_with_itself = refl

-- a change that comes while the job runs starts it again
pub changed_while_running : play (load watcher ∷ saw p true false 5 ∷ saw p true false 6 ∷ spawned 1 ∷ saw p true false 5 ∷ ended 1 (Code 0) ∷ read 10000 ∷ [])
    ≡ none ∷ none ∷ gives (Spawn 1 None) ∷ none ∷ none ∷ none ∷ gives (Spawn 2 None) ∷ []
changed_while_running = refl

-- ---- QueueDirectories

-- a job with two queue directories
abbrev pub queuer : Definition
queuer = record no_definition { queue_directories = p ∷ q ∷ []; throttle_interval = 0 }

-- a directory that holds something starts the job, whether it was seen to be there or not
pub filled_but_absent : play (load queuer ∷ saw q false true 0 ∷ []) ≡ none ∷ gives (Spawn 1 None) ∷ []
filled_but_absent = refl

-- an empty one does not, nor one that is absent
pub there_but_empty : play (load queuer ∷ saw p true false 0 ∷ saw q false false 9 ∷ []) ≡ none ∷ none ∷ none ∷ []
there_but_empty = refl

-- the job starts again as long as one of them is not empty
pub until_empty : play (
    load queuer ∷ saw p true true 0 ∷ spawned 1 ∷ saw q true true 0 ∷ saw p true false 0 ∷ ended 1 (Code 0) ∷ spawned 2 ∷ saw q true false 0
    ∷ ended 2 (Code 0) ∷ []
    )
    ≡ none ∷ gives (Spawn 1 None) ∷ none ∷ none ∷ none ∷ gives (Spawn 2 None) ∷ none ∷ none ∷ none ∷ []
until_empty = refl

-- ---- PathState

-- a job that is kept alive while p is there, or q is absent
abbrev pub keeper : Definition
keeper = record no_definition { path_state = record { path = p; present = true } ∷ record { path = q; present = false } ∷ []; throttle_interval = 0 }

-- the path that is to be there
pub there : play (load keeper ∷ saw p false false 0 ∷ saw q true false 0 ∷ saw p true false 0 ∷ []) ≡ none ∷ none ∷ none ∷ gives (Spawn 1 None) ∷ []
there = refl

-- the path that is to be absent
pub absent : play (load keeper ∷ saw q true true 7 ∷ saw q false false 7 ∷ []) ≡ none ∷ none ∷ gives (Spawn 1 None) ∷ []
absent = refl

-- the latest observation decides
pub no_longer_there : play (load keeper ∷ saw p true false 0 ∷ spawned 1 ∷ saw p false false 0 ∷ ended 1 (Code 0) ∷ [])
    ≡ none ∷ gives (Spawn 1 None) ∷ none ∷ none ∷ none ∷ []
no_longer_there = refl

-- ---- whose past an observation is for

-- what was seen
abbrev pub here : Obs
here = record { present = true; nonempty_dir = false; stamp = 3 }

-- a job that does not list the path does not hear of it
pub unlisted : run (scene.load scene.a watcher ∷ Observation (2 ∷ []) here ∷ []) scene.start ≡ run (scene.load scene.a watcher ∷ []) scene.start
unlisted = refl

-- one that lists it is: as a watched path, a queue directory, or a path of PathState
pub listed : outcomes (
    scene.load scene.a watcher ∷ scene.load scene.b queuer ∷ scene.load scene.s keeper ∷ Observation p here ∷ Observation p (record here { nonempty_dir = true })
    ∷ Observation p (record here { stamp = 4 }) ∷ []
    ) scene.start
    ≡ scene.none ∷ scene.none ∷ scene.none ∷ scene.gives ((scene.s, Spawn 1 None) ∷ []) ∷ scene.gives ((scene.b, Spawn 1 None) ∷ [])
    ∷ scene.gives ((scene.a, Spawn 1 None) ∷ []) ∷ []
listed = refl
