-- Worked examples of what the machine refuses, and which refusal comes first if several hold (launchctl(1); the codes and
-- their order are this project's own). Each is a theorem that computes.
use Rattle.std.specs.Prelude.{◌≡◌, true, false, [], ◌∷◌, map, replicate, Some, None, Err, refl, codes}
use Rattle.history_model.specs.declared.Ended.TheVariants.{Code}
use Rattle.history_model.specs.declared.Act.TheVariants.{Spawn, Term, Close, Gone}
use Rattle.history_model.specs.declared.Ask.TheVariants.{Start, Stop, Unload, Shutdown, Kickstart}
use Rattle.history_model.specs.declared.Answer.TheVariants.{Spawned, SpawnRefused, Termed, Killed}
use Rattle.history_model.specs.declared.Reason.TheVariants as reason
use Rattle.history_model.specs.declared.KeyName.TheVariants as key
use Rattle.history_model.specs.declared.Refusal.TheVariants.{NoMemory, BadRequest, NoSuchJob, AlreadyLoaded, Disabled, Removing, NotRunning, BadDefinition, StoreRefused, TooManyJobs, SocketRefused, TooManyConnections, Stale, ClockRefused, ShuttingDown}
use Rattle.history_model.specs.Items.{Loaded, Read, Saw, Asked, Came, Left, Ordered, Answered, RunEnded, WaitRefused}
use Rattle.history_model.specs.Clock.{no_definition}
use Rattle.history_model.specs.Labels.{is_label, is_before}
use Rattle.history_model.specs.Machine.{Load, UnloadJob, Set, PrintJob, ShutDown, OfJob}
use Rattle.history_model.specs.Acceptance.{refusal_in}
use Rattle.history_model.specs.Step.{outcomes}
use Rattle.history_model.specs.RefusalTexts.{reason_text, key_text, refusal_text, refusal_code}
use Rattle.history_model.proofs.LimitExamples.{crowded}
use Rattle.history_model.proofs.ExampleWords.{start, load_as, load, ask, spawned, termed, ended, a, b, s, at_load, socket_job, none, gives, refuses}

-- ---- labels

-- 1 to 255 bytes, without a slash, a control byte or the byte 127
pub labels : map is_label ([] ∷ (97 ∷ []) ∷ replicate 255 97 ∷ replicate 256 97 ∷ (97 ∷ 47 ∷ 98 ∷ []) ∷ (31 ∷ []) ∷ (32 ∷ []) ∷ (126 ∷ []) ∷ (127 ∷ []) ∷ (128 ∷ []) ∷ (97 ∷ 0 ∷ []) ∷ (255 ∷ []) ∷ [])
    ≡ false ∷ true ∷ true ∷ false ∷ false ∷ false ∷ true ∷ true ∷ false ∷ true ∷ false ∷ true ∷ []
labels = refl

-- byte order: the first byte that differs decides, and the beginning of a label is before it
pub byte_order : is_before (codes "a") (codes "b") ∷ is_before (codes "b") (codes "a") ∷ is_before (codes "a") (codes "a") ∷ is_before (codes "a") (codes "aa") ∷ is_before (codes "aa") (codes "a")
    ∷ is_before (codes "a.z") (codes "b") ∷ is_before (codes "B") (codes "a") ∷ is_before (codes "a10") (codes "a9") ∷ is_before (126 ∷ []) (195 ∷ []) ∷ []
    ≡ true ∷ false ∷ false ∷ true ∷ false ∷ true ∷ true ∷ true ∷ true ∷ []
byte_order = refl

-- ---- events

-- what is not a label is a bad request, before it is no such job
pub no_label : outcomes (
    ask [] Start ∷ ask (codes "a/b") Stop ∷ OfJob (codes "a/b") (Came 1) ∷ UnloadJob (codes "a/b") false true ∷ PrintJob (codes "a/b") ∷ Set (replicate 256 97) true true
    ∷ ask (replicate 255 97) Start ∷ UnloadJob (replicate 255 97) false true ∷ PrintJob (replicate 255 97) ∷ Set (replicate 255 97) true true ∷ []
    ) start
    ≡ refuses BadRequest ∷ refuses BadRequest ∷ refuses BadRequest ∷ refuses BadRequest ∷ refuses BadRequest ∷ refuses BadRequest
    ∷ refuses NoSuchJob ∷ refuses NoSuchJob ∷ refuses NoSuchJob ∷ none ∷ []
no_label = refl

-- each call on a job that is not loaded
pub not_loaded : map (λ item. refusal_in start (OfJob a item)) (
    Asked Start ∷ Asked Stop ∷ Asked (Kickstart false) ∷ Asked (Kickstart true) ∷ Came 1 ∷ Left 1 ∷ Answered (Spawned 1 1) ∷ Answered (SpawnRefused 1) ∷ Answered (Termed 1 true)
    ∷ Answered (Killed 1 false) ∷ RunEnded 1 (Code 0) ∷ WaitRefused 1 ∷ []
    )
    ≡ replicate 12 (Some NoSuchJob)
not_loaded = refl

-- items that no call brings: the machine adds them itself
pub not_received : map (λ item. refusal_in start (OfJob a item)) (
    Loaded no_definition (record { up = 0; wall = 0 }) ∷ Read (record { up = 0; wall = 0 }) false ∷ Saw [] (record { present = true; nonempty_dir = false; stamp = 0 })
    ∷ Asked Unload ∷ Asked Shutdown ∷ Ordered Gone ∷ []
    )
    ≡ replicate 6 (Some BadRequest)
not_received = refl

-- a PID is at least 1
pub process_ids : outcomes (load a at_load ∷ spawned a 1 0 ∷ spawned a 1 1 ∷ load b at_load ∷ spawned b 1 4294967295 ∷ []) start
    ≡ gives ((a, Spawn 1 None) ∷ []) ∷ refuses BadRequest ∷ none ∷ gives ((b, Spawn 1 None) ∷ []) ∷ none ∷ []
process_ids = refl

-- an event is for the job of its label
pub of_its_label : outcomes (load a at_load ∷ load b at_load ∷ spawned b 1 8 ∷ spawned b 1 8 ∷ ask a Stop ∷ ask b Stop ∷ spawned a 1 7 ∷ []) start
    ≡ gives ((a, Spawn 1 None) ∷ []) ∷ gives ((b, Spawn 1 None) ∷ []) ∷ none ∷ refuses Stale ∷ none ∷ gives ((b, Term 1) ∷ []) ∷ gives ((a, Term 1) ∷ []) ∷ []
of_its_label = refl

-- ---- which comes first

-- a load while shutting down, whatever else holds: a definition that is refused, a label that is taken, a socket
pub load_while_shutting_down : outcomes (
    load a at_load ∷ spawned a 1 7 ∷ ShutDown ∷ Load (Err (record { reason = reason.NotJson; key = key.NoKey })) false false true true ∷ load a at_load
    ∷ load_as false false false false s socket_job ∷ ShutDown ∷ Set b true true ∷ Set b false false ∷ UnloadJob a true false ∷ ask a Start ∷ []
    ) start
    ≡ gives ((a, Spawn 1 None) ∷ []) ∷ none ∷ gives ((a, Term 1) ∷ []) ∷ refuses ShuttingDown ∷ refuses ShuttingDown ∷ refuses ShuttingDown ∷ refuses ShuttingDown
    ∷ none ∷ refuses StoreRefused ∷ refuses Removing ∷ refuses Removing ∷ []
load_while_shutting_down = refl

-- disabled, then the sockets, then the store; -F passes over disabled and writes nothing, -w passes over it and writes
pub load_refused_in_turn : outcomes (
    Set s true true ∷ load_as false false false false s socket_job ∷ load_as false true false false s socket_job ∷ load_as true false false false s socket_job
    ∷ load_as true false true false s socket_job ∷ load_as false true true false s socket_job ∷ load_as true true false false s socket_job
    ∷ UnloadJob s false false ∷ load s socket_job ∷ load_as true false true true s socket_job ∷ UnloadJob s false false ∷ load s socket_job ∷ []
    ) start
    ≡ none ∷ refuses Disabled ∷ refuses SocketRefused ∷ refuses SocketRefused
    ∷ refuses StoreRefused ∷ none ∷ refuses AlreadyLoaded
    ∷ gives ((s, Gone) ∷ []) ∷ refuses Disabled ∷ none ∷ gives ((s, Gone) ∷ []) ∷ none ∷ []
load_refused_in_turn = refl

-- without sockets the answer of the bind does not count, and without -w that of the store does not
pub not_asked : outcomes (load_as false false false false a no_definition ∷ UnloadJob a false false ∷ load_as true false false false b no_definition ∷ []) start
    ≡ none ∷ gives ((a, Gone) ∷ []) ∷ refuses StoreRefused ∷ []
not_asked = refl

-- too many jobs comes before disabled and the sockets, and after the label
pub full : map (refusal_in (crowded 1024)) (
    load_as false false false false s (record socket_job { disabled = true }) ∷ load_as false false true true (64 ∷ 64 ∷ []) (record no_definition { disabled = true }) ∷ []
    )
    ≡ Some TooManyJobs ∷ Some AlreadyLoaded ∷ []
full = refl

-- a label whose job is being removed is not free until the job is gone; its settings may be written meanwhile
pub removing : outcomes (
    load s socket_job ∷ ask s Start ∷ spawned s 1 7 ∷ OfJob s (Came 3) ∷ OfJob s (Came 5) ∷ UnloadJob s true true ∷ load_as true true true true s socket_job ∷ UnloadJob s true false
    ∷ Set s false true ∷ termed s 1 ∷ ended s 1 (Code 0) ∷ load s socket_job ∷ []
    ) start
    ≡ none ∷ gives ((s, Spawn 1 None) ∷ []) ∷ none ∷ none ∷ none ∷ gives ((s, Term 1) ∷ []) ∷ refuses Removing ∷ refuses Removing
    ∷ none ∷ none ∷ gives ((s, Close 3) ∷ (s, Close 5) ∷ (s, Gone) ∷ []) ∷ none ∷ []
removing = refl

-- the last setting of a label decides, whatever other labels' settings and the definition say
pub last_setting : outcomes (
    Set a true true ∷ Set b false true ∷ load a no_definition ∷ Set a false true ∷ Set b true true ∷ load a (record no_definition { disabled = true }) ∷ load b no_definition
    ∷ Set b false false ∷ load b no_definition ∷ []
    ) start
    ≡ none ∷ none ∷ refuses Disabled ∷ none ∷ none ∷ none ∷ refuses Disabled ∷ refuses StoreRefused ∷ refuses Disabled ∷ []
last_setting = refl

-- ---- names, texts and codes

-- the codes
pub all_codes : map refusal_code (
    NoMemory ∷ BadRequest ∷ NoSuchJob ∷ AlreadyLoaded ∷ Disabled ∷ Removing ∷ NotRunning ∷ BadDefinition reason.Missing key.Label ∷ StoreRefused ∷ TooManyJobs
    ∷ SocketRefused ∷ TooManyConnections ∷ Stale ∷ ClockRefused ∷ ShuttingDown ∷ []
    )
    ≡ 1 ∷ 2 ∷ 3 ∷ 4 ∷ 5 ∷ 6 ∷ 7 ∷ 8 ∷ 9 ∷ 10 ∷ 11 ∷ 12 ∷ 13 ∷ 14 ∷ 15 ∷ []
all_codes = refl

-- the texts
pub all_texts : map refusal_text (
    NoMemory ∷ BadRequest ∷ NoSuchJob ∷ AlreadyLoaded ∷ Disabled ∷ Removing ∷ NotRunning ∷ BadDefinition reason.Missing key.Label ∷ StoreRefused ∷ TooManyJobs
    ∷ SocketRefused ∷ TooManyConnections ∷ Stale ∷ ClockRefused ∷ ShuttingDown ∷ []
    )
    ≡ codes "no memory\n" ∷ codes "bad request\n" ∷ codes "no such job\n" ∷ codes "already loaded\n" ∷ codes "disabled\n" ∷ codes "being removed\n" ∷ codes "not running\n"
    ∷ codes "bad definition: Missing Label\n" ∷ codes "store refused\n" ∷ codes "too many jobs\n" ∷ codes "socket refused\n" ∷ codes "too many connections\n" ∷ codes "stale\n"
    ∷ codes "clock refused\n" ∷ codes "shutting down\n" ∷ []
all_texts = refl

-- the reasons
pub all_reasons : map reason_text (reason.NotJson ∷ reason.NotObject ∷ reason.Missing ∷ reason.WrongKind ∷ reason.OutOfRange ∷ reason.TooLong ∷ reason.BadLabel ∷ reason.Unsupported ∷ [])
    ≡ codes "NotJson" ∷ codes "NotObject" ∷ codes "Missing" ∷ codes "WrongKind" ∷ codes "OutOfRange" ∷ codes "TooLong" ∷ codes "BadLabel" ∷ codes "Unsupported" ∷ []
all_reasons = refl

-- the keys, as launchd.plist(5) writes them
pub all_keys : map key_text (
    key.NoKey ∷ key.Label ∷ key.Program ∷ key.ProgramArguments ∷ key.RunAtLoad ∷ key.LaunchOnlyOnce ∷ key.DisabledKey ∷ key.OnDemand ∷ key.KeepAlive ∷ key.WatchPaths
    ∷ key.QueueDirectories ∷ key.StartInterval ∷ key.StartCalendarInterval ∷ key.ThrottleInterval ∷ key.ExitTimeOut ∷ key.EnvironmentVariables ∷ key.WorkingDirectory
    ∷ key.StandardInPath ∷ key.StandardOutPath ∷ key.StandardErrorPath ∷ key.Sockets ∷ key.InetdCompatibility ∷ key.UserName ∷ key.GroupName ∷ key.RootDirectory ∷ []
    )
    ≡ codes "-" ∷ codes "Label" ∷ codes "Program" ∷ codes "ProgramArguments" ∷ codes "RunAtLoad" ∷ codes "LaunchOnlyOnce" ∷ codes "Disabled" ∷ codes "OnDemand" ∷ codes "KeepAlive" ∷ codes "WatchPaths"
    ∷ codes "QueueDirectories" ∷ codes "StartInterval" ∷ codes "StartCalendarInterval" ∷ codes "ThrottleInterval" ∷ codes "ExitTimeOut" ∷ codes "EnvironmentVariables" ∷ codes "WorkingDirectory"
    ∷ codes "StandardInPath" ∷ codes "StandardOutPath" ∷ codes "StandardErrorPath" ∷ codes "Sockets" ∷ codes "inetdCompatibility" ∷ codes "UserName" ∷ codes "GroupName" ∷ codes "RootDirectory" ∷ []
all_keys = refl
