-- Worked examples of why a job has no spawn due (launchd.plist(5): RunAtLoad, KeepAlive, ThrottleInterval, LaunchOnlyOnce;
-- launchctl(1): unload, kickstart). Each is a theorem that computes.
use Rattle.std.specs.Prelude.{◌≡◌, ℕ, pos, Bool, true, false, List, [], ◌∷◌, map, Option, Some, None, refl}
use Rattle.history_model.specs.declared.Ended.TheVariants.{Code}
use Rattle.history_model.specs.declared.Act.TheVariants.{Spawn, Term}
use Rattle.history_model.specs.declared.Obs.{Obs}
use Rattle.history_model.specs.declared.CivilMinute.{CivilMinute}
use Rattle.history_model.specs.declared.Answer.TheVariants.{Spawned, SpawnRefused}
use Rattle.history_model.specs.declared.Ask.TheVariants.{Start, Unload, Kickstart}
use Rattle.history_model.specs.declared.reasons.Wants.{Wants}
use Rattle.history_model.specs.declared.reasons.Reasons.{Reasons}
use Rattle.history_model.specs.Items.{Definition, Item, Loaded, Read, Saw, Asked, Came, Answered, RunEnded, History}
use Rattle.history_model.specs.declared.reasons.DemandKind.{DemandKind}
use Rattle.history_model.specs.declared.reasons.DemandKind.TheVariants as kinds
use Rattle.history_model.specs.Demands.{latest_demand}
use Rattle.history_model.specs.NextRun.{spawns_after}
use Rattle.history_model.specs.Clock.{no_definition}
use Rattle.history_model.specs.Refusals.{refusal_of}
use Rattle.history_model.specs.Reasons.{reasons_of, some_reason, waits_alone, standing_child, path_that_holds}
use Rattle.history_model.proofs.ExampleWords.{read_at, at_load}
use Rattle.history_model.proofs.ThrottleExamples.{behind}

-- ---- words of the examples

-- the past after these events, oldest first, each with the order that is then due
abbrev pub past_by : List Item → History → History
past_by [] t = t
past_by (x ∷ xs) t = past_by xs (behind (refusal_of x t) x t)

-- why nothing is ordered after these events
abbrev pub why : List Item → Reasons
why xs = reasons_of (past_by xs [])

-- nothing wants the job
abbrev pub no_wants : Wants
no_wants = record { demand = false; connections = 0; keep_alive = false; successful_exit = false; crashed = false; path_state = false; queue_directories = false }

-- no reason but that nothing wants the job
abbrev pub unwanted : Reasons
unwanted = record { is_removing = false; child = None; awaited = None; wants = no_wants; throttled_until = None; is_launch_spent = false; are_runs_spent = false }

-- a job that is kept alive
abbrev pub kept_alive : Definition
kept_alive = record no_definition { keep_alive = true }

-- ---- the examples

-- nothing wants a job without demands
pub idle : why (Loaded no_definition (read_at 0) ∷ []) ≡ unwanted
idle = refl

-- the answer to the spawn is awaited; the throttle runs from the order
pub spawning : why (Loaded at_load (read_at 0) ∷ [])
    ≡ record unwanted { awaited = Some (Spawn 1 None); wants = record no_wants { demand = true }; throttled_until = Some 10000 }
spawning = refl

-- a child, a throttle, and nothing that wants another run
pub running : why (Loaded at_load (read_at 0) ∷ Answered (Spawned 1 812) ∷ Read (read_at 4000) false ∷ [])
    ≡ record unwanted { child = Some (standing_child false false (record { run = 1; pid = 812 })); throttled_until = Some 10000 }
running = refl

-- a job that is kept alive, and whose run ended early, waits for its throttle alone
pub throttled : why (Loaded kept_alive (read_at 0) ∷ Answered (Spawned 1 812) ∷ Read (read_at 4000) false ∷ RunEnded 1 (Code 0) ∷ [])
    ≡ record unwanted { wants = record no_wants { keep_alive = true }; throttled_until = Some 10000 }
throttled = refl

pub throttled_alone : waits_alone (why (Loaded kept_alive (read_at 0) ∷ Answered (Spawned 1 812) ∷ Read (read_at 4000) false ∷ RunEnded 1 (Code 0) ∷ [])) ≡ true
throttled_alone = refl

-- of a refused spawn the order counts if that wait is longer, and the refusal if that one is
pub refused : why (Loaded at_load (read_at 0) ∷ Read (read_at 4000) false ∷ Answered (SpawnRefused 1) ∷ [])
    ≡ record unwanted { wants = record no_wants { demand = true }; throttled_until = Some 10000 }
refused = refl

pub refused_late : why (Loaded at_load (read_at 0) ∷ Read (read_at 9500) false ∷ Answered (SpawnRefused 1) ∷ [])
    ≡ record unwanted { wants = record no_wants { demand = true }; throttled_until = Some 10500 }
refused_late = refl

-- all that holds is reported: the job is being removed, its child is stopped, the answer to TERM is awaited, nothing wants it, it is
-- throttled, and it may run once only; a kickstart -k after the unload is refused, and so no reason
pub all_at_once : why (
    Loaded (record at_load { launch_only_once = true }) (read_at 0) ∷ Answered (Spawned 1 7) ∷ Read (read_at 4000) false ∷ Asked (Kickstart false)
    ∷ Asked Unload ∷ Asked (Kickstart true) ∷ []
    )
    ≡ record unwanted {
      is_removing = true;
      child = Some (standing_child true false (record { run = 1; pid = 7 }));
      awaited = Some (Term 1);
      throttled_until = Some 10000;
      is_launch_spent = true;
    }
all_at_once = refl

-- a job that may run once and did
pub spent : why (
    Loaded (record at_load { launch_only_once = true }) (read_at 0) ∷ Answered (Spawned 1 7) ∷ RunEnded 1 (Code 0) ∷ Read (read_at 60000) false
    ∷ Asked Start ∷ []
    )
    ≡ record unwanted { wants = record no_wants { demand = true }; is_launch_spent = true }
spent = refl

-- what wants it is reported each for itself: two waiting connections and a condition on the last end
pub wants : (why (
    Loaded (record no_definition { has_sockets = true; successful_exit = Some true }) (read_at 0) ∷ Answered (Spawned 1 7) ∷ Came 1 ∷ Came 2
    ∷ RunEnded 1 (Code 0) ∷ []
    )).wants
    ≡ record no_wants { connections = 2; successful_exit = true }
wants = refl

-- ---- what made the demand

-- the kind of the pending demand after these events
abbrev pub demand : List Item → Option DemandKind
demand xs = latest_demand (past_by xs [])

-- a load, whose spawn succeeds: then none is pending
pub by_load : demand (Loaded at_load (read_at 0) ∷ []) ≡ Some kinds.Load
by_load = refl

pub followed : demand (Loaded at_load (read_at 0) ∷ Answered (Spawned 1 7) ∷ []) ≡ None
followed = refl

-- a refused spawn leaves the demand, and the newest demand is reported
pub refused_keeps : demand (Loaded at_load (read_at 0) ∷ Answered (SpawnRefused 1) ∷ []) ≡ Some kinds.Load
refused_keeps = refl

pub newest : demand (Loaded at_load (read_at 0) ∷ Answered (SpawnRefused 1) ∷ Asked Start ∷ []) ≡ Some kinds.Start
newest = refl

-- a start of a job that runs makes none; a kickstart -k does, and so does a calendar entry while it runs
pub while_running : demand (Loaded at_load (read_at 0) ∷ Answered (Spawned 1 7) ∷ Asked Start ∷ []) ≡ None
while_running = refl

pub struck : demand (Loaded at_load (read_at 0) ∷ Answered (Spawned 1 7) ∷ Asked (Kickstart true) ∷ []) ≡ Some kinds.Kickstart
struck = refl

pub by_calendar : demand (Loaded at_load (read_at 0) ∷ Answered (Spawned 1 7) ∷ Read (read_at 4000) true ∷ []) ≡ Some kinds.Calendar
by_calendar = refl

-- an interval of 5 seconds is crossed; with a calendar entry at the same reading the calendar is reported
pub by_interval : demand (Loaded (record at_load { start_interval = Some 5 }) (read_at 0) ∷ Answered (Spawned 1 7) ∷ Read (read_at 6000) false ∷ []) ≡ Some kinds.Interval
by_interval = refl

pub by_both : demand (Loaded (record at_load { start_interval = Some 5 }) (read_at 0) ∷ Answered (Spawned 1 7) ∷ Read (read_at 6000) true ∷ []) ≡ Some kinds.Calendar
by_both = refl

-- a demand that came between the order of a spawn and its answer stays, and the one before it goes
pub after_the_order : demand (Loaded at_load (read_at 0) ∷ Read (read_at 4000) true ∷ Answered (Spawned 1 7) ∷ []) ≡ Some kinds.Calendar
after_the_order = refl

-- the second look at a watched path differs in its stamp
pub by_path : demand (
    Loaded (record no_definition { watch_paths = (47 ∷ []) ∷ [] }) (read_at 0) ∷ Asked Start ∷ Answered (Spawned 1 7)
    ∷ Saw (47 ∷ []) (record { present = true; nonempty_dir = false; stamp = 1 }) ∷ Saw (47 ∷ []) (record { present = true; nonempty_dir = false; stamp = 2 }) ∷ []
    )
    ≡ Some kinds.Path
by_path = refl

-- ---- which path holds it wanted

-- two paths of PathState, the first to be absent and the second to be there, and a queue directory
abbrev pub of_paths : Definition
of_paths = record no_definition { path_state = record { path = 97 ∷ []; present = false } ∷ record { path = 98 ∷ []; present = true } ∷ []; queue_directories = (99 ∷ []) ∷ [] }

-- something is there, and it is not empty
abbrev pub full : Obs
full = record { present = true; nonempty_dir = true; stamp = 1 }

-- the path that holds it after these looks
abbrev pub holds_after : List (List ℕ) → Option (List ℕ)
holds_after looks = path_that_holds (past_by (Loaded of_paths (read_at 0) ∷ map (λ path. Saw path full) looks) [])

-- before any look none holds; the first is there, and so does not hold
pub none_seen : holds_after [] ≡ None
none_seen = refl

pub wrongly_there : holds_after ((97 ∷ []) ∷ []) ≡ None
wrongly_there = refl

-- a queue directory; and a path of PathState before it, though it was seen later
pub by_queue : holds_after ((97 ∷ []) ∷ (99 ∷ []) ∷ []) ≡ Some (99 ∷ [])
by_queue = refl

pub state_first : holds_after ((99 ∷ []) ∷ (98 ∷ []) ∷ []) ≡ Some (98 ∷ [])
state_first = refl

-- ---- how many seconds until it runs

-- a job whose throttle ends 10 seconds after its spawn is wanted again at second 4: it runs 6 seconds later
abbrev pub any_minute : CivilMinute
any_minute = record { year = pos 2023; month = 11; day = 14; hour = 22; minute = 13; weekday = 2 }

abbrev pub soon : History
soon = past_by (Loaded kept_alive (read_at 0) ∷ Answered (Spawned 1 812) ∷ Read (read_at 4000) false ∷ RunEnded 1 (Code 0) ∷ []) []

pub too_soon : spawns_after (λ second. any_minute) soon 5 ≡ false
too_soon = refl

pub in_time : spawns_after (λ second. any_minute) soon 6 ≡ true
in_time = refl
