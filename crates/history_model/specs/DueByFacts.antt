-- No definition but a tie: what `due` and `refusal_of` (specs/Due, specs/Refusals) search out of a past, computed from its facts
-- alone. On every lawful past the two agree (proofs/ByFactsLemmas). Of public clauses only `step` of `pace::Throttle::free_at`
-- and of `pace::Ending::{term_at, kill_at}` (`is_newest_within`) and `step` of `conditions::Conditions::holds` (`any_seen`) cite
-- it, each together with `past`, which speaks of the past.
use Rattle.std.specs.Prelude.{ℕ, ◌+◌, ◌*◌, ◌^◌, Bool, false, not, ◌&&◌, ◌||◌, nat_lt, List, [], ◌∷◌, length, Option, Some, None, is_some, if◌then◌else◌, ◌==◌}
use Rattle.std.specs.List.{list_any}
use Rattle.history_model.specs.declared.TheConstants.{MAX_CONNECTIONS, SECOND}
use Rattle.history_model.specs.declared.Reading.{Reading}
use Rattle.history_model.specs.declared.Obs.{Obs}
use Rattle.history_model.specs.declared.Ended.{Ended}
use Rattle.history_model.specs.declared.Act.{Act}
use Rattle.history_model.specs.declared.Act.TheVariants.{Spawn, Term, Kill}
use Rattle.history_model.specs.declared.Ask.TheVariants.{Start, Stop, Unload, Shutdown, Kickstart}
use Rattle.history_model.specs.declared.Refusal.{Refusal}
use Rattle.history_model.specs.declared.Refusal.TheVariants.{Removing, NotRunning, TooManyConnections, Stale, ClockRefused}
use Rattle.history_model.specs.Items.{Definition, Item, Loaded, Read, Saw, Asked, Came, Left, Ordered, Answered, RunEnded, WaitRefused}
use Rattle.history_model.specs.Search.{first}
use Rattle.history_model.specs.Kinds.{is_some_spawn}
use Rattle.history_model.specs.Levels.{end_holds_of, presence_holds, queue_holds}
use Rattle.history_model.specs.Due.{is_within, is_over}
use Rattle.history_model.specs.Refusals.{unless, is_clock_refused, is_awaited_answer, is_child, is_number_used}
use Rattle.history_model.specs.Facts.{Facts}
use Rattle.history_model.specs.declared.Child.{Child}
use Rattle.history_model.specs.declared.LastEnd.{LastEnd}

-- `is_busy`
abbrev pub is_busy_by : Facts → Bool
is_busy_by f = is_some f.living_child || is_some_spawn f.awaited_act

-- `up` is less than the wait after the newest moment, if there is one
abbrev pub is_newest_within : ℕ → ℕ → Option ℕ → Bool
is_newest_within wait up None = false
is_newest_within wait up (Some moment) = is_within wait up moment

-- `is_throttled`: of moments that rise the newest decides
abbrev pub is_throttled_by : Facts → ℕ → Bool
is_throttled_by f up =
    is_newest_within (SECOND * f.definition.throttle_interval) up f.spawn_ordered
    || is_newest_within SECOND up f.spawn_refused

-- it holds of some of the conditions, and of what was seen last of its path
abbrev pub any_seen : {A : Type 0} → (A → Option Obs → Bool) → List A → List (Option Obs) → Bool
any_seen holds [] seen = false
any_seen holds (x ∷ xs) [] = false
any_seen holds (x ∷ xs) (obs ∷ seen) = holds x obs || any_seen holds xs seen

-- the first of the conditions that holds of what was seen last of its path
abbrev pub first_seen : {A : Type 0} → (A → Option Obs → Bool) → List A → List (Option Obs) →
    Option A
first_seen holds [] seen = None
first_seen holds (x ∷ xs) [] = None
first_seen holds (x ∷ xs) (obs ∷ seen) =
    if holds x obs then Some x else first_seen holds xs seen

-- `end_holds`: a condition of the definition holds of the last end
abbrev pub end_holds_by : Definition → Bool → Option LastEnd → Bool
end_holds_by d has_crashed end = end_holds_of d.successful_exit d.crashed has_crashed end

-- `level_holds`
abbrev pub level_by : Facts → Bool
level_by f =
    f.definition.keep_alive || end_holds_by f.definition f.has_crashed f.ended
    || any_seen (λ state. presence_holds state.present) f.definition.path_state f.seen_states
    || any_seen (λ path. queue_holds) f.definition.queue_directories f.seen_queues

-- `is_wanted`
abbrev pub is_wanted_by : Facts → Bool
is_wanted_by f = f.has_demand || is_some (first f.queue) || level_by f

-- `may_spawn`
abbrev pub may_spawn_by : Facts → ℕ → Bool
may_spawn_by f up =
    not f.is_removing && is_wanted_by f && not (is_throttled_by f up)
    && not (f.definition.launch_only_once && f.spawned_before)
    && nat_lt f.run_count (2 ^ 63)

-- `may_kill`, of the present run
abbrev pub may_kill_by : Facts → ℕ → Bool
may_kill_by f up =
    (f.is_struck || (f.is_stopping && nat_lt 0 f.definition.exit_timeout
    && is_over (SECOND * f.definition.exit_timeout) up f.term_ordered))
    && (not f.is_kill_done && not (is_newest_within SECOND up f.kill_refused))

-- `may_term`, of the present run
abbrev pub may_term_by : Facts → ℕ → Bool
may_term_by f up =
    not f.is_struck && f.is_stopping && not f.is_kill_done
    && (not f.is_term_done && not (is_newest_within SECOND up f.term_refused))

-- `due_beside`
abbrev pub due_beside_by : Option Child → Facts → ℕ → Option Act
due_beside_by None f up =
    if may_spawn_by f up then Some (Spawn (f.run_count + 1) (first f.queue)) else None
due_beside_by (Some c) f up =
    if may_kill_by f up then Some (Kill c.run) else if may_term_by f up then Some (Term c.run) else None

-- `due`
abbrev pub due_by : Facts → ℕ → Option Act
due_by f up = if is_some f.awaited_act then None else due_beside_by f.living_child f up

-- `refusal_of`
abbrev pub refusal_by : Item → Reading → Facts → Option Refusal
refusal_by (Loaded d at) now f = None
refusal_by (Read at calendar) now f = unless (not (is_clock_refused now at)) ClockRefused
refusal_by (Saw path obs) now f = None
refusal_by (Asked Start) now f = unless (not f.is_removing) Removing
refusal_by (Asked Stop) now f =
    if f.is_removing then Some Removing else unless (is_busy_by f) NotRunning
refusal_by (Asked Unload) now f = unless (not f.is_removing) Removing
refusal_by (Asked Shutdown) now f = None
refusal_by (Asked (Kickstart kills_first)) now f = unless (not f.is_removing) Removing
refusal_by (Came conn) now f =
    if f.is_removing then Some Removing
    else if not f.definition.has_sockets || is_number_used f.last_number conn then Some Stale
    else unless (nat_lt (length f.queue) MAX_CONNECTIONS) TooManyConnections
refusal_by (Left conn) now f = unless (list_any (λ c. c == conn) f.queue) Stale
refusal_by (Ordered act) now f = None
refusal_by (Answered answer) now f = unless (is_awaited_answer f.awaited_act answer) Stale
refusal_by (RunEnded run how) now f = unless (is_child f.living_child run) Stale
refusal_by (WaitRefused run) now f = unless (is_child f.living_child run) Stale
