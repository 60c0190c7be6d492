-- How what happened is searched, and what an item is.
use Rattle.std.specs.Prelude.{ℕ, ◌==◌, ◌||◌, ◌&&◌, Bool, true, false, not, nat_lt, List, [], ◌∷◌, length, min, Option, Some, None, is_some, if◌then◌else◌}
use Rattle.history_model.specs.declared.Reading.{Reading}
use Rattle.history_model.specs.declared.Ended.{Ended}
use Rattle.history_model.specs.declared.Ended.TheVariants.{Code, Signal}
use Rattle.history_model.specs.Search.{or_else, first, last}
use Rattle.run_log.specs.declared.facts.RunItem.{RunItem}
use Rattle.run_log.specs.declared.facts.RunItem.TheVariants.{Ordered, Begun, Refused, Termed, Killed, Exited}
use Rattle.run_log.specs.Told.{Told}

-- ---- what an item is

-- the start of a run was ordered
abbrev pub is_order : RunItem → Bool
is_order (Ordered run) = true
is_order _ = false

-- the system started it
abbrev pub is_begin : RunItem → Bool
is_begin Begun = true
is_begin _ = false

-- the system refused to start it
abbrev pub is_refusal : RunItem → Bool
is_refusal (Refused run reason) = true
is_refusal _ = false

-- TERM, or KILL, was ordered
abbrev pub is_term : RunItem → Bool
is_term Termed = true
is_term _ = false

abbrev pub is_kill : RunItem → Bool
is_kill Killed = true
is_kill _ = false

-- a run exited
abbrev pub is_exit : RunItem → Bool
is_exit (Exited run how) = true
is_exit _ = false

-- it is exit code 0
abbrev pub is_success_end : Ended → Bool
is_success_end (Code code) = code == 0
is_success_end (Signal signal) = false

-- a run exited with code 0
abbrev pub is_success : RunItem → Bool
is_success (Exited run how) = is_success_end how
is_success _ = false

-- from then on the job is as it is: a run began, was refused or exited
abbrev pub is_change : RunItem → Bool
is_change Begun = true
is_change (Refused run reason) = true
is_change (Exited run how) = true
is_change _ = false

-- the number of the run whose start was ordered
abbrev pub ordered_run : RunItem → Option ℕ
ordered_run (Ordered run) = Some run
ordered_run _ = None

-- what the system answered to a start: whether it refused it
abbrev pub refuses : RunItem → Option Bool
refuses Begun = Some false
refuses (Refused run reason) = Some true
refuses _ = None

-- ---- searches

-- the clock readings of the items that pass, newest first
abbrev pub readings : (RunItem → Bool) → List Told → List Reading
readings passes [] = []
readings passes ((item, at) ∷ past) =
    if passes item then at ∷ readings passes past else readings passes past

-- what the newest item that says something says
abbrev pub latest : {A : Type 0} → (RunItem → Option A) → List Told → Option A
latest says [] = None
latest says ((item, at) ∷ past) = or_else (says item) (latest says past)

-- what came after the newest item that passes, or everything
abbrev pub after : (RunItem → Bool) → List Told → List Told
after passes [] = []
after passes ((item, at) ∷ past) = if passes item then [] else (item, at) ∷ after passes past

-- the newest item that passes, with what came before it
abbrev pub from : (RunItem → Bool) → List Told → List Told
from passes [] = []
from passes ((item, at) ∷ past) = if passes item then (item, at) ∷ past else from passes past

-- how many pass, as far as a number of 64 bits goes
abbrev pub count : (RunItem → Bool) → List Told → ℕ
count passes past = min (length (readings passes past)) 18446744073709551615

-- ---- which runs failed

-- the launcher gave this signal: TERM (15) or KILL (9), or an unknown one (0), to a run that it ordered to end
abbrev pub is_given : Bool → ℕ → Bool
is_given ordered signal = ordered && (signal == 0 || (signal == 9 || signal == 15))

-- a run that ended so failed: it exited with a code above 0, or by a signal that the launcher did not give
abbrev pub is_failure : Bool → Ended → Bool
is_failure ordered (Code code) = nat_lt 0 code
is_failure ordered (Signal signal) = not (is_given ordered signal)

-- TERM or KILL was ordered since the last start was ordered
abbrev pub is_ordered_to_end : List Told → Bool
is_ordered_to_end past =
    is_some (last (readings is_term (after is_order past))) || is_some (first (readings is_kill (after is_order past)))

-- the item is the exit of a run that failed, after what came before it
abbrev pub is_failed_run : RunItem → List Told → Bool
is_failed_run (Exited run how) before = is_failure (is_ordered_to_end before) how
is_failed_run _ before = false

-- when a run failed, newest first
abbrev pub failed_runs : List Told → List Reading
failed_runs [] = []
failed_runs ((item, at) ∷ past) = if is_failed_run item past then at ∷ failed_runs past else failed_runs past
