-- Worked examples of one job: which ends are crashes, and which are successes (launchd.plist(5): KeepAlive with Crashed and
-- SuccessfulExit; signal(7) for the numbers). Each is a theorem that computes.
use Rattle.std.specs.Prelude.{◌≡◌, true, false, List, [], ◌∷◌, map, replicate, Option, Some, None, Result, refl}
use Rattle.history_model.specs.declared.Ended.{Ended}
use Rattle.history_model.specs.declared.Ended.TheVariants.{Code, Signal}
use Rattle.history_model.specs.declared.Act.{Act}
use Rattle.history_model.specs.declared.Act.TheVariants.{Spawn, Term, Kill}
use Rattle.history_model.specs.declared.Refusal.{Refusal}
use Rattle.history_model.specs.Items.{Definition, Ordered}
use Rattle.history_model.specs.Clock.{no_definition}
use Rattle.history_model.specs.Levels.{is_crash}
use Rattle.history_model.proofs.ThrottleExamples.{play, none, gives, load, read, spawned, ended}

-- the answers of a job whose first run ends so, up to the end of its throttle
abbrev pub after : Definition → Ended → List (Result (Option Act) Refusal)
after d how = play (load d ∷ spawned 1 ∷ ended 1 how ∷ read 10000 ∷ [])

-- the job is started again
abbrev pub again : List (Result (Option Act) Refusal)
again = gives (Spawn 1 None) ∷ none ∷ none ∷ gives (Spawn 2 None) ∷ []

-- the job is not started again
abbrev pub over : List (Result (Option Act) Refusal)
over = gives (Spawn 1 None) ∷ none ∷ none ∷ none ∷ []

-- ---- Crashed

-- a job that is kept alive after a crash
abbrev pub if_crashed : Definition
if_crashed = record no_definition { run_at_load = true; crashed = Some true }

-- a job that is kept alive unless it crashed
abbrev pub if_not_crashed : Definition
if_not_crashed = record no_definition { run_at_load = true; crashed = Some false }

-- QUIT, ILL, TRAP, ABRT, BUS, FPE, SEGV and SYS are crashes
pub crash_signals : map (λ n. after if_crashed (Signal n)) (3 ∷ 4 ∷ 5 ∷ 6 ∷ 7 ∷ 8 ∷ 11 ∷ 31 ∷ []) ≡ replicate 8 again
crash_signals = refl

-- HUP, INT, KILL, USR1, USR2, PIPE, ALRM, TERM, PWR and the first real-time signal are none
pub other_signals : map (λ n. after if_crashed (Signal n)) (1 ∷ 2 ∷ 9 ∷ 10 ∷ 12 ∷ 13 ∷ 14 ∷ 15 ∷ 30 ∷ 32 ∷ []) ≡ replicate 10 over
other_signals = refl

-- no code is a crash, whatever its number
pub codes_are_no_crash : map (λ n. after if_crashed (Code n)) (0 ∷ 1 ∷ 3 ∷ 11 ∷ 139 ∷ []) ≡ replicate 5 over
codes_are_no_crash = refl

-- the converse
pub unless_crash_signals : map (λ n. after if_not_crashed (Signal n)) (3 ∷ 4 ∷ 5 ∷ 6 ∷ 7 ∷ 8 ∷ 11 ∷ 31 ∷ []) ≡ replicate 8 over
unless_crash_signals = refl

-- KILL, TERM and any code are not crashes
pub unless_others : after if_not_crashed (Signal 9) ∷ after if_not_crashed (Signal 15) ∷ after if_not_crashed (Code 0) ∷ after if_not_crashed (Code 3) ∷ []
    ≡ replicate 4 again
unless_others = refl

-- an unknown signal is a crash if nobody ordered TERM or KILL for that run
pub unknown_signals : is_crash [] 1 (Signal 0) ∷ is_crash (Ordered (Term 1) ∷ []) 1 (Signal 0) ∷ is_crash (Ordered (Kill 1) ∷ []) 1 (Signal 0)
    ∷ is_crash (Ordered (Kill 1) ∷ []) 2 (Signal 0) ∷ is_crash (Ordered (Spawn 1 None) ∷ []) 1 (Signal 0) ∷ []
    ≡ true ∷ false ∷ false ∷ true ∷ true ∷ []
unknown_signals = refl

-- a known one is a crash also if one was ordered
pub known_signals : is_crash (Ordered (Term 1) ∷ []) 1 (Signal 11) ∷ is_crash (Ordered (Kill 1) ∷ []) 1 (Signal 9) ∷ [] ≡ true ∷ false ∷ []
known_signals = refl

-- ---- SuccessfulExit

-- a job that is kept alive after a success
abbrev pub if_successful : Definition
if_successful = record no_definition { successful_exit = Some true }

-- a job that is kept alive unless it succeeded
abbrev pub if_not_successful : Definition
if_not_successful = record no_definition { successful_exit = Some false }

-- the code 0 is a success, and nothing else is
pub successes : after if_successful (Code 0) ∷ map (after if_successful) (Code 1 ∷ Code 255 ∷ Signal 0 ∷ Signal 9 ∷ Signal 11 ∷ Signal 15 ∷ [])
    ≡ again ∷ replicate 6 over
successes = refl

-- the converse
pub failures : after if_not_successful (Code 0) ∷ map (after if_not_successful) (Code 1 ∷ Code 255 ∷ Signal 0 ∷ Signal 9 ∷ Signal 11 ∷ Signal 15 ∷ [])
    ≡ over ∷ replicate 6 again
failures = refl

-- of both conditions one suffices
pub either : after (record if_crashed { successful_exit = Some true }) (Signal 11) ∷ after (record if_crashed { successful_exit = Some true }) (Code 0)
    ∷ after (record if_crashed { successful_exit = Some true }) (Code 1) ∷ []
    ≡ again ∷ again ∷ over ∷ []
either = refl

-- ---- before any end

-- no condition on ends holds, whichever way it is put
pub before_any_end : play (load (record no_definition { crashed = Some false }) ∷ read 10000 ∷ []) ∷ play (load (record no_definition { crashed = Some true }) ∷ read 10000 ∷ []) ∷ []
    ≡ (none ∷ none ∷ []) ∷ (none ∷ none ∷ []) ∷ []
before_any_end = refl
