-- Worked rows of which runs failed, and of how long a failure lasts.
use Rattle.std.proofs.Common.{◌≡◌, true, false, refl, Some}
use Rattle.history_model.specs.declared.Ended.TheVariants.{Code, Signal}
use Rattle.run_log.specs.Search.{is_failure}
use Rattle.status_page.specs.Failing.{has_recovered, is_refused_last, recovery_time}

-- A run that exited with code 1 failed. One that the launcher ended did not. A KILL of the kernel is a failure, and so is a crash after TERM was ordered.
failed : is_failure false (Code 1) ≡ true
failed = refl

well : is_failure false (Code 0) ≡ false
well = refl

stopped : is_failure true (Signal 15) ≡ false
stopped = refl

killed : is_failure false (Signal 9) ≡ true
killed = refl

crashed : is_failure true (Signal 11) ≡ true
crashed = refl

-- with a ThrottleInterval of 10 a failure is over after 100 s, with one of 1 after a minute
after_ten : recovery_time 10 ≡ 100000
after_ten = refl

after_one : recovery_time 1 ≡ 60000
after_one = refl

-- a run that began at 5 s has been running for a minute at 65 s, and not before
not_yet : has_recovered (Some 5000) 1 64999 ≡ false
not_yet = refl

by_then : has_recovered (Some 5000) 1 65000 ≡ true
by_then = refl

-- run 3 was refused, and run 2 ended last; then run 4 ended
still_refused : is_refused_last (Some 3) (Some 2) false ≡ true
still_refused = refl

no_longer : is_refused_last (Some 3) (Some 4) false ≡ false
no_longer = refl
