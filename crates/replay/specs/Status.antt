-- The exit status of a replay.
use Rattle.std.specs.Prelude.{ℕ, Result, Ok, Err}
use Rattle.replay_loop.specs.declared.fault.ReplayFault.{ReplayFault}
use Rattle.replay_loop.specs.declared.fault.ReplayFault.TheVariants.{NoMemory, Header, Read, Write, TooLong, ReadCount}

-- 0, or the number of the fault; faults of reading and writing share one
abbrev pub exit_status : Result (Unit {0}) ReplayFault → ℕ
exit_status (Ok done) = 0
exit_status (Err NoMemory) = 1
exit_status (Err Header) = 2
exit_status (Err Read) = 3
exit_status (Err Write) = 3
exit_status (Err ReadCount) = 3
exit_status (Err TooLong) = 4
