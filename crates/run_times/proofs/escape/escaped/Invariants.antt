use Rattle.std.proofs.Common.{string_bytes, ◌≡◌}
use Rattle.run_times.specs.Escape.{escaped_text}
use Rattle.run_times.proofs.escape.escaped.Given as goal

abbrev pub invariant-loop-c : goal.invariant-loop-c
invariant-loop-c l =
    string_bytes l.written ≡ escaped_text l.yielded
