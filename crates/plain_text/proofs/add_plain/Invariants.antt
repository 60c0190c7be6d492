use Rattle.std.proofs.Common.{string_bytes, ◌≡◌, ◌++◌}
use Rattle.plain_text.specs.Plain.{plain_text}
use Rattle.plain_text.proofs.add_plain.Given as goal

abbrev pub invariant-loop-c : goal.invariant-loop-c
invariant-loop-c l =
    string_bytes l.to ≡ string_bytes l.fn.to ++ plain_text l.yielded
