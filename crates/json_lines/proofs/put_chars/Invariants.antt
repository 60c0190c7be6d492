use Rattle.std.specs.List.{flat_map}
use Rattle.run_times.specs.Written.{Adds}
use Rattle.json_lines.specs.Objects.{text_char}
use Rattle.json_lines.proofs.put_chars.Given as goal

abbrev pub invariant-loop-c : goal.invariant-loop-c
invariant-loop-c l = Adds (flat_map text_char l.yielded) l.fn.writer l.writer
