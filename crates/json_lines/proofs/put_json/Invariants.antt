use Rattle.std.specs.List.{flat_map}
use Rattle.run_times.specs.Written.{Adds}
use Rattle.json_lines.specs.Objects.{json_char}
use Rattle.json_lines.proofs.put_json.Given as goal

abbrev pub invariant-loop-c : goal.invariant-loop-c
invariant-loop-c l = Adds (flat_map json_char l.yielded) l.fn.writer l.writer
