use Rattle.std.proofs.Common.{take}
use Rattle.std.specs.List.{flat_map}
use Rattle.run_times.specs.Written.{Adds}
use Rattle.json_lines.specs.Objects.{more_text}
use Rattle.json_lines.proofs.put_more.Given as goal

abbrev pub invariant-loop-text : goal.invariant-loop-text
invariant-loop-text l = Adds (flat_map more_text (take l.text-index l.texts)) l.fn.writer l.writer
