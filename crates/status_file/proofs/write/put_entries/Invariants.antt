-- What stays true in the loop of `put_entries`.
use Rattle.std.proofs.Common.{take}
use Rattle.std.specs.List.{flat_map}
use Rattle.status_file.specs.Tokens.{entry_tokens}
use Rattle.status_file.specs.Lines.{Puts}
use Rattle.status_file.proofs.write.put_entries.Given as goal

abbrev pub invariant-loop-entry : goal.invariant-loop-entry
invariant-loop-entry l = Puts (flat_map entry_tokens (take l.entry-index l.calendar)) l.fn.line l.line
