-- What stays true in the loop of `put_each_bind`.
use Rattle.std.proofs.Common.{take}
use Rattle.std.specs.List.{flat_map}
use Rattle.status_file.specs.Tokens.{bind_tokens}
use Rattle.status_file.specs.Lines.{Puts}
use Rattle.status_file.proofs.write.put_each_bind.Given as goal

abbrev pub invariant-loop-bind : goal.invariant-loop-bind
invariant-loop-bind l = Puts (flat_map bind_tokens (take l.bind-index l.binds)) l.fn.line l.line
