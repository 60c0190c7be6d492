-- The names of both files.
use Rattle.std.proofs.Common.{◌≡◌, ℕ, List, Result, Ok, Err, IfOk, IsOkAnd, String, string_bytes, ap, ◌∙◌}
use Rattle.std.specs.declared.alloc.Global.{Global}
use Rattle.child_edge.proofs.spool.Spooled.make.Goals as goal

named : {E : Type 0} (name : Result (String Global) E) (path : String Global) (bytes : List ℕ) → IfOk name (λ name. string_bytes name ≡ bytes) → IsOkAnd name (λ name. path ≡ name) → string_bytes path ≡ bytes
named (Ok name) path bytes is same = ap string_bytes same ∙ is
named (Err fault) path bytes is same = absurd same

pub returns-in-Ok-make : goal.returns-in-Ok-make
returns-in-Ok-make g c = record {
  request = named c.name_of.result c.in-Ok.request.path _ c.name_of.ensures c.in-Ok.ensures;
  reply = named c.name_of-2.result c.in-Ok-make.reply.path _ c.name_of-2.ensures c.in-Ok-make.ensures;
}
