-- The fields so far have their members.
use Rattle.std.proofs.Common.{take}
use Rattle.json_lines.specs.Objects.{TellsMembers}
use Rattle.json_lines.proofs.put_members.Given as goal

abbrev pub invariant-loop-field : goal.invariant-loop-field
invariant-loop-field l = TellsMembers (take l.field-index l.fields) l.fn.page.writer l.page.writer
