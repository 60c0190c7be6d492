-- The rows so far have their lines.
use Rattle.std.proofs.Common.{take}
use Rattle.status_page.specs.Rows.{TellsRows}
use Rattle.status_page.proofs.table.add_lines.Given as goal

abbrev pub invariant-loop-row : goal.invariant-loop-row
invariant-loop-row l = TellsRows (take l.row-index l.rows) l.fn.writer l.writer
