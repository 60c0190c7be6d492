use Rattle.std.proofs.Common.{[], refl}
use Rattle.run_times.proofs.GrowingLemmas.{adds_none}
use Rattle.status_page.proofs.RowsLemmas.{told_more, told_all}
use Rattle.status_page.proofs.table.add_lines.Goals as goal

pub loop-row-init : goal.loop-row-init
loop-row-init c = ([], refl, adds_none c.args.writer.now)

pub loop-row-preserved : goal.loop-row-preserved
loop-row-preserved c = told_more c.loop-row.row-index c.args.rows.now _ c.args.writer.now c.loop-row.writer c.add_line.new.writer c.loop-row-test.true c.loop-row.invariant c.add_line.ensures

pub returns : goal.returns
returns c = told_all c.args.rows.now c.loop-row.row-index c.args.writer.now c.loop-row.writer c.loop-row-test.false c.loop-row.invariant
