use Rattle.std.proofs.Common.{codes}
use Rattle.run_times.proofs.GrowingLemmas.{adds, adds_on}
use Rattle.json_lines.proofs.put_line.Goals as goal

pub returns : goal.returns
returns c =
    let a = c.args.page.now.writer in
    let b = c.put_object.new.page.writer in
    let d = c.put.new.self in
    let (text, is, added) = c.put_object.ensures in
    (text, is, adds_on text (codes "\n") a b d added (adds (codes "\n") b d c.put.ensures.added c.put.ensures.kept))
