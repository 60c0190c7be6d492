use Rattle.std.proofs.Common.{◌++◌, ◌∷◌, []}
use Rattle.run_times.proofs.GrowingLemmas.{adds, adds_on}
use Rattle.scope.specs.Fronts.{front_of}
use Rattle.scope.proofs.texts.cause_lines.add_line.Goals as goal

pub returns : goal.returns
returns c =
    let a = c.args.page.now.writer in
    let b = c.put_front.new.writer in
    let d = c.add_end.new.page.writer in
    let e = c.put.new.self in
    let (more, grown) = c.add_end.ensures in
    (more, adds_on (front_of c.args.cause) (more ++ 10 ∷ []) a b e c.put_front.ensures (adds_on more (10 ∷ []) b d e grown (adds (10 ∷ []) d e c.put.ensures.added c.put.ensures.kept)))
