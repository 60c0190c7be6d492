use Rattle.std.proofs.Common.{◌++◌, codes, subst}
use Rattle.std.specs.Fmt.{decimal}
use Rattle.run_times.specs.Written.{Adds}
use Rattle.run_times.proofs.GrowingLemmas.{adds_on}
use Rattle.scope.proofs.texts.fronts.put_child.Goals as goal

pub returns : goal.returns
returns c =
    let a = c.args.writer.now in
    let b = c.put_numbered.new.writer in
    let d = c.put_numbered-2.new.writer in
    adds_on (codes "  Run " ++ decimal c.args.child.run) (codes " is running, PID " ++ decimal c.args.child.pid) a b d c.put_numbered.ensures
    (subst (λ n. Adds (codes " is running, PID " ++ decimal n) b d) c.from.ensures c.put_numbered-2.ensures)
