use Rattle.std.proofs.Common.{sym, subst}
use Rattle.scope.specs.CauseObjects.{TellsCauses}
use Rattle.scope.proofs.ObjectsLemmas.{told_first}
use Rattle.scope.proofs.objects.causes.put_causes.Goals as goal

pub returns-in-Some : goal.returns-in-Some
returns-in-Some c =
    let a = c.args.page.now.writer in
    let b = c.put_cause.new.page.writer in
    let d = c.put_more.new.page.writer in
    subst (λ causes. TellsCauses causes a d) (sym c.in-Some.ensures.cases.0)
    (told_first c.in-Some.first.now c.in-Some.more.now a b d c.put_cause.ensures c.put_more.ensures)
