use Rattle.std.proofs.Common.{subst}
use Rattle.scope.specs.Fronts.{AreLines}
use Rattle.scope.proofs.texts.cause_lines.add_causes.Goals as goal

pub returns : goal.returns
returns c = λ well.
    let (text, lines, added) = c.add_lines.ensures in
    (c.in-Ok.list.items, c.in-Ok.ensures, (text, subst (λ cs. AreLines cs text) c.as_slice.ensures.value lines, added))
