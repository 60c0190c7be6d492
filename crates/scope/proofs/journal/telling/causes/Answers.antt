use Rattle.std.proofs.Common.{◌++◌, ◌∙◌, ap}
use Rattle.scope.specs.CauseLists.{causes_wanting}
use Rattle.scope.proofs.CausesLemmas.{are_causes}
use Rattle.scope.proofs.journal.telling.causes.Goals as goal

pub returns : goal.returns
returns c = are_causes c.args.reasons.now _ (c.in_ok-add_wants.ensures ∙ ap (λ cs. cs ++ causes_wanting c.args.reasons.now.wants) c.in_ok-causes.ensures)
