use Rattle.std.proofs.Common.{◌≡◌, None, sym, subst, rules}
use Rattle.history_model.specs.Machine.{past_of}
use Rattle.status_file.specs.Facts.{HasFacts}
use Rattle.status_file.proofs.FactsLemmas.{told, untold, unmoved}
use Rattle.status_file.proofs.facts.facts_of.Goals as goal

pub returns-in_err-reasons : goal.returns-in_err-reasons
returns-in_err-reasons c = λ s keeps.
    let none : c.from_residual.result ≡ None = search rules in
    subst (HasFacts (past_of s c.args.label.now)) (sym none) (untold (past_of s c.args.label.now) (c.in_err-reasons.ensures s keeps))

pub returns-in_err-moments : goal.returns-in_err-moments
returns-in_err-moments c = λ s keeps.
    let none : c.from_residual-in_err-moments.result ≡ None = search rules in
    subst (HasFacts (past_of s c.args.label.now)) (sym none) (unmoved (past_of s c.args.label.now) (c.in_err-moments.ensures s keeps))

pub returns : goal.returns
returns c = λ s keeps.
    told (past_of s c.args.label.now) _ (c.in_ok-reasons.ensures s keeps) (c.in_ok-moments.ensures s keeps) (c.spawns_from.ensures s keeps) (c.latest_demand.ensures s keeps) (c.path_that_holds.ensures s keeps)
