-- What is kept is what has another number.
use Rattle.std.proofs.Common.{rules}
use Rattle.std.proofs.lemmas.Fn.{filter_same}
use Rattle.loaded_jobs.specs.Leaving.{is_of_other}
use Rattle.loaded_jobs.proofs.gone_jobs.drop_number.Goals as goal

pub returns-clause-items : goal.returns-clause-items
returns-clause-items c = filter_same _ (is_of_other c.args.number) _ (λ x b q r. search rules) _ _ c.retain.ensures.filtered
