-- What the check of `arguments::hyphened_option` does not find by itself.
use Rattle.command_words.proofs.RulesLemmas.{hyphened}
use Rattle.command_words.proofs.arguments.hyphened_option.Goals as goal

pub returns-clause-rule : goal.returns-clause-rule
returns-clause-rule c = hyphened _ _ _ c.allow_hyphen_values.ensures c.option.ensures.rule
