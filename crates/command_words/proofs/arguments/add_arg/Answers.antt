-- What the check of `arguments::add_arg` does not find by itself.
use Rattle.command_words.proofs.RulesLemmas.{grown}
use Rattle.command_words.proofs.arguments.add_arg.Goals as goal

pub returns-in-Ok : goal.returns-in-Ok
returns-in-Ok c = λ a r made is. grown _ _ _ a r c.arg.ensures c.requires.local (rw c.in-Ok.is at made) is
