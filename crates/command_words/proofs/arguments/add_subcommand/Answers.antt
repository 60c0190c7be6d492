-- What the check of `arguments::add_subcommand` does not find by itself.
use Rattle.command_words.proofs.RulesLemmas.{joined}
use Rattle.command_words.proofs.arguments.add_subcommand.Goals as goal

pub returns-in-Ok-subcommand : goal.returns-in-Ok-subcommand
returns-in-Ok-subcommand c = λ a s made subs. joined _ _ _ a s c.subcommand.ensures (rw c.in-Ok.is at made) (rw c.in-Ok-subcommand.is at subs)
