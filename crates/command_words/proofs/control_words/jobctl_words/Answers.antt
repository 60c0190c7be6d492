-- What the check of `control_words::jobctl_words` does not find by itself.
use Rattle.command_words.proofs.RulesLemmas.{asks_for_one}
use Rattle.command_words.proofs.control_words.jobctl_words.Goals as goal

pub returns : goal.returns
returns c =
    c.with_subcommands.ensures _ (c.add_arg-command.ensures _ _ (asks_for_one _ _ _ c.subcommand_required-command.ensures c.bare.ensures) c.option-socket.ensures.rule)
