-- What stays true in the loop of `forms::subcommand_of`.
use Rattle.std.proofs.Common.{fold, take}
use Rattle.clap.specs.Words.{new_app}
use Rattle.command_words.specs.Forms.{with_argument}
use Rattle.command_words.specs.Rules.{Makes}
use Rattle.command_words.proofs.forms.subcommand_of.Given as goal

abbrev pub invariant-loop-argument : goal.invariant-loop-argument
invariant-loop-argument l = Makes l.command (fold with_argument (new_app l.of.name.now) (take l.argument-index l.of.arguments.now))
