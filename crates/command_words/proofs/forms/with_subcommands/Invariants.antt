-- What stays true in the loop of `forms::with_subcommands`.
use Rattle.std.proofs.Common.{take}
use Rattle.clap.specs.Words.{App}
use Rattle.command_words.specs.Forms.{with_all}
use Rattle.command_words.specs.Rules.{Makes}
use Rattle.command_words.proofs.forms.with_subcommands.Given as goal

abbrev pub invariant-loop-one : goal.invariant-loop-one
invariant-loop-one l = (a : App) → Makes l.fn.command a → Makes l.command (with_all a (take l.one-index l.all))
