-- What the check of `forms::subcommand_of` does not find by itself.
use Rattle.std.proofs.Common.{subst, sym}
use Rattle.std.proofs.lemmas.List.Sums.{fold_more}
use Rattle.command_words.specs.Forms.{with_argument}
use Rattle.command_words.specs.Rules.{Makes}
use Rattle.command_words.proofs.forms.subcommand_of.Goals as goal

pub loop-argument-preserved : goal.loop-argument-preserved
loop-argument-preserved c =
    subst (λ a. Makes c.add_arg-command.result a) (sym (fold_more with_argument _ _ _ _ c.loop-argument-test.true))
    (c.add_arg-command.ensures _ _ c.loop-argument.invariant c.argument_of.ensures.rule)
