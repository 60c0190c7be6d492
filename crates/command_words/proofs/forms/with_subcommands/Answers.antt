-- What the check of `forms::with_subcommands` does not find by itself.
use Rattle.std.proofs.Common.{subst, sym}
use Rattle.std.proofs.lemmas.List.Sums.{fold_more}
use Rattle.command_words.specs.Forms.{with_one}
use Rattle.command_words.specs.Rules.{Makes}
use Rattle.command_words.proofs.forms.with_subcommands.Goals as goal

pub loop-one-preserved : goal.loop-one-preserved
loop-one-preserved c = λ a made.
    subst (λ b. Makes c.add_subcommand-command.result b) (sym (fold_more with_one a _ _ _ c.loop-one-test.true))
    (c.add_subcommand-command.ensures _ _ (c.loop-one.invariant a made) c.subcommand_of.ensures)
