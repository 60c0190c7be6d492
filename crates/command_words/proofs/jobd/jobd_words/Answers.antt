-- What the check of `jobd::jobd_words` does not find by itself.
use Rattle.std.proofs.Common.{rules, ◌≡◌, ◌∙◌, ap, codes, false}
use Rattle.clap.specs.Words.{app_of, new_app}
use Rattle.clap.specs.declared.Command.{out-Command}
use Rattle.command_words.specs.Meaning.{needs_subcommand}
use Rattle.command_words.specs.Rules.{HasWords}
use Rattle.command_words.proofs.jobd.jobd_words.Goals as goal

pub returns : goal.returns
returns c =
    let asks : app_of c.subcommand_required-command.result ≡ needs_subcommand (app_of c.new.result) = search rules in
    let globals : (out-Command c.subcommand_required-command.result).has_globals ≡ false = search rules in
    let first : HasWords (needs_subcommand (new_app (codes "jobd"))) c.subcommand_required-command.result = record { app = asks ∙ ap needs_subcommand c.new.ensures.app; globals = globals } in
    c.with_subcommands.ensures _ first
