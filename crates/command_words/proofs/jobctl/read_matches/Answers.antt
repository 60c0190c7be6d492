-- The socket, and what the subcommand means.
use Rattle.std.proofs.Common.{◌≡◌, ◌∙◌, ap, sym, Some}
use Rattle.clap.specs.Words.{subcommand_rows_of}
use Rattle.command_words.specs.Jobctl.{command_found}
use Rattle.command_words.specs.Meaning.{rows_in}
use Rattle.command_words.proofs.MeaningLemmas.{met, words_meant}
use Rattle.command_words.proofs.jobctl.read_matches.Goals as goal

pub returns-in-Ok-Some : goal.returns-in-Ok-Some
returns-in-Ok-Some c =
    let sub = met c.args.matches.now c.in-Some.name.now (rows_in c.in-Some.found.now) c.in-Some.ensures.name c.in-Some.ensures.rows in
    let meant : Some c.in-Ok-Some.command ≡ command_found (subcommand_rows_of c.args.matches.now) = sym c.in-Ok-Some.field-0-is ∙ c.in-Ok-Some.ensures ∙ ap command_found (sym sub) in
    words_meant c.args.default.now (rows_in c.args.matches.now) (subcommand_rows_of c.args.matches.now) _ _ c.in-Ok.ensures meant
