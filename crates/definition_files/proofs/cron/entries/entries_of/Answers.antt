-- The goals of `entries_of` that the prover leaves open.
use Rattle.std.proofs.Common.{sym, ◌∙◌}
use Rattle.definition_files.proofs.EntriesLemmas.{exact}
use Rattle.definition_files.proofs.cron.entries.entries_of.Goals as goal

pub returns-else-len-gt-MOST_ENTRIES-clause-exact : goal.returns-else-len-gt-MOST_ENTRIES-clause-exact
returns-else-len-gt-MOST_ENTRIES-clause-exact c =
    exact c.args.fields.now c.in-Ok.entries.items (sym c.is_both.ensures ∙ c.if-is_both.false) c.in-Ok.ensures
