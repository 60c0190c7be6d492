use Rattle.std.proofs.Common.{subst}
use Rattle.std.proofs.lemmas.List.{take_all}
use Rattle.std.specs.List.{flat_map}
use Rattle.status_file.specs.Tokens.{entry_tokens}
use Rattle.status_file.specs.Lines.{Puts}
use Rattle.status_file.proofs.LinesLemmas.{nothing, one_item_more}
use Rattle.status_file.proofs.write.put_entries.Goals as goal

pub loop-entry-init : goal.loop-entry-init
loop-entry-init c = nothing c.args.line.now

pub loop-entry-preserved : goal.loop-entry-preserved
loop-entry-preserved c =
    one_item_more entry_tokens c.args.calendar.now c.loop-entry.entry-index _ c.args.line.now c.loop-entry.line c.put_entry.new.line c.loop-entry-test.true c.loop-entry.invariant c.put_entry.ensures

pub returns : goal.returns
returns c =
    subst (λ es. Puts (flat_map entry_tokens es) c.args.line.now c.loop-entry.line)
    (take_all c.loop-entry.entry-index c.args.calendar.now c.loop-entry-test.false) c.loop-entry.invariant
