-- Each item adds its entry.
use Rattle.std.proofs.Common.{subst}
use Rattle.serde_json.specs.View.{view}
use Rattle.status_file.specs.Readings.{EntryAt}
use Rattle.status_file.proofs.EntriesLemmas.{one_more}
use Rattle.status_file.proofs.read.entries_in.Goals as goal

pub loop-item-preserved : goal.loop-item-preserved
loop-item-preserved c =
    let (entry, is, read) = c.in_ok-add_entry.ensures in
    one_more c.args.list.now c.loop-item.item-index c.item-item.result c.loop-item.entries.items c.add_entry.new.entries.items entry c.loop-item-test.true c.loop-item.invariant is
    (subst (λ v. EntryAt (view v) entry) c.item-item.is read)
