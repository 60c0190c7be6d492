-- The closing was reported, and the edge heard of it.
use Rattle.std.proofs.Common.{inr, refl, rules}
use Rattle.jobd.proofs.round_launcher.RoundLauncherLoopHost.report_journal_closing.Goals as goal

pub returns-then-report_journal_closing : goal.returns-then-report_journal_closing
returns-then-report_journal_closing g c = inr (c.note_closing.new.self, search rules, search rules)

pub returns-else-report_journal_closing : goal.returns-else-report_journal_closing
returns-else-report_journal_closing g c = inr (c.args.self.now.host.edge, refl, search rules)
