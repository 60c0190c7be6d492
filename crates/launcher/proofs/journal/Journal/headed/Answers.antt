-- What the check of `journal::Journal::headed` does not find by itself.
use Rattle.std.proofs.Common.{true, subst}
use Rattle.ctl_protocol.specs.HeaderLines.{header_line}
use Rattle.launcher.specs.Journals.{Grows, Poured}
use Rattle.launcher.specs.declared.journal.Phase.TheVariants.{Open}
use Rattle.launcher.proofs.journal.Journal.headed.Goals as goal

-- no memory for the line
pub returns-in-Err : goal.returns-in-Err
returns-in-Err g c =
    subst (λ (w : Poured). Grows (record { has_writer = true; bytes = w.bytes; cause = w.cause; phase = Open }) c.close.new.self (header_line c.args.header.now)) c.new.ensures
    (c.close.ensures (header_line c.args.header.now))
