-- What the check of `journal::Journal::note` does not find by itself.
use Rattle.ctl_protocol.specs.EventWriter.{event_line}
use Rattle.launcher.proofs.journal.Journal.note.Goals as goal

-- no memory for the line
pub returns-in-Err : goal.returns-in-Err
returns-in-Err g c = c.close.ensures (event_line c.args.event.now)
