-- What the check of `journal_machine::JournalMachine::open` does not find by itself.
use Rattle.replay.proofs.LauncherLemmas.{opened_writes}
use Rattle.replay.proofs.journal_machine.JournalMachineLineMachine.open.Goals as goal

pub returns-in_ok-new-in-Ok-Some : goal.returns-in_ok-new-in-Ok-Some
returns-in_ok-new-in-Ok-Some c = opened_writes c.args.header.now c.in-Ok-Some.table (rw c.in-Ok-Some.field-0-is at c.in-Ok-Some.ensures)
