-- What the check of `journal_machine::JournalMachine::handle` does not find by itself.
use Rattle.replay.proofs.LauncherLemmas.{answered_goes_on}
use Rattle.replay.proofs.journal_machine.JournalMachineLineMachine.handle.Goals as goal

pub returns-in-Ok : goal.returns-in-Ok
returns-in-Ok c = answered_goes_on c.args.self.now.table c.answer.new.table c.args.line.now c.in-Ok.text.items c.in-Ok.ensures
