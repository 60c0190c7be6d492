-- The header's line, and then nothing more.
use Rattle.launcher.proofs.JournalsLemmas.{grows_flushed}
use Rattle.launcher.proofs.journal.Journal.begin.Goals as goal

pub returns : goal.returns
returns g c = grows_flushed _ _ _ _ c.headed-journal.ensures c.flush.ensures
