-- What the path checks of a pass do.
use Rattle.std.proofs.Common.{rules}
use Rattle.live_loop.proofs.RoundsLemmas.{early_or_due}
use Rattle.live_loop.proofs.rounds.round.Goals as goal

pub returns-clause-passes : goal.returns-clause-passes
returns-clause-passes g c = let looks = early_or_due c.look-is_time.ensures.early c.look-is_time.ensures.due in search rules
