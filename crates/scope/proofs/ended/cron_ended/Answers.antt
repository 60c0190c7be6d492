use Rattle.std.proofs.Common.{◌≡◌}
use Rattle.definition_files.specs.LineStatus.{Judges, crontab_status}
use Rattle.scope.proofs.EndedLemmas.{carried}
use Rattle.scope.proofs.ended.cron_ended.Goals as goal

pub returns : goal.returns
returns g c =
    carried (λ status. Judges c.args.lines.now (λ found. status ≡ crontab_status found) (g.K.LineKeeper.told c.args.keeper.now) (g.K.LineKeeper.told c.definitions_of-made.new.keeper))
    c.definitions_of-made.result c.put_outcome.result c.definitions_of-made.ensures.status c.put_outcome.ensures.status c.put_outcome.ensures.memory
