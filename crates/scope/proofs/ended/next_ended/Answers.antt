use Rattle.std.proofs.Common.{◌≡◌}
use Rattle.definition_files.specs.Reads.{Reads, starts_status}
use Rattle.scope.proofs.EndedLemmas.{carried}
use Rattle.scope.proofs.ended.next_ended.Goals as goal

pub returns : goal.returns
returns g c =
    carried (λ status. Reads c.args.files.now (λ found. status ≡ starts_status found) (g.S.DefinitionSource.told c.args.source.now) (g.S.DefinitionSource.told c.coming_starts-made.new.source))
    c.coming_starts-made.result c.put_outcome.result c.coming_starts-made.ensures.status c.put_outcome.ensures.status c.put_outcome.ensures.memory
