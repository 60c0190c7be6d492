use Rattle.definition_files.specs.Reads.{IsCheckStatus, Reads}
use Rattle.scope.proofs.EndedLemmas.{carried}
use Rattle.scope.proofs.ended.check_ended.Goals as goal

pub returns : goal.returns
returns g c =
    carried (λ status. Reads c.args.files.now (IsCheckStatus c.args.is_strict status) (g.S.DefinitionSource.told c.args.source.now) (g.S.DefinitionSource.told c.check_files-made.new.source))
    c.check_files-made.result c.put_outcome.result c.check_files-made.ensures.status c.put_outcome.ensures.status c.put_outcome.ensures.memory
