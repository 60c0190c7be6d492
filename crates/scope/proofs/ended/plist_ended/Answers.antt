use Rattle.definition_files.specs.ListStatus.{IsListStatus}
use Rattle.scope.proofs.EndedLemmas.{carried}
use Rattle.scope.proofs.ended.plist_ended.Goals as goal

pub returns : goal.returns
returns g c =
    carried (λ status. IsListStatus status)
    c.lists_as_json-made.result c.put_outcome.result c.lists_as_json-made.ensures.status c.put_outcome.ensures.status c.put_outcome.ensures.memory
