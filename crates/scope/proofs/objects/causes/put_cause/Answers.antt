use Rattle.scope.proofs.ObjectsLemmas.{cause_of}
use Rattle.scope.proofs.objects.causes.put_cause.Goals as goal

pub returns : goal.returns
returns c =
    cause_of c.args.cause c.kind_of.result.now c.fields_of.result c.args.page.now.writer c.put_object.new.page.writer c.kind_of.ensures c.put_object.ensures
