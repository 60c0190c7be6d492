-- What the check of `object::line_from` does not find by itself.
use Rattle.std.proofs.Common.{◌≡◌, Some, subst}
use Rattle.serde_json.specs.View.{view}
use Rattle.json_kinds.specs.Json.{json_in}
use Rattle.json_kinds.proofs.JsonLemmas.{json_read}
use Rattle.ctl_protocol.proofs.object.line_from.Goals as goal

pub returns-clause-reads_back : goal.returns-clause-reads_back
returns-clause-reads_back c =
    λ shallow. subst (λ t. json_in t ≡ Some (view c.args.value.now)) (c.in_ok-line.ensures.text c.requires) (json_read c.in_ok-line.line.items (view c.args.value.now) c.in_ok-line.ensures.utf8 (c.in_ok-line.ensures.reads_back shallow))
