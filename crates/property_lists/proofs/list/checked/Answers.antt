-- The goal of `checked` that the prover leaves open.
use Rattle.std.proofs.Common.{◌∙◌, ap}
use Rattle.serde_json.specs.View.{view}
use Rattle.json_kinds.specs.Json.{json_in}
use Rattle.property_lists.proofs.list.checked.Goals as goal

pub returns-in-Ok-Some : goal.returns-in-Ok-Some
returns-in-Ok-Some c =
    record { json = (view c.in-Ok-Some.value, (rw c.in-Ok-Some.field-0-is at c.in-Ok-Some.ensures) ∙ ap (λ bytes. json_in bytes) c.as_slice.ensures.value) }
