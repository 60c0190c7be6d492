-- The answers to the goals of `renewal::store_schema`.
use Rattle.std.proofs.Common.{ap, ◌∙◌}
use Rattle.sqlite.specs.Held.{state}
use Rattle.sqlite.specs.Steps.{over_memory}
use Rattle.sqlite.proofs.Callers.{memory_is_clean}
use Rattle.override_store.proofs.RenewalLemmas.{new_schema}
use Rattle.override_store.proofs.renewal.store_schema.Goals as goal

pub returns-in-Ok-copy : goal.returns-in-Ok-copy
returns-in-Ok-copy c =
    let store = c.in-Ok-open_on.store in
    c.in-Ok-copy.ensures ∙ c.schema.ensures.value ∙ ap (λ h. (state over_memory h).now.schema) c.close_on-conn.ensures
    ∙ new_schema (state over_memory c.in-Ok.conn) (state over_memory store) c.in-Ok.ensures.empty c.in-Ok-open_on.ensures.opened (memory_is_clean store)
