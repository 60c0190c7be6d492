-- The answers to the goals of `memory_place::MemoryPlace::open`.
use Rattle.std.proofs.Common.{◌≡◌, true, false, refl, sym, subst, ◌∙◌}
use Rattle.std.specs.Prelude.{MatchOption, ⊤}
use Rattle.sqlite.specs.Steps.{over_memory}
use Rattle.sqlite.specs.Tree.{Trees}
use Rattle.sqlite.specs.View.{IsClean}
use Rattle.sqlite_trees.proofs.Doubt.{no_doubt}
use Rattle.override_store.proofs.memory_place.MemoryPlaceStorePlaceConnectionMemStoreMemStore.open.Goals as goal

pub returns-in-Ok-clause-found : goal.returns-in-Ok-clause-found
returns-in-Ok-clause-found c honest =
    subst (λ left. ((c.args.self.now.is_lost ≡ false) × MatchOption left ⊤ (λ s. IsClean (over_memory.view s))) × ((db : Trees) → over_memory.recovers c.in-Ok.conn.store db → MatchOption left ⊤ (λ s. over_memory.recovers s db)))
    (sym c.in-Some.is ∙ c.take.ensures.value) ((honest.1.0, no_doubt true refl), c.in-Ok.ensures.found)
