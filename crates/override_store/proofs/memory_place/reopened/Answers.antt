-- The answers to the goals of `memory_place::reopened`.
use Rattle.std.proofs.Common.{true, refl, sym, ap, ◌∙◌}
use Rattle.sqlite.specs.Effect.{Database}
use Rattle.sqlite_trees.proofs.Doubt.{no_doubt}
use Rattle.override_store.proofs.memory_place.reopened.Goals as goal

pub over-requires : goal.over-requires
over-requires c clean =
    let fresh = c.in-Ok.ensures.fresh in
    record { sound = fresh.sound clean; numbered = refl; clean = fresh.clean; unmarked = fresh.unmarked clean }

pub returns-in-Ok-over-clause-found : goal.returns-in-Ok-over-clause-found
returns-in-Ok-over-clause-found c db left =
    let clean = no_doubt true refl in
    let opens = (c.in-Ok-over.ensures.opens clean).0 in
    left ∙ ap (λ (d : Database). d.trees) (sym opens.clean) ∙ c.in-Ok-over.ensures.trees clean ∙ c.in-Ok.ensures.fresh.clean ∙ c.in-Ok.ensures.found clean

pub returns-in-Err-over-clause-left : goal.returns-in-Err-over-clause-left
returns-in-Err-over-clause-left c db left = c.in-Ok.ensures.outcomes db (c.in-Err-over.ensures.unharmed.outcomes db left)
