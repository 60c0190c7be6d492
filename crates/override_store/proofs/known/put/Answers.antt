-- The answers to the goals of `known::put`.
use Rattle.std.proofs.Common.{ap, sym, ◌∙◌}
use Rattle.std.specs.List.{position}
use Rattle.override_store.specs.KnownSettings.{is_known_as, found_in}
use Rattle.override_store.proofs.KnownLemmas.{first-where, none-where, known_at, known_placed}
use Rattle.override_store.proofs.known.put.Goals as goal

pub returns-in-Some : goal.returns-in-Some
returns-in-Some c = λ label.
    let items = c.args.known.now.items in
    let one = c.args.one in
    known_at one label items c.in-Some.place (first-where (is_known_as one.setting.label) items c.in-Some.place (sym c.in-Some.is ∙ c.known_place.ensures ∙ (λ i. position (is_known_as (c.label.ensures i)) (c.deref.ensures.value i))))

pub returns-in-Ok : goal.returns-in-Ok
returns-in-Ok c = λ label.
    let items = c.args.known.now.items in
    let one = c.args.one in
    ap (λ xs. found_in xs label) c.in-Ok.ensures.items ∙ known_placed one label items c.place_in_order-place.result (none-where (is_known_as one.setting.label) items (sym c.in-None.is ∙ c.known_place.ensures ∙ (λ i. position (is_known_as (c.label.ensures i)) (c.deref.ensures.value i))))
