-- Halves find the first setting that is not before the label.
use Rattle.std.proofs.Common.{◌<◌, length, sym, ◌∙◌, arith, rules}
use Rattle.std.proofs.lemmas.List.Sorted.{IsPartitionPoint-from_clause}
use Rattle.history_model.specs.Labels.{is_before}
use Rattle.loaded_jobs.proofs.MomentsLemmas.{get-at}
use Rattle.loaded_jobs.proofs.HalvesLemmas.{halves, one-at}
use Rattle.loaded_jobs.proofs.SettingOrderLemmas.{rising, place-past, place-other}
use Rattle.loaded_jobs.proofs.setting_order.setting_place.Goals as goal

pub returns-then-place-settings-clause-absent : goal.returns-then-place-settings-clause-absent
returns-then-place-settings-clause-absent c =
    let xs = c.args.settings.now in
    let label = c.args.label.now in
    let k = c.partition_point-place.result in
    let point = IsPartitionPoint-from_clause (λ x. is_before x.label label) _ _ c.partition_point-place.ensures.partitioned (halves (λ x. x.label) xs (rising xs c.requires) label) (λ a r q k. search rules) in
    let past = c.if-place-settings.true in
    place-past xs c.requires label k c.partition_point-place.ensures.bound point (grind (arith, past))

pub returns-then-is_of-clause-found : goal.returns-then-is_of-clause-found
returns-then-is_of-clause-found c =
    let xs = c.args.settings.now in
    let label = c.args.label.now in
    let k = c.partition_point-place.result in
    let x = c.index-settings-place.result in
    let point = IsPartitionPoint-from_clause (λ x. is_before x.label label) _ _ c.partition_point-place.ensures.partitioned (halves (λ x. x.label) xs (rising xs c.requires) label) (λ a r q k. search rules) in
    let inside = c.if-place-settings.false in
    let within : k < length xs = grind (arith, inside) in
    one-at (λ x. x.label) xs (rising xs c.requires) label k point x (get-at xs k x within c.index-settings-place.is) (sym c.is_of.ensures ∙ c.if-is_of.true)

pub returns-clause-absent : goal.returns-clause-absent
returns-clause-absent c =
    let xs = c.args.settings.now in
    let label = c.args.label.now in
    let k = c.partition_point-place.result in
    let x = c.index-settings-place.result in
    let point = IsPartitionPoint-from_clause (λ x. is_before x.label label) _ _ c.partition_point-place.ensures.partitioned (halves (λ x. x.label) xs (rising xs c.requires) label) (λ a r q k. search rules) in
    let inside = c.if-place-settings.false in
    let within : k < length xs = grind (arith, inside) in
    place-other xs c.requires label k c.partition_point-place.ensures.bound point x (get-at xs k x within c.index-settings-place.is) (sym c.is_of.ensures ∙ c.if-is_of.false)
