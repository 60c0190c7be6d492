-- Halves find the first job that is not before the label.
use Rattle.std.proofs.Common.{◌<◌, length, sym, ◌∙◌, arith, rules}
use Rattle.std.proofs.lemmas.List.Sorted.{IsPartitionPoint-from_clause}
use Rattle.history_model.specs.Labels.{is_before}
use Rattle.loaded_jobs.proofs.MomentsLemmas.{get-at}
use Rattle.loaded_jobs.proofs.ByteOrderLemmas.{halves-below, label-past, label-at, label-other}
use Rattle.loaded_jobs.proofs.places.place_of.Goals as goal

pub returns-then-place-job_slots : goal.returns-then-place-job_slots
returns-then-place-job_slots c =
    let es = c.args.job_slots.now in
    let label = c.args.label.now in
    let point = IsPartitionPoint-from_clause (λ e. is_before e.def.label label) _ _ c.partition_point-place.ensures.partitioned (halves-below es c.requires label) (λ a r q k. search rules) in
    let past = c.if-place-job_slots.true in
    label-past es c.requires label c.partition_point-place.result point (grind (arith, past))

pub returns-then-has_label : goal.returns-then-has_label
returns-then-has_label c =
    let es = c.args.job_slots.now in
    let label = c.args.label.now in
    let k = c.partition_point-place.result in
    let e = c.index-job_slots-place.result in
    let point = IsPartitionPoint-from_clause (λ e. is_before e.def.label label) _ _ c.partition_point-place.ensures.partitioned (halves-below es c.requires label) (λ a r q k. search rules) in
    let inside = c.if-place-job_slots.false in
    let within : k < length es = grind (arith, inside) in
    label-at es c.requires label k point e (get-at es k e within c.index-job_slots-place.is) (sym c.has_label.ensures ∙ c.if-has_label.true)

pub returns : goal.returns
returns c =
    let es = c.args.job_slots.now in
    let label = c.args.label.now in
    let k = c.partition_point-place.result in
    let e = c.index-job_slots-place.result in
    let point = IsPartitionPoint-from_clause (λ e. is_before e.def.label label) _ _ c.partition_point-place.ensures.partitioned (halves-below es c.requires label) (λ a r q k. search rules) in
    let inside = c.if-place-job_slots.false in
    let within : k < length es = grind (arith, inside) in
    label-other es c.requires label k point e (get-at es k e within c.index-job_slots-place.is) (sym c.has_label.ensures ∙ c.if-has_label.false)
