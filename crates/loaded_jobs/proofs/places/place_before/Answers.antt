-- Halves find the first job that is after the label.
use Rattle.std.proofs.Common.{not, rules}
use Rattle.std.proofs.lemmas.List.Sorted.{IsPartitionPoint-from_clause}
use Rattle.loaded_jobs.specs.JobSlots.{is_above}
use Rattle.loaded_jobs.proofs.ByteOrderLemmas.{halves-no-later, above-at}
use Rattle.loaded_jobs.proofs.places.place_before.Goals as goal

pub returns : goal.returns
returns c =
    let es = c.args.job_slots.now in
    let label = c.args.label.now in
    above-at es c.requires label c.partition_point.result c.partition_point.ensures.bound
    (IsPartitionPoint-from_clause (λ e. not (is_above label e)) _ _ c.partition_point.ensures.partitioned (halves-no-later es c.requires label) (λ a r q k. search rules))
