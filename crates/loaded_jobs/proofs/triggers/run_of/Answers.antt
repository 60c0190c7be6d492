-- Those between the two halves are of the trigger, and no other is.
use Rattle.std.proofs.Common.{◌≤◌, rules}
use Rattle.std.proofs.lemmas.List.Sorted.{IsPartitionPoint-from_clause}
use Rattle.loaded_jobs.specs.Triggers.{rank_of, is_below}
use Rattle.loaded_jobs.proofs.RankLemmas.{halves-below, left-half, right-half, no-gap, not-behind-below, run-is}
use Rattle.loaded_jobs.proofs.triggers.run_of.Goals as goal

pub slice_bounds-result-count : goal.slice_bounds-result-count
slice_bounds-result-count c =
    let xs = c.args.listed.now in
    let k = rank_of c.args.query in
    let point = IsPartitionPoint-from_clause (is_below k) _ _ c.partition_point-from.ensures.partitioned (halves-below xs c.requires k) (λ a r q k. search rules) in
    no-gap xs k c.partition_point-from.result c.end_of_run-to.result c.partition_point-from.ensures.bound (left-half (is_below k) xs c.partition_point-from.result point) c.end_of_run-to.ensures.behind

pub returns : goal.returns
returns c =
    let xs = c.args.listed.now in
    let k = rank_of c.args.query in
    let from = c.partition_point-from.result in
    let point = IsPartitionPoint-from_clause (is_below k) _ _ c.partition_point-from.ensures.partitioned (halves-below xs c.requires k) (λ a r q k. search rules) in
    run-is xs k from c.end_of_run-to.result (no-gap xs k from c.end_of_run-to.result c.partition_point-from.ensures.bound (left-half (is_below k) xs from point) c.end_of_run-to.ensures.behind) (left-half (is_below k) xs from point) (right-half (is_below k) xs from point)
    c.end_of_run-to.ensures.before c.end_of_run-to.ensures.behind

pub slice_bounds-result-start : goal.slice_bounds-result-start
slice_bounds-result-start c =
    let xs = c.args.listed.now in
    let k = rank_of c.args.query in
    let from = c.partition_point-from.result in
    let point = IsPartitionPoint-from_clause (is_below k) _ _ c.partition_point-from.ensures.partitioned (halves-below xs c.requires k) (λ a r q k. search rules) in
    let up : from ≤ c.end_of_run-to.result = no-gap xs k from c.end_of_run-to.result c.partition_point-from.ensures.bound (left-half (is_below k) xs from point) c.end_of_run-to.ensures.behind in
    search rules

pub end_of_run-to-requires-clause-low : goal.end_of_run-to-requires-clause-low
end_of_run-to-requires-clause-low c =
    let xs = c.args.listed.now in
    let k = rank_of c.args.query in
    let from = c.partition_point-from.result in
    let point = IsPartitionPoint-from_clause (is_below k) _ _ c.partition_point-from.ensures.partitioned (halves-below xs c.requires k) (λ a r q k. search rules) in
    not-behind-below xs k from (left-half (is_below k) xs from point)
