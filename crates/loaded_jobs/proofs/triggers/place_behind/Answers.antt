-- Halves find the first that comes after.
use Rattle.std.proofs.Common.{not, rules}
use Rattle.std.proofs.lemmas.List.Sorted.{IsPartitionPoint-from_clause}
use Rattle.loaded_jobs.specs.Triggers.{rank_of, is_behind}
use Rattle.loaded_jobs.proofs.RankLemmas.{halves-not-behind, left-half, right-half}
use Rattle.loaded_jobs.proofs.triggers.place_behind.Goals as goal
use Rattle.history_model.proofs.BooleanLemmas.{not-true, not-false}

pub returns-clause-before : goal.returns-clause-before
returns-clause-before c = λ j y at less.
    let xs = c.args.listed.now in
    let k = rank_of c.args.query in
    let point = IsPartitionPoint-from_clause (λ one. not (is_behind k one)) _ _ c.partition_point.ensures.partitioned (halves-not-behind xs c.requires k) (λ a r q k. search rules) in
    not-true (is_behind k y) (left-half (λ one. not (is_behind k one)) xs c.partition_point.result point j y at less)

pub returns-clause-behind : goal.returns-clause-behind
returns-clause-behind c = λ j y at up.
    let xs = c.args.listed.now in
    let k = rank_of c.args.query in
    let point = IsPartitionPoint-from_clause (λ one. not (is_behind k one)) _ _ c.partition_point.ensures.partitioned (halves-not-behind xs c.requires k) (λ a r q k. search rules) in
    not-false (is_behind k y) (right-half (λ one. not (is_behind k one)) xs c.partition_point.result point j y at up)
