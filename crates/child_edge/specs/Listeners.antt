-- The sockets of jobs that listen.
use Rattle.std.specs.Prelude.{ℕ, ◌+◌, ◌-◌, ◌^◌, min, length}
use Rattle.std.specs.List.{fold}
use Rattle.std.specs.BTreeMap.{BTreeMap, values}
use Rattle.child_edge.specs.declared.bound.Bound.{Bound}

-- how many all jobs have together, as far as a counter of 64 bits goes
abbrev pub how_many : BTreeMap ℕ Bound → ℕ
how_many jobs = fold (λ n bound. min (n + length bound.listeners.items) (2 ^ 64 - 1)) 0 (values jobs)

-- with this number more
abbrev pub and_more : BTreeMap ℕ Bound → ℕ → ℕ
and_more jobs more = min (how_many jobs + more) (2 ^ 64 - 1)
