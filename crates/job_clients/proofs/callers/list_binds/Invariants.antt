-- What is listed, and what is left, are all clients.
use Rattle.std.proofs.Common.{◌≡◌, ◌≤◌, ◌+◌, ◌++◌, length, map, vec_capacity, vec_len}
use Rattle.slab.specs.Slab.{slab_len}
use Rattle.job_clients.specs.Crowds.{bind_of, binds_in}
use Rattle.job_clients.proofs.callers.list_binds.Given as goal

abbrev pub invariant-loop-caller : goal.invariant-loop-caller
invariant-loop-caller g l =
    (goal.iterator-loop-caller g).can_next l.caller-iterator
    × (goal.iterator-loop-caller g).is_finite l.caller-iterator
    × (slab_len l.held + vec_len l.waited ≤ vec_capacity l.fn.binds → vec_len l.binds + length l.caller-iterator + vec_len l.waited ≤ vec_capacity l.binds)
    × (slab_len l.held + vec_len l.waited ≤ vec_capacity l.fn.binds → l.binds.items ++ map bind_of l.caller-iterator ≡ binds_in l.held)
