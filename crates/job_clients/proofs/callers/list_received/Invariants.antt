-- What is listed, and what is left, are all clients.
use Rattle.std.proofs.Common.{◌≡◌, ◌≤◌, ◌+◌, ◌++◌, length, map, vec_capacity, vec_len}
use Rattle.slab.specs.Slab.{slab_len}
use Rattle.job_clients.specs.Crowds.{received_in, received_of}
use Rattle.job_clients.proofs.callers.list_received.Given as goal

abbrev pub invariant-loop-key : goal.invariant-loop-key
invariant-loop-key g l =
    (goal.iterator-loop-key g).can_next l.key-iterator
    × (goal.iterator-loop-key g).is_finite l.key-iterator
    × (slab_len l.held ≤ vec_capacity l.fn.received → vec_len l.received + length l.key-iterator ≤ vec_capacity l.received)
    × (slab_len l.held ≤ vec_capacity l.fn.received → l.received.items ++ map (received_of l.bind l.up) l.key-iterator ≡ received_in l.bind l.up l.held)
