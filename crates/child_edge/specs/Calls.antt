-- What an edge records: the calls that were made of it, oldest first, each with its answer.
use Rattle.std.specs.Prelude.{◌≡◌, ℕ, ◌+◌, ◌%◌, ◌^◌, List, [], ◌∷◌, ◌++◌, Option, Some, None, Result, Ok, Err, Bool, true, false}
use Rattle.history_model.specs.declared.Ended.{Ended}
use Rattle.history_model.specs.declared.Obs.{Obs}
use Rattle.history_model.specs.declared.Reading.{Reading}
use Rattle.child_edge.specs.declared.plain.EdgeCall.{EdgeCall}
use Rattle.child_edge.specs.declared.plain.EdgeFault.{EdgeFault}
use Rattle.child_edge.specs.declared.plain.EdgeFault.TheVariants as Fault
use Rattle.child_edge.specs.declared.plain.Scripted.{Scripted}
use Rattle.child_edge.specs.declared.plain.Scripted.TheVariants.{Started, Done, Running, Over, Seen, At, Refused, NoMemory}

-- a call with its answer
abbrev pub ToldCall : Type 0
ToldCall = EdgeCall × Scripted

-- From old to new the edge was called for exactly these entries, in this order. Nothing is claimed
-- of an edge that does not record its calls, nor from the call on at which it stops recording.
abbrev pub Tells : Option (List ToldCall) → List ToldCall → Option (List ToldCall) → Type 0
Tells old entries new =
    (after : List ToldCall) → new ≡ Some after
    → (before : List ToldCall) × (old ≡ Some before) × (after ≡ before ++ entries)

-- it was called once
abbrev pub TellsOne : Option (List ToldCall) → ToldCall → Option (List ToldCall) → Type 0
TellsOne old entry new = Tells old (entry ∷ []) new

-- the count of failures after one more; after the greatest u64 comes 0
abbrev pub one_more : ℕ → ℕ
one_more n = (n + 1) % 2 ^ 64

-- the edge did what it was called for
abbrev pub is_done : Scripted → Bool
is_done Done = true
is_done (Started pid) = false
is_done Running = false
is_done (Over ended) = false
is_done (Seen seen) = false
is_done (At reading) = false
is_done Refused = false
is_done NoMemory = false

-- the answer that a fault is
abbrev pub fault_answer : EdgeFault → Scripted
fault_answer Fault.NoMemory = NoMemory
fault_answer Fault.Refused = Refused

-- the answer that an outcome is
abbrev pub outcome_answer : Result Scripted EdgeFault → Scripted
outcome_answer (Ok answer) = answer
outcome_answer (Err fault) = fault_answer fault

-- the answer that a call's result is: of a start,
abbrev pub start_answer : Result ℕ EdgeFault → Scripted
start_answer (Ok pid) = Started pid
start_answer (Err fault) = fault_answer fault

-- of TERM, KILL and bind,
abbrev pub done_answer : {U : Type 0} → Result U EdgeFault → Scripted
done_answer (Ok u) = Done
done_answer (Err fault) = fault_answer fault

-- of a poll,
abbrev pub poll_answer : Result (Option Ended) EdgeFault → Scripted
poll_answer (Ok None) = Running
poll_answer (Ok (Some ended)) = Over ended
poll_answer (Err fault) = fault_answer fault

-- of a path check,
abbrev pub look_answer : Result Obs EdgeFault → Scripted
look_answer (Ok seen) = Seen seen
look_answer (Err fault) = fault_answer fault

-- and of a clock reading
abbrev pub read_answer : Result Reading EdgeFault → Scripted
read_answer (Ok reading) = At reading
read_answer (Err fault) = fault_answer fault
