-- An edge in memory: its script gives the answers, and it lists the calls that it can hold.
use Rattle.std.specs.Prelude.{ℕ, ◌+◌, List, [], ◌∷◌, ◌++◌, Option, Some, None, Bool, true, false, ◌&&◌, if◌then◌else◌, nat_lt, length, slice_get}
use Rattle.child_edge.specs.declared.plain.EdgeCall.{EdgeCall}
use Rattle.child_edge.specs.declared.plain.EdgeCall.TheVariants.{Start, Term, Kill, Poll, Bind, Close, Release, Look, Clock}
use Rattle.child_edge.specs.declared.plain.Scripted.{Scripted}
use Rattle.child_edge.specs.declared.plain.Scripted.TheVariants.{Started, Done, Running, Over, Seen, At, Refused, NoMemory}
use Rattle.child_edge.specs.Calls.{one_more, is_done, ToldCall}

-- The script and how many of its answers were given; the calls with their answers and how many of them there is room
-- for. Whether all calls that were made are among them, and the count of failures.
pub record Memory : Type 0 where
  pub script : List Scripted
  pub used : ℕ
  pub calls : List ToldCall
  pub room : ℕ
  pub is_telling : Bool
  pub failures : ℕ

-- an edge that answers by this script, and was not called yet
abbrev pub uncalled : List Scripted → ℕ → Memory
uncalled script room = record {
  script = script;
  used = 0;
  calls = [];
  room = room;
  is_telling = true;
  failures = 0;
}

-- what the edge records
abbrev pub calls_told : Memory → Option (List ToldCall)
calls_told m = if m.is_telling then Some m.calls else None

-- a further call can be listed
abbrev pub has_call_room : Memory → Bool
has_call_room m = m.is_telling && nat_lt (length m.calls) m.room

-- the answer is one to a poll
abbrev pub is_poll : Scripted → Bool
is_poll Running = true
is_poll (Over ended) = true
is_poll (Started pid) = false
is_poll Done = false
is_poll (Seen seen) = false
is_poll (At reading) = false
is_poll Refused = false
is_poll NoMemory = false

-- to a start, whose PID is at least 1
abbrev pub is_start : Scripted → Bool
is_start (Started pid) = nat_lt 0 pid
is_start Running = false
is_start (Over ended) = false
is_start Done = false
is_start (Seen seen) = false
is_start (At reading) = false
is_start Refused = false
is_start NoMemory = false

-- to a path check
abbrev pub is_seen : Scripted → Bool
is_seen (Seen seen) = true
is_seen (Started pid) = false
is_seen Done = false
is_seen Running = false
is_seen (Over ended) = false
is_seen (At reading) = false
is_seen Refused = false
is_seen NoMemory = false

-- to a clock reading
abbrev pub is_reading : Scripted → Bool
is_reading (At reading) = true
is_reading (Started pid) = false
is_reading Done = false
is_reading Running = false
is_reading (Over ended) = false
is_reading (Seen seen) = false
is_reading Refused = false
is_reading NoMemory = false

-- the answer is of the call's kind
abbrev pub takes_answer : EdgeCall → Scripted → Bool
takes_answer (Start job run conn) a = is_start a
takes_answer (Term job run) a = is_done a
takes_answer (Kill job run) a = is_done a
takes_answer (Poll job run) a = is_poll a
takes_answer (Bind job) a = is_done a
takes_answer (Close job conn) a = is_done a
takes_answer (Release job) a = is_done a
takes_answer Look a = is_seen a
takes_answer Clock a = is_reading a

-- an answer that the call does not take is a refusal, but for want of memory
abbrev pub refusal_in_place : Scripted → Scripted
refusal_in_place NoMemory = NoMemory
refusal_in_place (Started pid) = Refused
refusal_in_place Done = Refused
refusal_in_place Running = Refused
refusal_in_place (Over ended) = Refused
refusal_in_place (Seen seen) = Refused
refusal_in_place (At reading) = Refused
refusal_in_place Refused = Refused

-- what the script's next answer is to the call
abbrev pub answer_to : EdgeCall → Option Scripted → Scripted
answer_to call None = Refused
answer_to call (Some a) = if takes_answer call a then a else refusal_in_place a

-- The call is answered by the script's next answer. If there is none, or no room to list the call,
-- it is refused.
abbrev pub answer_of : EdgeCall → Memory → Scripted
answer_of call m = if has_call_room m then answer_to call (slice_get m.script m.used) else Refused

-- the count of failures after the answer
abbrev pub counted : Scripted → ℕ → ℕ
counted Refused n = one_more n
counted NoMemory n = one_more n
counted (Started pid) n = n
counted Done n = n
counted Running n = n
counted (Over ended) n = n
counted (Seen seen) n = n
counted (At reading) n = n

-- the edge after it gave a call the script's next answer: as given, or as the refusal that it is to
-- the call
abbrev pub entered : EdgeCall → Scripted → Memory → Memory
entered call a m = record m {
  used = m.used + 1;
  calls = m.calls ++ (call, a) ∷ [];
  failures = counted a m.failures;
}

-- the edge after a call that it refused and could not list: it records no more
abbrev pub untold : Memory → Memory
untold m = record m { is_telling = false; failures = one_more m.failures }

-- the edge after a call that takes an answer of the script: it is listed with its answer, if there
-- is room
abbrev pub after_call : EdgeCall → Memory → Memory
after_call call m = if has_call_room m then entered call (answer_of call m) m else untold m

-- the edge after a call that takes none, and is done
abbrev pub after_done : EdgeCall → Memory → Memory
after_done call m =
    if has_call_room m then record m { calls = m.calls ++ (call, Done) ∷ [] }
    else record m { is_telling = false }
