-- The calls by which orders are carried out, and the answers that they give.
use Rattle.std.specs.Prelude.{◌≡◌, ℕ, ◌<◌, ◌^◌, List, [], ◌∷◌, map, Option, Some, None}
use Rattle.std.specs.List.{filter_map}
use Rattle.history_model.specs.declared.Act.{Act}
use Rattle.history_model.specs.declared.Act.TheVariants as acts
use Rattle.history_model.specs.declared.Answer.{Answer}
use Rattle.history_model.specs.declared.Answer.TheVariants.{Spawned, SpawnRefused, Termed, Killed}
use Rattle.history_model.specs.declared.Order.{Order}
use Rattle.child_edge.specs.Calls.{Tells, ToldCall, is_done}
use Rattle.child_edge.specs.declared.plain.EdgeCall.{EdgeCall}
use Rattle.child_edge.specs.declared.plain.EdgeCall.TheVariants.{Start, Term, Kill, Close, Release}
use Rattle.child_edge.specs.declared.plain.Scripted.{Scripted}
use Rattle.child_edge.specs.declared.plain.Scripted.TheVariants.{Started}
use Rattle.outside.specs.declared.pending_answer.PendingAnswer.{PendingAnswer}

-- the call that an order of the job asks for; a job that was removed gives up its sockets
abbrev pub call_by : ℕ → Act → EdgeCall
call_by job (acts.Spawn run conn) = Start job run conn
call_by job (acts.Term run) = Term job run
call_by job (acts.Kill run) = Kill job run
call_by job (acts.Close conn) = Close job conn
call_by job acts.Gone = Release job

-- the call that an order asks for
abbrev pub call_of : Order → EdgeCall
call_of order = call_by order.job order.act

-- a start that did not start is a refusal
abbrev pub spawn_answer : ℕ → Scripted → Answer
spawn_answer run (Started pid) = Spawned run pid
spawn_answer run _ = SpawnRefused run

-- the answer that the call gave, of the job with that number; the others have none
abbrev pub answer_in : ToldCall → Option PendingAnswer
answer_in (Start job run conn, a) = Some (record { job = job; answer = spawn_answer run a })
answer_in (Term job run, a) = Some (record { job = job; answer = Termed run (is_done a) })
answer_in (Kill job run, a) = Some (record { job = job; answer = Killed run (is_done a) })
answer_in _ = None

-- the answers of these calls, in their order
abbrev pub answers_in : List ToldCall → List PendingAnswer
answers_in entries = filter_map answer_in entries

-- the calls, without their answers
abbrev pub calls_in : List ToldCall → List EdgeCall
calls_in entries = map (λ entry. entry.0) entries

-- the order is carried out by its one call, and the answer is that call's
pub record Executes (order : Order) (pending : Option PendingAnswer)
    (old new : Option (List ToldCall)) : Type 0 where
  pub answer : Scripted
  pub tells : Tells old ((call_of order, answer) ∷ []) new
  pub gives : pending ≡ answer_in (call_of order, answer)

-- the numbers of an answer are such as a line can say: a run of 64 bits, and a PID from 1 to
-- 2^32 - 1
abbrev pub IsTellable : Answer → Type 0
IsTellable (Spawned run pid) = (run < 2 ^ 64) × (0 < pid) × (pid < 2 ^ 32)
IsTellable (SpawnRefused run) = run < 2 ^ 64
IsTellable (Termed run ok) = run < 2 ^ 64
IsTellable (Killed run ok) = run < 2 ^ 64

-- so are those of the answer to an order
abbrev pub IsTellablePending : PendingAnswer → Type 0
IsTellablePending pending = IsTellable pending.answer
