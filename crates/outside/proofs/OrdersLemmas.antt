-- The one call that was made for an order, and its answer.
use Rattle.std.proofs.Common.{◌≡◌, ℕ, Bool, List, [], ◌∷◌, Option, Some, None, refl, sym, ap, subst, ◌∙◌}
use Rattle.std.specs.Prelude.{Result, Ok, Err, is_ok}
use Rattle.history_model.specs.declared.Act.{Act}
use Rattle.history_model.specs.declared.Act.TheVariants as acts
use Rattle.history_model.specs.declared.Answer.{Answer}
use Rattle.history_model.specs.declared.Answer.TheVariants.{Termed, Killed}
use Rattle.history_model.specs.declared.Order.{Order}
use Rattle.child_edge.specs.Calls.{Tells, start_answer, done_answer, ToldCall, is_done}
use Rattle.child_edge.specs.declared.plain.EdgeCall.TheVariants.{Start, Term, Kill, Close, Release}
use Rattle.child_edge.specs.declared.plain.EdgeFault.{EdgeFault}
use Rattle.child_edge.specs.declared.plain.EdgeFault.TheVariants as Fault
use Rattle.child_edge.specs.declared.plain.Scripted.{Scripted}
use Rattle.child_edge.specs.declared.plain.Scripted.TheVariants.{Done}
use Rattle.outside.specs.declared.pending_answer.PendingAnswer.{PendingAnswer}
use Rattle.outside.specs.Orders.{call_by, answer_in, spawn_answer, Executes}

made : (order : Order) (act : Act) (a : Scripted) (pending : Option PendingAnswer) (old new : Option (List ToldCall)) → order.act ≡ act →
    Tells old ((call_by order.job act, a) ∷ []) new → pending ≡ answer_in (call_by order.job act, a) → Executes order pending old new
made order act a pending old new is tells gives = record {
  answer = a;
  tells = subst (λ x. Tells old ((call_by order.job x, a) ∷ []) new) (sym is) tells;
  gives = gives ∙ ap (λ x. answer_in (call_by order.job x, a)) (sym is);
}

done-ok : {U : Type 0} (r : Result U EdgeFault) → is_ok r ≡ is_done (done_answer r)
done-ok (Ok u) = refl
done-ok (Err Fault.NoMemory) = refl
done-ok (Err Fault.Refused) = refl

pub made_start : (order : Order) (run : ℕ) (conn : Option ℕ) (answer : Answer) (r : Result ℕ EdgeFault) (old new : Option (List ToldCall)) → order.act ≡ acts.Spawn run conn →
    Tells old ((Start order.job run conn, start_answer r) ∷ []) new → answer ≡ spawn_answer run (start_answer r) →
    Executes order (Some (record { job = order.job; answer = answer })) old new
made_start order run conn answer r old new is tells same =
    made order (acts.Spawn run conn) (start_answer r) _ old new is tells (ap (λ a. Some (record { job = order.job; answer = a })) same)

pub made_term : {U : Type 0} (order : Order) (run : ℕ) (ok : Bool) (r : Result U EdgeFault) (old new : Option (List ToldCall)) → order.act ≡ acts.Term run →
    Tells old ((Term order.job run, done_answer r) ∷ []) new → ok ≡ is_ok r → Executes order (Some (record { job = order.job; answer = Termed run ok })) old new
made_term order run ok r old new is tells same =
    made order (acts.Term run) (done_answer r) _ old new is tells (ap (λ b. Some (record { job = order.job; answer = Termed run b })) (same ∙ done-ok r))

pub made_kill : {U : Type 0} (order : Order) (run : ℕ) (ok : Bool) (r : Result U EdgeFault) (old new : Option (List ToldCall)) → order.act ≡ acts.Kill run →
    Tells old ((Kill order.job run, done_answer r) ∷ []) new → ok ≡ is_ok r → Executes order (Some (record { job = order.job; answer = Killed run ok })) old new
made_kill order run ok r old new is tells same =
    made order (acts.Kill run) (done_answer r) _ old new is tells (ap (λ b. Some (record { job = order.job; answer = Killed run b })) (same ∙ done-ok r))

pub made_close : (order : Order) (conn : ℕ) (old new : Option (List ToldCall)) → order.act ≡ acts.Close conn → Tells old ((Close order.job conn, Done) ∷ []) new → Executes order None old new
made_close order conn old new is tells = made order (acts.Close conn) Done None old new is tells refl

pub made_release : (order : Order) (old new : Option (List ToldCall)) → order.act ≡ acts.Gone → Tells old ((Release order.job, Done) ∷ []) new → Executes order None old new
made_release order old new is tells = made order acts.Gone Done None old new is tells refl
