-- The rest of a turn whose first event was accepted.
use Rattle.std.proofs.Common.{◌≡◌, ℕ, true, List, [], Option, None, refl, sym, ap, subst, ◌∙◌}
use Rattle.std.specs.List.{list_all}
use Rattle.history_model.specs.Machine.{State, Event}
use Rattle.loaded_jobs.specs.Tables.{Table, is_known}
use Rattle.loaded_jobs.specs.StandsFor.{KeepsState, labelled, acts_in}
use Rattle.job_table.specs.Ends.{AreKnown, lent_acts, names_in}
use Rattle.loaded_jobs.specs.Numbers.{IsNumbered}
use Rattle.job_table.specs.declared.Step.{Step}
use Rattle.outside.specs.declared.pending_answer.PendingAnswer.{PendingAnswer}
use Rattle.launcher.specs.Journals.{JournalState, Grows}
use Rattle.launcher.specs.HostTurns.{Begins, Executed, IsLed, NamesLabel, trace}
use Rattle.launcher.proofs.TurnsLemmas.{Settles, turned-at}
use Rattle.launcher.specs.LoadTurns.{Finishes, HasTaken}
use Rattle.child_edge.specs.Calls.{ToldCall}

-- the orders of the step are those of the event, and the turn goes by the names of the table that the event left
pub finished : (before mid new : Table) (s : State) (e : Event) (line : List ℕ) (lent : Step) (first after : List PendingAnswer) (a b c : Option (List ToldCall)) (k m n : JournalState) →
    lent_acts lent ≡ acts_in mid → AreKnown lent → names_in lent ≡ mid.names → IsNumbered mid → Executed lent.orders.now [] first a b → Settles mid first after new b c m n →
    Grows k m line → NamesLabel e → IsLed s → KeepsState before s → HasTaken s e mid → Finishes s e line mid.names new (trace a k) (trace c n)
unfolding turned-at
finished before mid new s e line lent first after a b c k m n acts known names numbered executed settles noted short led keeps taken =
    let begins : Begins s e None mid [] first a b = record {
      orders = lent.orders.now;
      executed = executed;
      kept = taken.kept;
      replies = taken.accepted;
      own = λ none. record { once = numbered.once; named = numbered.named };
      labels = ap (λ ns. labelled ns lent.orders.now) (sym names) ∙ acts ∙ sym taken.orders;
      known = subst (λ ns. list_all (is_known ns) lent.orders.now ≡ true) names known;
    } in
    record { turn = turned-at s e line before mid new first after a b c k m n short led keeps begins noted settles; names_are = refl }
