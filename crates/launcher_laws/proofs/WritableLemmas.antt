-- Each event of the turns can be written.
use Rattle.std.proofs.Common.{◌≡◌, inl, inr, ℕ, ◌<◌, ◌^◌, ◌&&◌, true, List, [], ◌∷◌, ◌++◌, map, nat_lt, refl, sym, subst, arith}
use Rattle.std.specs.List.{AllByRecursion}
use Rattle.std.proofs.lemmas.Bool.{and_from}
use Rattle.std.proofs.lemmas.Bool.Decides.{nat_tests}
use Rattle.history_model.specs.declared.Answer.{Answer}
use Rattle.history_model.specs.declared.Answer.TheVariants.{Spawned, SpawnRefused, Termed, Killed}
use Rattle.history_model.specs.declared.event.Event as journal
use Rattle.history_model.specs.Labels.{Label, is_label}
use Rattle.loaded_jobs.specs.Tables.{Name, label_of}
use Rattle.outside.specs.declared.pending_answer.PendingAnswer.{PendingAnswer}
use Rattle.outside.specs.Orders.{answers_in, IsTellable, IsTellablePending}
use Rattle.launcher.specs.JournaledLines.{journaled_answer}
use Rattle.launcher.specs.HostTurns.{IsNamedIn, IsTextLabel}
use Rattle.launcher_laws.specs.TurnRuns.{Turn, Part, IsPartOf, AreParts, answer_told, events_in}
use Rattle.ctl_protocol.specs.declared.request.Outside.{Outside}
use Rattle.ctl_protocol.specs.declared.request.Request.TheVariants as requests
use Rattle.ctl_protocol.specs.Requests.{unasked}
use Rattle.launcher.specs.Inputs.{Incoming, asked, event_of, happened}
use Rattle.launcher.specs.Writable.{IsWritable}

numbered : (run pid : ℕ) → IsTellable (Spawned run pid) → nat_lt 0 pid && nat_lt pid (2 ^ 32) ≡ true
numbered run pid (long, some, few) =
    let above : nat_lt 0 pid ≡ true = grind (arith, nat_tests, some) in
    let below : nat_lt pid (2 ^ 32) ≡ true = grind (arith, nat_tests, few) in
    and_from (nat_lt 0 pid) (nat_lt pid (2 ^ 32)) above below

answer_writable : (job : Label) (answer : Answer) → IsTellable answer → IsTextLabel job → IsWritable (journaled_answer job answer)
answer_writable job (Spawned run pid) is named =
    let short : pid < 2 ^ 64 = omega (arith, is.2) in
    record { writable = and_from (is_label job) (nat_lt 0 pid && nat_lt pid (2 ^ 32)) named.0 (numbered run pid is); fit = (named.1, (short, (is.0, tt))) }
answer_writable job (SpawnRefused run) is named = record { writable = and_from (is_label job) true named.0 refl; fit = (named.1, (is, tt)) }
answer_writable job (Termed run ok) is named = record { writable = and_from (is_label job) true named.0 refl; fit = (named.1, (tt, (is, tt))) }
answer_writable job (Killed run ok) is named = record { writable = and_from (is_label job) true named.0 refl; fit = (named.1, (tt, (is, tt))) }

answers_writable : (names : List Name) (ps : List PendingAnswer) → AllByRecursion IsTellablePending ps → AllByRecursion (IsNamedIn names) ps → AllByRecursion IsWritable (map (answer_told names) ps)
answers_writable names [] tellable named = tt
answers_writable names (p ∷ ps) tellable named = (answer_writable (label_of names p.job) p.answer tellable.0 named.0, answers_writable names ps tellable.1 named.1)

-- what the outside answered has no say in it
answered_writable : (outside : Outside) (incoming : Incoming) → IsWritable (event_of unasked incoming) → IsWritable (event_of outside incoming)
answered_writable outside (asked (requests.Load load)) is = record { writable = is.writable; fit = is.fit }
answered_writable outside (asked (requests.Unload job writes_setting)) is = record { writable = is.writable; fit = is.fit }
answered_writable outside (asked (requests.Set job disabled)) is = record { writable = is.writable; fit = is.fit }
answered_writable outside (asked (requests.Ask job ask)) is = is
answered_writable outside (asked requests.List) is = is
answered_writable outside (asked (requests.Print job)) is = is
answered_writable outside (asked requests.Shutdown) is = is
answered_writable outside (happened event) is = is

part_writable : {T : Type 0} (turn : Turn T) (part : Part) → IsPartOf turn part → AllByRecursion IsWritable part.0
part_writable turn part (inl none) = subst (AllByRecursion IsWritable) (sym none.1) tt
part_writable turn part (inr did) =
    subst (AllByRecursion IsWritable) (sym did.first)
    (answered_writable did.outside did.incoming did.writable, subst (AllByRecursion IsWritable) (sym did.told) (answers_writable did.names (answers_in did.entries) did.tellable did.named))

both : (xs ys : List journal.Event) → AllByRecursion IsWritable xs → AllByRecursion IsWritable ys → AllByRecursion IsWritable (xs ++ ys)
both [] ys left right = right
both (x ∷ xs) ys left right = (left.0, both xs ys left.1 right)

pub parts_writable : {T : Type 0} (turns : List (Turn T)) (parts : List Part) → AreParts turns parts → AllByRecursion IsWritable (events_in parts)
parts_writable turns [] are = tt
parts_writable [] (part ∷ parts) are = absurd are
parts_writable (turn ∷ turns) (part ∷ parts) are = both part.0 (events_in parts) (part_writable turn part are.0) (parts_writable turns parts are.1)
