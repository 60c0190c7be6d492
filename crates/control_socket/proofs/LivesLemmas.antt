-- Clients go on by their own dialogues, over any calls of `serve`.
use Rattle.std.proofs.Common.{◌≡◌, ◌≢◌, ◌⊎◌, ◌==◌, ◌∙◌, ◌++◌, ℕ, List, [], Bool, true, false, Option, Some, None, IfSome, IsSome, inl, inr, refl, sym, ap, subst, append_assoc, arith}
use Rattle.std.proofs.lemmas.List.{append-nil}
use Rattle.std.proofs.lemmas.Bool.Decides.{nat_tests}
use Rattle.slab.specs.Slab.{Slab, get}
use Rattle.history_model.specs.declared.Reply.{Reply}
use Rattle.ctl_protocol.specs.Lines.{Feed, GivesLine}
use Rattle.control_socket.specs.declared.client.Client.{Client}
use Rattle.control_socket.specs.declared.dialogue.Dialogue.{Dialogue}
use Rattle.control_socket.specs.Clients.{AllGoOn, AllWait, Comes, GoesOn, MayEnd, MayGo, MovesOn, Waits, WaitsOrComes, WaitsOrGoes, all_stand, goes_on}
use Rattle.control_socket.specs.Dialogues.{Answers, AnswersNext, Converses, EndsWith, ReceivesOn, Loses, Reads, Talks, begun, talked, took, ended, sent, silent, further, unanswered, reply_lost, not_received, received_on}
use Rattle.control_socket.specs.Exchanges.{brought_by, brought_in, lines_in, replies_in, sent_in}
use Rattle.control_socket.specs.Lives.{AnswersClients, IsAlive, IsVacant, Lives, Rounds, answered_of, brought_as, brought_between, brought_to, came, received, next_line, no_line, no_round, replied_to, sent_to, served, taken, went_on}
use Rattle.control_socket.proofs.ExchangesLemmas.{brought-on, lines-all, sent-all}

received-replies : {first new : Dialogue} → ReceivesOn first new → new.replies.items ≡ first.replies.items
received-replies not_received = refl
received-replies (received_on {mid = mid} {new = new} more reads) = go reads ∙ received-replies more where
  go : Reads mid new → new.replies.items ≡ mid.replies.items
  go (inl (piece, takes)) = takes.replies
  go (inr (inl ends)) = ends.replies
  go (inr (inr same)) = ap (λ (d : Dialogue). d.replies.items) same

received-lines : {first new : Dialogue} → (receives : ReceivesOn first new) → new.requests.lines ≡ first.requests.lines ++ brought_between receives
received-lines {first = first} not_received = sym (append-nil first.requests.lines)
received-lines {first = first} (received_on {mid = mid} {new = new} more reads) =
    go reads ∙ ap (λ l. l ++ brought_as reads) (received-lines more) ∙ append_assoc first.requests.lines (brought_between more) (brought_as reads) where
      go : (reads : Reads mid new) → new.requests.lines ≡ mid.requests.lines ++ brought_as reads
      go (inl (piece, takes)) = ap (λ (f : Feed). f.lines) takes.requests ∙ brought-on piece mid.requests mid.intake
      go (inr (inl ends)) = ap (λ (f : Feed). f.lines) ends.requests ∙ sym (append-nil mid.requests.lines)
      go (inr (inr same)) = ap (λ (d : Dialogue). d.requests.lines) same ∙ sym (append-nil mid.requests.lines)

no-failure : {T R : Type 0} (slot : Option T) → IsSome slot → slot ≡ None → R
no-failure None some none = absurd (cc some)
no-failure (Some value) some none = absurd (cc none)

module _ {A : Type 0} (Answered : List ℕ → Reply → A → A → Type 0) where
  one-answer : {from : A} (line : Option (List ℕ)) (old : Dialogue) (before : A) (new : Dialogue) (after : A) → Lives Answered old → GivesLine old.requests line new.requests →
      Answers Answered line old before new after → AnswersClients Answered from before → AnswersClients Answered from after
  one-answer {from = from} None old before new after life gives answers all = subst (λ now. AnswersClients Answered from now) (sym answers.0) all
  one-answer (Some line) old before new after life gives answers all = next_line all life gives answers.1

  of-talk : {from start : A} {first new : Dialogue} {after : A} → Lives Answered first → Talks Answered first start new after → AnswersClients Answered from start → AnswersClients Answered from after
  of-talk life silent all = all
  of-talk life (further {mid = mid} {new = new} {before = before} {after = after} talk next) all =
      one-answer next.line mid before new after (went_on life (talked begun talk)) next.gives next.answers (of-talk life talk all)

  of-all : {from start : A} {first new : Dialogue} {after : A} → Lives Answered first → Converses Answered first start new after → AnswersClients Answered from start → AnswersClients Answered from after
  of-all life begun all = all
  of-all life (talked more talk) all = of-talk (went_on life more) talk (of-all life more all)
  of-all life (took more takes) all = of-all life more all
  of-all life (ended more ends) all = of-all life more all
  of-all life (sent more sends) all = of-all life more all

  of-loses : {from before after : A} {last : Dialogue} → Lives Answered last → Loses Answered last before after → AnswersClients Answered from before → AnswersClients Answered from after
  of-loses life unanswered all = all
  of-loses life (reply_lost gives answered) all = next_line all life gives answered

  of-end : {from before after : A} {first : Dialogue} → Lives Answered first → EndsWith Answered first before after → AnswersClients Answered from before → AnswersClients Answered from after
  of-end life ends all = of-loses (went_on life ends.converses) ends.loses (of-all life ends.converses all)

  living : (client : Client) → IsAlive Answered client → client.failed ≡ None → Lives Answered client.dialogue
  living client (inl failed) none = no-failure client.failed failed none
  living client (inr life) none = life

  its-lines : {from : A} (old : Option Client) (before : A) (new : Option Client) (after : A) → IfSome old (IsAlive Answered) → GoesOn Answered old before new after →
      AnswersClients Answered from before → AnswersClients Answered from after
  its-lines {from = from} None before new after alive goes all = subst (λ now. AnswersClients Answered from now) (sym goes.1) all
  its-lines {from = from} (Some old) before None after alive goes all = go goes where
    go : MayEnd Answered old before after → AnswersClients Answered from after
    go (inl (none, ends)) = of-end (living old alive none) ends all
    go (inr (failed, same)) = subst (λ now. AnswersClients Answered from now) (sym same) all
  its-lines (Some old) before (Some new) after alive goes all = of-all (living old alive goes.0) goes.1 all

  its-life : (old : Option Client) (before : A) (new : Option Client) (after : A) → IfSome old (IsAlive Answered) → GoesOn Answered old before new after → IfSome new (IsAlive Answered)
  its-life None before new after alive goes = subst (λ slot. IfSome slot (IsAlive Answered)) (sym goes.0) tt
  its-life (Some old) before None after alive goes = tt
  its-life (Some old) before (Some new) after alive goes = inr (went_on (living old alive goes.0) goes.1)

  abbrev pub AllAlive : Slab Client → Type 0
  AllAlive clients = (key : ℕ) → IfSome (get clients key) (IsAlive Answered)

  one-moved : {key : ℕ} {old new : Slab Client} {before after : A} → AllAlive old → MovesOn Answered key old before new after → AllAlive new
  one-moved {key = key} {old = old} {new = new} {before = before} {after = after} alive moves other = go (other == key) refl where
    go : (b : Bool) → (other == key) ≡ b → IfSome (get new other) (IsAlive Answered)
    go true is =
        let same : other ≡ key = grind (arith, nat_tests, is) in
        subst (λ place. IfSome (get new place) (IsAlive Answered)) (sym same) (its-life (get old key) before (get new key) after (alive key) moves.its)
    go false is =
        let differ : other ≢ key = (λ same. (let clash : ⊥ = grind (arith, nat_tests, is, same) in clash)) in
        subst (λ slot. IfSome slot (IsAlive Answered)) (sym (moves.others other differ)) (alive other)

  all-moved : {old : Slab Client} {before : A} {new : Slab Client} {after : A} → AllAlive old → AllGoOn Answered old before new after → AllAlive new
  all-moved alive all_stand = alive
  all-moved alive (goes_on more last) = one-moved (all-moved alive more) last

  all-lines : {from : A} {old : Slab Client} {before : A} {new : Slab Client} {after : A} → AllAlive old → AllGoOn Answered old before new after →
      AnswersClients Answered from before → AnswersClients Answered from after
  all-lines alive all_stand all = all
  all-lines {from = from} alive (goes_on {key = key} {mid = mid} {new = new} {now = now} {after = after} more last) all =
      its-lines (get mid key) now (get new key) after (all-moved alive more key) last.its (all-lines alive more all)

  alive-waits : {old new : Client} → IsAlive Answered old → Waits old new → IsAlive Answered new
  alive-waits {old = old} {new = new} alive waits = go alive waits.receives where
    go : IsAlive Answered old → (IsSome new.failed ⊎ ((new.failed ≡ old.failed) × ReceivesOn old.dialogue new.dialogue)) → IsAlive Answered new
    go before (inl failed) = inl failed
    go (inl failed) (inr after) = inl (subst IsSome (sym after.0) failed)
    go (inr life) (inr after) = inr (received life after.1)

  alive-came : (new : Option Client) → IfSome new Comes → IfSome new (IsAlive Answered)
  alive-came None comes = tt
  alive-came (Some new) comes = alive-waits (inr (came comes.fresh.1)) comes.waits

  alive-then : (up : ℕ) (old new : Option Client) → IfSome old (IsAlive Answered) → WaitsOrComes up old new → IfSome new (IsAlive Answered)
  alive-then up None new alive comes = alive-came new comes
  alive-then up (Some old) new alive waits = go waits.ends where
    go : ((new ≡ Some waits.last) ⊎ (MayGo up waits.last × IfSome new Comes)) → IfSome new (IsAlive Answered)
    go (inl stays) = subst (λ slot. IfSome slot (IsAlive Answered)) (sym stays) (alive-waits alive waits.waits)
    go (inr may) = alive-came new may.1

  vacant-alive : (first : Slab Client) → IsVacant first → AllAlive first
  vacant-alive first vacant key = subst (λ slot. IfSome slot (IsAlive Answered)) (sym (vacant key)) tt

  pub all-alive : {first new : Slab Client} → IsVacant first → Rounds Answered first new → AllAlive new
  all-alive {first = first} vacant no_round = vacant-alive first vacant
  all-alive vacant (served rounds all) = all-moved (all-alive vacant rounds) all
  all-alive vacant (taken {up = up} {mid = mid} {new = new} rounds waits) = λ key. alive-then up (get mid key) (get new key) (all-alive vacant rounds key) (waits.each key)

  pub all-answered : {first mid new : Slab Client} {before after : A} → IsVacant first → Rounds Answered first mid → AllGoOn Answered mid before new after →
      AnswersClients Answered before after
  all-answered vacant rounds all = all-lines (all-alive vacant rounds) all no_line

  pub sent-to : {dialogue : Dialogue} → (life : Lives Answered dialogue) → sent_to life ++ dialogue.replies.items ≡ replied_to life
  sent-to (came empty) = empty.replies
  sent-to (went_on {mid = mid} {new = new} life all) =
      append_assoc (sent_to life) (sent_in all) new.replies.items ∙ ap (λ l. sent_to life ++ l) (sent-all all)
      ∙ sym (append_assoc (sent_to life) mid.replies.items (replies_in all)) ∙ ap (λ l. l ++ replies_in all) (sent-to life)
  sent-to (received life receives) = ap (λ l. sent_to life ++ l) (received-replies receives) ∙ sent-to life

  pub answered-of : {dialogue : Dialogue} → (life : Lives Answered dialogue) → answered_of life ++ dialogue.requests.lines ≡ brought_to life
  answered-of (came empty) = ap (λ (f : Feed). f.lines) empty.requests
  answered-of (went_on {mid = mid} {new = new} life all) =
      append_assoc (answered_of life) (lines_in all) new.requests.lines ∙ ap (λ l. answered_of life ++ l) (lines-all all)
      ∙ sym (append_assoc (answered_of life) mid.requests.lines (brought_in all)) ∙ ap (λ l. l ++ brought_in all) (answered-of life)
  answered-of (received {mid = mid} life receives) =
      ap (λ l. answered_of life ++ l) (received-lines receives) ∙ sym (append_assoc (answered_of life) mid.requests.lines (brought_between receives)) ∙ ap (λ l. l ++ brought_between receives) (answered-of life)
