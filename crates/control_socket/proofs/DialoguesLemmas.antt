-- What a dialogue does in one step after others.
use Rattle.std.proofs.Common.{inl, inr, ℕ, List, Result, Ok, Err, OnErr, subst, sym}
use Rattle.history_model.specs.declared.Reply.{Reply}
use Rattle.control_socket.specs.declared.dialogue.Dialogue.{Dialogue}
use Rattle.control_socket.specs.Dialogues.{Converses, EndsWith, Reads, SendsOn, TalkEnds, unsent, sent_on, talked, took, ended, sent, unanswered}

pub sends_append : {first mid new : Dialogue} → SendsOn first mid → SendsOn mid new → SendsOn first new
sends_append sends unsent = sends
sends_append sends (sent_on more last) = sent_on (sends_append sends more) last

pub on_err : {V E P : Type 0} (result : Result V E) → P → OnErr result P
on_err (Ok value) holds = tt
on_err (Err error) holds = holds

module _ {A : Type 0} {Answered : List ℕ → Reply → A → A → Type 0} {first : Dialogue} {from : A} where
  pub converses_reads : {mid new : Dialogue} {now : A} → Converses Answered first from mid now → Reads mid new → Converses Answered first from new now
  converses_reads talk (inl (piece, takes)) = took talk takes
  converses_reads talk (inr (inl ends)) = ended talk ends
  converses_reads {now = now} talk (inr (inr same)) = subst (λ d. Converses Answered first from d now) (sym same) talk

  -- it ends with no line after its steps, or with those of a talk that was broken off
  pub ends_here : {last : Dialogue} {now : A} → Converses Answered first from last now → EndsWith Answered first from now
  ends_here {last = last} {now = now} all = record { last = last; before = now; converses = all; loses = unanswered }

  pub ends_talk : {mid : Dialogue} {now after : A} → Converses Answered first from mid now → TalkEnds Answered mid now after → EndsWith Answered first from after
  ends_talk all talk = record { last = talk.last; before = talk.before; converses = talked all talk.talks; loses = talk.loses }

  pub converses_sends : {mid new : Dialogue} {now : A} → Converses Answered first from mid now → SendsOn mid new → Converses Answered first from new now
  converses_sends talk unsent = talk
  converses_sends talk (sent_on sends more) = sent (converses_sends talk sends) more
