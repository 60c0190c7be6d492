-- What a client says, and is sent.
use Rattle.std.proofs.Common.{rules, ◌≡◌, None, inl, subst, sym}
use Rattle.control_socket.specs.Dialogues.{Converses, SendsOn}
use Rattle.control_socket.specs.Serving.{nobody}
use Rattle.control_socket.proofs.DialoguesLemmas.{converses_sends, ends_here}
use Rattle.control_socket.proofs.client.Client.advance.Goals as goal

pub returns-in-Some-clause-serves : goal.returns-in-Some-clause-serves
returns-in-Some-clause-serves g c = nobody

pub returns-clause-converses : goal.returns-clause-converses
returns-clause-converses g c =
    let before : c.if-not-has_unsent.self.dialogue ≡ c.args.self.now.dialogue = search rules in
    let after : c.if-not-is_silent.self.dialogue ≡ c.send.new.self.dialogue = search rules in
    let talk : Converses g.A.Answers.Answered c.if-not-has_unsent.self.dialogue c.args.turn.now.answers.now c.converse.new.self.dialogue c.converse.new.turn.answers.now = search rules in
    let sends : SendsOn c.converse.new.self.dialogue c.send.new.self.dialogue = search rules in
    let unread : c.args.self.now.failed ≡ None = search rules in (
      unread,
      subst (λ d. Converses g.A.Answers.Answered c.args.self.now.dialogue c.args.turn.now.answers.now d c.converse.new.turn.answers.now) (sym after)
          (subst (λ d. Converses g.A.Answers.Answered d c.args.turn.now.answers.now c.send.new.self.dialogue c.converse.new.turn.answers.now) before (converses_sends talk sends)),
    )

pub returns-in-Err-send-clause-ends : goal.returns-in-Err-send-clause-ends
returns-in-Err-send-clause-ends g c =
    let before : c.if-not-has_unsent.self.dialogue ≡ c.args.self.now.dialogue = search rules in
    let talk : Converses g.A.Answers.Answered c.if-not-has_unsent.self.dialogue c.args.turn.now.answers.now c.converse.new.self.dialogue c.converse.new.turn.answers.now = search rules in
    let unread : c.args.self.now.failed ≡ None = search rules in
    inl (unread, ends_here (subst (λ d. Converses g.A.Answers.Answered d c.args.turn.now.answers.now c.converse.new.self.dialogue c.converse.new.turn.answers.now) before talk))

pub returns-clause-ends : goal.returns-clause-ends
returns-clause-ends g c =
    let before : c.if-not-has_unsent.self.dialogue ≡ c.args.self.now.dialogue = search rules in
    let talk : Converses g.A.Answers.Answered c.if-not-has_unsent.self.dialogue c.args.turn.now.answers.now c.converse.new.self.dialogue c.converse.new.turn.answers.now = search rules in
    let unread : c.args.self.now.failed ≡ None = search rules in
    inl (unread, ends_here (subst (λ d. Converses g.A.Answers.Answered d c.args.turn.now.answers.now c.converse.new.self.dialogue c.converse.new.turn.answers.now) before talk))
