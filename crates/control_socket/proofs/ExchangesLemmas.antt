-- What a client is sent is what it was answered, and what was answered are the lines that its pieces brought.
use Rattle.std.proofs.Common.{◌≡◌, ℕ, Bool, true, false, List, [], ◌∷◌, ◌++◌, take, drop, Option, Some, None, refl, sym, ap, ◌∙◌, append_assoc}
use Rattle.std.specs.Prelude.{if◌then◌else◌}
use Rattle.std.specs.List.{take_while}
use Rattle.std.proofs.lemmas.List.{append-nil, take-append-drop}
use Rattle.history_model.specs.declared.Reply.{Reply}
use Rattle.ctl_protocol.specs.Lines.{Feed, GivesLine, takes, lines_of, rest_of, is_short}
use Rattle.control_socket.specs.declared.dialogue.Dialogue.{Dialogue}
use Rattle.control_socket.specs.declared.dialogue.Intake.{Intake}
use Rattle.control_socket.specs.declared.dialogue.Intake.TheVariants.{Open, Ended, TooLong, Refused, Over}
use Rattle.control_socket.specs.Dialogues.{Answers, Converses, Talks, begun, talked, took, ended, sent, silent, further, requests_with}
use Rattle.control_socket.specs.Exchanges.{brought_by, reply_to, line_in, replied_in, replies_in, sent_in, lines_talked, lines_in, brought_in}

-- the lines that a feed holds after a piece
pub brought-on : (piece : List ℕ) (feed : Feed) (intake : Intake) → (requests_with piece feed intake).lines ≡ feed.lines ++ brought_by piece feed intake
brought-on piece feed Open = go (takes feed piece) feed.refusing where
  go : (t r : Bool) → (if t then record feed { lines = feed.lines ++ lines_of (feed.rest ++ piece); rest = rest_of (feed.rest ++ piece) }
      else if r then feed else record { lines = feed.lines ++ take_while (is_short feed.limit) (lines_of (feed.rest ++ piece)); rest = []; limit = feed.limit; refusing = true }).lines
      ≡ feed.lines ++ (if t then lines_of (feed.rest ++ piece) else if r then [] else take_while (is_short feed.limit) (lines_of (feed.rest ++ piece)))
  go true r = refl
  go false true = sym (append-nil feed.lines)
  go false false = refl
brought-on piece feed Ended = sym (append-nil feed.lines)
brought-on piece feed TooLong = sym (append-nil feed.lines)
brought-on piece feed Refused = sym (append-nil feed.lines)
brought-on piece feed Over = sym (append-nil feed.lines)

gave : (line : Option (List ℕ)) (old new : Feed) → GivesLine old line new → old.lines ≡ line_in line ++ new.lines
gave None old new gives = ap (λ (f : Feed). f.lines) (sym gives.1)
gave (Some line) old new gives = ap (λ (f : Feed). f.lines) gives

replies-on : {A : Type 0} (Answered : List ℕ → Reply → A → A → Type 0) (line : Option (List ℕ)) (old : Dialogue) (before : A) (new : Dialogue) (after : A) → (answers : Answers Answered line old before new after) →
    new.replies.items ≡ old.replies.items ++ reply_to Answered line old before new after answers
replies-on Answered None old before new after answers = answers.3
replies-on Answered (Some line) old before new after answers = answers.4

module _ {A : Type 0} {Answered : List ℕ → Reply → A → A → Type 0} where
  talk-on : {first : Dialogue} {from : A} {new : Dialogue} {after : A} → (talk : Talks Answered first from new after) → new.replies.items ≡ first.replies.items ++ replied_in talk
  talk-on {first = first} silent = sym (append-nil first.replies.items)
  talk-on {first = first} (further {mid = mid} {new = new} {before = before} {after = after} talk next) =
      let reply = reply_to Answered next.line mid before new after next.answers in
      replies-on Answered next.line mid before new after next.answers ∙ ap (λ l. l ++ reply) (talk-on talk)
      ∙ append_assoc first.replies.items (replied_in talk) reply

  pub sent-all : {first : Dialogue} {from : A} {new : Dialogue} {after : A} → (all : Converses Answered first from new after) → sent_in all ++ new.replies.items ≡ first.replies.items ++ replies_in all
  sent-all {first = first} begun = sym (append-nil first.replies.items)
  sent-all {first = first} (talked {mid = mid} all talk) =
      ap (λ l. sent_in all ++ l) (talk-on talk) ∙ sym (append_assoc (sent_in all) mid.replies.items (replied_in talk))
      ∙ ap (λ l. l ++ replied_in talk) (sent-all all) ∙ append_assoc first.replies.items (replies_in all) (replied_in talk)
  sent-all (took all takes) = ap (λ l. sent_in all ++ l) takes.replies ∙ sent-all all
  sent-all (ended all ends) = ap (λ l. sent_in all ++ l) ends.replies ∙ sent-all all
  sent-all (sent {count = count} {mid = mid} all sends) =
      ap (λ l. (sent_in all ++ take count mid.replies.items) ++ l) sends.replies
      ∙ append_assoc (sent_in all) (take count mid.replies.items) (drop count mid.replies.items)
      ∙ ap (λ l. sent_in all ++ l) (take-append-drop count mid.replies.items) ∙ sent-all all

  talked-lines : {first : Dialogue} {from : A} {new : Dialogue} {after : A} → (talk : Talks Answered first from new after) → lines_talked talk ++ new.requests.lines ≡ first.requests.lines
  talked-lines silent = refl
  talked-lines (further {mid = mid} {new = new} talk next) =
      append_assoc (lines_talked talk) (line_in next.line) new.requests.lines
      ∙ ap (λ l. lines_talked talk ++ l) (sym (gave next.line mid.requests new.requests next.gives)) ∙ talked-lines talk

  pub lines-all : {first : Dialogue} {from : A} {new : Dialogue} {after : A} → (all : Converses Answered first from new after) → lines_in all ++ new.requests.lines ≡ first.requests.lines ++ brought_in all
  lines-all {first = first} begun = sym (append-nil first.requests.lines)
  lines-all {new = new} (talked all talk) =
      append_assoc (lines_in all) (lines_talked talk) new.requests.lines ∙ ap (λ l. lines_in all ++ l) (talked-lines talk) ∙ lines-all all
  lines-all {first = first} (took {piece = piece} {mid = mid} all takes) =
      ap (λ (f : Feed). lines_in all ++ f.lines) takes.requests
      ∙ ap (λ l. lines_in all ++ l) (brought-on piece mid.requests mid.intake)
      ∙ sym (append_assoc (lines_in all) mid.requests.lines (brought_by piece mid.requests mid.intake))
      ∙ ap (λ l. l ++ brought_by piece mid.requests mid.intake) (lines-all all)
      ∙ append_assoc first.requests.lines (brought_in all) (brought_by piece mid.requests mid.intake)
  lines-all (ended all ends) = ap (λ (f : Feed). lines_in all ++ f.lines) ends.requests ∙ lines-all all
  lines-all (sent all sends) = ap (λ (f : Feed). lines_in all ++ f.lines) sends.requests ∙ lines-all all
