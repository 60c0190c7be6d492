-- What a client asked in all, what it was answered, and what it was sent.
use Rattle.std.specs.Prelude.{◌≡◌, ℕ, List, [], ◌∷◌, ◌++◌, take, Option, Some, None, if◌then◌else◌}
use Rattle.std.specs.List.{take_while}
use Rattle.history_model.specs.declared.Reply.{Reply}
use Rattle.ctl_protocol.specs.OutcomeLines.{reply_line}
use Rattle.control_socket.specs.declared.dialogue.Dialogue.{Dialogue}
use Rattle.ctl_protocol.specs.Lines.{Feed, takes, lines_of, is_short}
use Rattle.control_socket.specs.declared.dialogue.Intake.{Intake}
use Rattle.control_socket.specs.declared.dialogue.Intake.TheVariants.{Open, Ended, TooLong, Refused, Over}
use Rattle.control_socket.specs.Dialogues.{Answers, AnswersNext, Converses, Talks, begun, talked, took, ended, sent, silent, further, told_after}

-- the lines that a piece ends, up to one that is too long; none if nothing more is taken from the client
abbrev pub brought_by : List ℕ → Feed → Intake → List (List ℕ)
brought_by piece feed Open = if takes feed piece then lines_of (feed.rest ++ piece)
    else if feed.refusing then [] else take_while (is_short feed.limit) (lines_of (feed.rest ++ piece))
brought_by piece feed Ended = []
brought_by piece feed TooLong = []
brought_by piece feed Refused = []
brought_by piece feed Over = []

module _ {A : Type 0} (Answered : List ℕ → Reply → A → A → Type 0) where
  -- the line of the reply to a line of the client, or the other reply that it gets
  abbrev pub reply_to : (line : Option (List ℕ)) (old : Dialogue) (before : A) (new : Dialogue) (after : A) →
      Answers Answered line old before new after → List ℕ
  reply_to None old before new after answers = told_after old.intake
  reply_to (Some line) old before new after answers = reply_line answers.0

-- the line, if there was one
abbrev pub line_in : Option (List ℕ) → List (List ℕ)
line_in None = []
line_in (Some line) = line ∷ []

module _ {A : Type 0} {Answered : List ℕ → Reply → A → A → Type 0} where
  -- the lines of the replies, in the order of the lines of the client
  abbrev pub replied_in : {first : Dialogue} {from : A} {new : Dialogue} {after : A} →
      Talks Answered first from new after → List ℕ
  replied_in silent = []
  replied_in (further {mid = mid} {new = new} {before = before} {after = after} talk next) =
      replied_in talk ++ reply_to Answered next.line mid before new after next.answers

  abbrev pub replies_in : {first : Dialogue} {from : A} {new : Dialogue} {after : A} →
      Converses Answered first from new after → List ℕ
  replies_in begun = []
  replies_in (talked all talk) = replies_in all ++ replied_in talk
  replies_in (took all takes) = replies_in all
  replies_in (ended all ends) = replies_in all
  replies_in (sent all sends) = replies_in all

  -- the bytes that it was sent
  abbrev pub sent_in : {first : Dialogue} {from : A} {new : Dialogue} {after : A} →
      Converses Answered first from new after → List ℕ
  sent_in begun = []
  sent_in (talked all talk) = sent_in all
  sent_in (took all takes) = sent_in all
  sent_in (ended all ends) = sent_in all
  sent_in (sent {count = count} {mid = mid} all sends) = sent_in all ++ take count mid.replies.items

  -- the lines of the client that were answered, in order
  abbrev pub lines_talked : {first : Dialogue} {from : A} {new : Dialogue} {after : A} →
      Talks Answered first from new after → List (List ℕ)
  lines_talked silent = []
  lines_talked (further talk next) = lines_talked talk ++ line_in next.line

  abbrev pub lines_in : {first : Dialogue} {from : A} {new : Dialogue} {after : A} →
      Converses Answered first from new after → List (List ℕ)
  lines_in begun = []
  lines_in (talked all talk) = lines_in all ++ lines_talked talk
  lines_in (took all takes) = lines_in all
  lines_in (ended all ends) = lines_in all
  lines_in (sent all sends) = lines_in all

  -- the lines that its pieces brought
  abbrev pub brought_in : {first : Dialogue} {from : A} {new : Dialogue} {after : A} →
      Converses Answered first from new after → List (List ℕ)
  brought_in begun = []
  brought_in (talked all talk) = brought_in all
  brought_in (took {piece = piece} {mid = mid} all takes) = brought_in all ++ brought_by piece mid.requests mid.intake
  brought_in (ended all ends) = brought_in all
  brought_in (sent all sends) = brought_in all
