-- What passes between one client and who answers.
use Rattle.std.specs.Prelude.{◌≡◌, ◌⊎◌, ℕ, true, false, List, [], ◌++◌, drop, Option, Some, None, if◌then◌else◌}
use Rattle.history_model.specs.declared.Reply.{Reply}
use Rattle.history_model.specs.declared.Refusal.TheVariants.{BadRequest}
use Rattle.ctl_protocol.specs.Lines.{Feed, GivesLine, fed, line_limit, stopped, takes}
use Rattle.ctl_protocol.specs.OutcomeLines.{reply_line}
use Rattle.control_socket.specs.declared.dialogue.Dialogue.{Dialogue}
use Rattle.control_socket.specs.declared.dialogue.Intake.{Intake}
use Rattle.control_socket.specs.declared.dialogue.Intake.TheVariants.{Open, Ended, TooLong, Refused, Over}

-- what is still taken from a client that sent this piece, and the requests with it
abbrev pub intake_with : List ℕ → Feed → Intake → Intake
intake_with piece feed Open = if takes feed piece then Open else TooLong
intake_with piece feed Ended = Ended
intake_with piece feed TooLong = TooLong
intake_with piece feed Refused = Refused
intake_with piece feed Over = Over

abbrev pub requests_with : List ℕ → Feed → Intake → Feed
requests_with piece feed Open = if takes feed piece then fed feed piece else stopped feed piece
requests_with piece feed Ended = feed
requests_with piece feed TooLong = feed
requests_with piece feed Refused = feed
requests_with piece feed Over = feed

-- the next piece of what the client sends
pub record Takes (piece : List ℕ) (old new : Dialogue) : Type 0 where
  pub requests : new.requests ≡ requests_with piece old.requests old.intake
  pub intake : new.intake ≡ intake_with piece old.requests old.intake
  pub replies : new.replies.items ≡ old.replies.items

-- the client sends no more
abbrev pub intake_ended : Intake → Intake
intake_ended Open = Ended
intake_ended Ended = Ended
intake_ended TooLong = TooLong
intake_ended Refused = Over
intake_ended Over = Over

pub record Ends (old new : Dialogue) : Type 0 where
  pub requests : new.requests ≡ old.requests
  pub intake : new.intake ≡ intake_ended old.intake
  pub replies : new.replies.items ≡ old.replies.items

-- `count` bytes of the replies were sent, the first ones
pub record Sends (count : ℕ) (old new : Dialogue) : Type 0 where
  pub requests : new.requests ≡ old.requests
  pub intake : new.intake ≡ old.intake
  pub lines : new.has_lines ≡ old.has_lines
  pub replies : new.replies.items ≡ drop count old.replies.items

-- Nothing came yet, nothing was answered, and nothing waits to be sent.
pub record IsEmpty (dialogue : Dialogue) : Type 0 where
  pub requests : dialogue.requests ≡ record { lines = []; rest = []; limit = line_limit; refusing = false }
  pub replies : dialogue.replies.items ≡ []
  pub intake : dialogue.intake ≡ Open
  pub lines : dialogue.has_lines ≡ false

-- parts of the replies were sent, one after another
pub data SendsOn (first : Dialogue) : Dialogue → Type 0 where
  unsent : SendsOn first first
  sent_on : {count : ℕ} {mid new : Dialogue} → SendsOn first mid → Sends count mid new → SendsOn first new

-- a piece came, or the end, or nothing
abbrev pub Reads : Dialogue → Dialogue → Type 0
Reads old new = ((piece : List ℕ) × Takes piece old new) ⊎ Ends old new ⊎ (new ≡ old)

-- pieces came, one after another, perhaps the end
pub data ReceivesOn (first : Dialogue) : Dialogue → Type 0 where
  not_received : ReceivesOn first first
  received_on : {mid new : Dialogue} → ReceivesOn first mid → Reads mid new → ReceivesOn first new

-- what a client is still taken from, once each whole line is answered
abbrev pub intake_after : Intake → Intake
intake_after Open = Open
intake_after Ended = Over
intake_after TooLong = Refused
intake_after Refused = Refused
intake_after Over = Over

-- the reply that it then gets: that a line was too long
abbrev pub told_after : Intake → List ℕ
told_after TooLong = reply_line (record { refusal = Some BadRequest; text = [] })
told_after Open = []
told_after Ended = []
told_after Refused = []
told_after Over = []

module _ {A : Type 0} (Answered : List ℕ → Reply → A → A → Type 0) where
  -- The client's next whole line is answered, once, and the line of the reply comes after those that wait to be sent. If there is none, the
  -- client may get the reply that a line was too long.
  abbrev pub Answers : Option (List ℕ) → Dialogue → A → Dialogue → A → Type 0
  Answers None old before new after = (after ≡ before) × (new.has_lines ≡ false)
      × (new.intake ≡ intake_after old.intake)
      × (new.replies.items ≡ old.replies.items ++ told_after old.intake)
  Answers (Some line) old before new after = (reply : Reply) × Answered line reply before after
      × (new.has_lines ≡ old.has_lines) × (new.intake ≡ old.intake)
      × (new.replies.items ≡ old.replies.items ++ reply_line reply)

  -- one step of a dialogue
  pub record AnswersNext (old : Dialogue) (before : A) (new : Dialogue) (after : A) : Type 0 where
    pub line : Option (List ℕ)
    pub asked : old.has_lines ≡ true
    pub gives : GivesLine old.requests line new.requests
    pub answers : Answers line old before new after

  -- Where there was no memory the client's next whole line may have been answered, and its reply lost. Nobody else was answered.
  pub data Loses (old : Dialogue) (before : A) : A → Type 0 where
    unanswered : Loses old before before
    reply_lost : {line : List ℕ} {rest : Feed} {reply : Reply} {after : A} →
        GivesLine old.requests (Some line) rest → Answered line reply before after → Loses old before after

  -- the steps of a dialogue, one after another
  pub data Talks (first : Dialogue) (from : A) : Dialogue → A → Type 0 where
    silent : Talks first from first from
    further : {mid new : Dialogue} {before after : A} →
        Talks first from mid before → AnswersNext mid before new after → Talks first from new after

  -- All that becomes of a dialogue: pieces come, lines are answered, replies are sent.
  pub data Converses (first : Dialogue) (from : A) : Dialogue → A → Type 0 where
    begun : Converses first from first from
    talked : {mid new : Dialogue} {before after : A} →
        Converses first from mid before → Talks mid before new after → Converses first from new after
    took : {piece : List ℕ} {mid new : Dialogue} {now : A} →
        Converses first from mid now → Takes piece mid new → Converses first from new now
    ended : {mid new : Dialogue} {now : A} →
        Converses first from mid now → Ends mid new → Converses first from new now
    sent : {count : ℕ} {mid new : Dialogue} {now : A} →
        Converses first from mid now → Sends count mid new → Converses first from new now

  -- answers that were broken off, after some
  pub record TalkEnds (first : Dialogue) (from after : A) : Type 0 where
    pub last : Dialogue
    pub before : A
    pub talks : Talks first from last before
    pub loses : Loses last before after

  -- A dialogue that ends: it went on by its steps alone, and the reply to the line after them may be lost.
  pub record EndsWith (first : Dialogue) (from after : A) : Type 0 where
    pub last : Dialogue
    pub before : A
    pub converses : Converses first from last before
    pub loses : Loses last before after
