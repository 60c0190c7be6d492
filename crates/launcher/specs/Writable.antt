-- What a line of a journal can say: the values that the launcher's own types hold.
use Rattle.std.specs.Prelude.{◌≡◌, ◌<◌, ◌^◌, Option, Some, None, true, false, pos, negsuc, ⊤, IsUtf8}
use Rattle.std.specs.List.{AllByRecursion}
use Rattle.history_model.specs.declared.Refusal.{Refusal}
use Rattle.history_model.specs.declared.event.Event.{Event}
use Rattle.ctl_protocol.specs.Requests.{unasked}
use Rattle.ctl_protocol.specs.Objects.{Plain, text, flag, count, whole}
use Rattle.ctl_protocol.specs.EventWriter.{line_members, is_writable}
use Rattle.ctl_protocol.specs.declared.header.Header.{Header}
use Rattle.ctl_protocol.specs.declared.header.ZoneText.{ZoneText}
use Rattle.ctl_protocol.specs.HeaderLines.{plain_members, setting_members, zone_member, is_zone, IsHeader}
use Rattle.launcher.specs.LoadTurns.{is_memory}
use Rattle.launcher.specs.declared.input.Input.{Input}
use Rattle.launcher.specs.declared.input.Input.TheVariants as inputs
use Rattle.launcher.specs.Inputs.{Incoming, event_of, input_event}

-- a text is UTF-8, and a number has 64 bits
abbrev pub IsFit : Plain → Type 0
IsFit (text s) = IsUtf8 s
IsFit (flag b) = ⊤
IsFit (count n) = n < 2 ^ 64
IsFit (whole (pos n)) = n < 2 ^ 63
IsFit (whole (negsuc n)) = n < 2 ^ 63

-- all that the event says is such a text or number
abbrev pub SaysFit : Event → Type 0
SaysFit e = AllByRecursion (λ m. IsFit m.1) (line_members e)

-- the event names its job by a label, and all that it says is such a text or number
pub record IsWritable (e : Event) : Type 0 where
  pub writable : is_writable e ≡ true
  pub fit : SaysFit e

-- if something came, it can be written
abbrev pub IsWritableIf : Option Incoming → Type 0
IsWritableIf None = ⊤
IsWritableIf (Some incoming) = IsWritable (event_of unasked incoming)

-- what was heard, if memory was not wanting, can be written
abbrev pub WritesWhat : Option Refusal → Option Incoming → Type 0
WritesWhat refusal incoming = is_memory refusal ≡ false → IsWritableIf incoming

-- the same of an input by its type alone, which says nothing of a line
abbrev pub IsWritableInput : Input → Type 0
IsWritableInput (inputs.Line line) = ⊤
IsWritableInput (inputs.Clock at) = IsWritableIf (input_event (inputs.Clock at))
IsWritableInput (inputs.Saw path obs) = IsWritableIf (input_event (inputs.Saw path obs))
IsWritableInput (inputs.Came job conn) = IsWritableIf (input_event (inputs.Came job conn))
IsWritableInput (inputs.Left job conn) = IsWritableIf (input_event (inputs.Left job conn))
IsWritableInput (inputs.Ended job run how) = IsWritableIf (input_event (inputs.Ended job run how))
IsWritableInput (inputs.WaitRefused job run) = IsWritableIf (input_event (inputs.WaitRefused job run))

-- ---- headers

-- what names the zone is such a text or number, and what is in a zone file is bytes
pub record IsFitZone (zone : ZoneText) : Type 0 where
  pub bytes : is_zone zone ≡ true
  pub fit : IsFit (zone_member zone).1

-- the header's reading is within its limits, its settings are of labels, each once, in byte order,
-- and all that it says is UTF-8 or a number of 64 bits
pub record IsWritableHeader (h : Header) : Type 0 where
  pub is : IsHeader h
  pub fit : AllByRecursion (λ m. IsFit m.1) (plain_members h)
  pub labels : AllByRecursion (λ m. IsUtf8 m.0) (setting_members h.overrides)
