-- The lines of a journal are its header's and those of its events.
use Rattle.std.proofs.Common.{◌≡◌, ℕ, List, [], ◌∷◌, ◌++◌, map, ap, ◌∙◌, append_assoc, append-nil}
use Rattle.std.specs.List.{flat_map}
use Rattle.serde_json.specs.Data.{Data}
use Rattle.serde_json.specs.Written.{compact_text}
use Rattle.history_model.specs.declared.event.Event.{Event}
use Rattle.ctl_protocol.specs.declared.members.Form.TheVariants as forms
use Rattle.ctl_protocol.specs.Lines.{lines_of, rest_of}
use Rattle.ctl_protocol.proofs.CutLemmas.{lines_none, rest_none}
use Rattle.replay_loop.specs.ReplayOutcomes.{input_lines, last_line}
use Rattle.ctl_protocol.specs.declared.header.Header.{Header}
use Rattle.ctl_protocol.specs.Objects.{line_of}
use Rattle.ctl_protocol.specs.EventWriter.{event_object, event_line}
use Rattle.ctl_protocol.specs.HeaderLines.{header_object, header_line}
use Rattle.launcher_laws.proofs.NoNewlineLemmas.{free_text, one_line, no_rest}

-- the line of an event, without its newline
abbrev pub event_object_text : Event → List ℕ
event_object_text e = compact_text (event_object forms.Event e)

abbrev pub header_object_text : Header → List ℕ
header_object_text h = compact_text (header_object h)

line_first : (d : Data) (more : List ℕ) → lines_of (line_of d ++ more) ≡ compact_text d ∷ lines_of more
line_first d more = ap lines_of (append_assoc (compact_text d) (10 ∷ []) more) ∙ one_line (compact_text d) more (free_text d)

line_past : (d : Data) (more : List ℕ) → rest_of (line_of d ++ more) ≡ rest_of more
line_past d more = ap rest_of (append_assoc (compact_text d) (10 ∷ []) more) ∙ no_rest (compact_text d) more (free_text d)

event_lines : (events : List Event) → lines_of (flat_map event_line events) ≡ map event_object_text events
event_lines [] = lines_none []
event_lines (e ∷ events) = line_first (event_object forms.Event e) (flat_map event_line events) ∙ ap (λ ls. event_object_text e ∷ ls) (event_lines events)

events_past : (events : List Event) → rest_of (flat_map event_line events) ≡ []
events_past [] = rest_none []
events_past (e ∷ events) = line_past (event_object forms.Event e) (flat_map event_line events) ∙ events_past events

-- the lines of a journal that holds the header's line and those of the events
pub journal_lines : (h : Header) (events : List Event) → input_lines (header_line h ++ flat_map event_line events) ≡ header_object_text h ∷ map event_object_text events
journal_lines h events =
    let all = header_line h ++ flat_map event_line events in
    let lines : lines_of all ≡ header_object_text h ∷ map event_object_text events =
    line_first (header_object h) (flat_map event_line events) ∙ ap (λ ls. header_object_text h ∷ ls) (event_lines events) in
    let rest : rest_of all ≡ [] = line_past (header_object h) (flat_map event_line events) ∙ events_past events in
    ap (λ ls. ls ++ last_line (rest_of all)) lines ∙ ap (λ r. (header_object_text h ∷ map event_object_text events) ++ last_line r) rest ∙ append-nil (header_object_text h ∷ map event_object_text events)
