-- What comes to a launcher, as events of the journal and of the machine.
use Rattle.std.specs.Prelude.{ℕ, Bool, true, false, if◌then◌else◌, List, Option, Some, None, option_map}
use Rattle.history_model.specs.declared.event.Event as journal
use Rattle.history_model.specs.declared.event.Event.TheVariants as journaled
use Rattle.history_model.specs.declared.event.JobItem.TheVariants as happens
use Rattle.history_model.specs.Labels.{is_label}
use Rattle.ctl_protocol.specs.EventLines.{request_at}
use Rattle.ctl_protocol.specs.declared.request.Outside.{Outside}
use Rattle.ctl_protocol.specs.declared.request.Request.{Request}
use Rattle.ctl_protocol.specs.Requests.{event_with}
use Rattle.launcher.specs.declared.input.Input.{Input}
use Rattle.launcher.specs.declared.input.Input.TheVariants as inputs

-- what comes to a launcher, before the outside was asked: a client's request, or an event that
-- happened
pub data Incoming : Type 0 where
  asked : Request → Incoming
  happened : journal.Event → Incoming

-- the event that it is, with what the outside answered to it
abbrev pub event_of : Outside → Incoming → journal.Event
event_of outside (asked request) = event_with outside request
event_of outside (happened event) = event

-- what happens to the job of this label; under a name that is not a label nothing does
abbrev pub event_if_label : List ℕ → journal.Event → Option Incoming
event_if_label name event = if is_label name then Some (happened event) else None

-- what a client's line asks, if it is a request
abbrev pub asked_by : List ℕ → Option Incoming
asked_by line = option_map asked (request_at line)

-- what an input is, before the outside was asked; a line that is not a request is nothing
abbrev pub input_event : Input → Option Incoming
input_event (inputs.Line line) = asked_by line.now
input_event (inputs.Clock at) = Some (happened (journaled.Clock at))
input_event (inputs.Saw path obs) = Some (happened (journaled.Saw path.now obs))
input_event (inputs.Came job conn) = event_if_label job.now (journaled.OfJob job.now (happens.Came conn))
input_event (inputs.Left job conn) = event_if_label job.now (journaled.OfJob job.now (happens.Left conn))
input_event (inputs.Ended job run how) =
    event_if_label job.now (journaled.OfJob job.now (happens.Ended run how))
input_event (inputs.WaitRefused job run) =
    event_if_label job.now (journaled.OfJob job.now (happens.WaitRefused run))

-- the event takes no memory: an observation, and what happens to a job
abbrev pub takes_none : journal.Event → Bool
takes_none (journaled.Saw path obs) = true
takes_none (journaled.OfJob job item) = true
takes_none _ = false

-- only a line and a clock reading want memory
abbrev pub wants_memory : Input → Bool
wants_memory (inputs.Line line) = true
wants_memory (inputs.Clock at) = true
wants_memory (inputs.Saw path obs) = false
wants_memory (inputs.Came job conn) = false
wants_memory (inputs.Left job conn) = false
wants_memory (inputs.Ended job run how) = false
wants_memory (inputs.WaitRefused job run) = false
