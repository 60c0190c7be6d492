-- What the lines of a journal are to the machine.
use Rattle.std.specs.Prelude.{ℕ, List, Option, Some, None}
use Rattle.history_model.specs.declared.event.Event as journal
use Rattle.history_model.specs.Machine.{Event, Unreadable}
use Rattle.job_table.specs.Taking.{machine_event}
use Rattle.ctl_protocol.specs.EventLines.{event_at}

-- the event that was read, or one that is unreadable
abbrev pub read_as : Option journal.Event → Event
read_as None = Unreadable
read_as (Some event) = machine_event event

-- the event of a line, which may be unreadable
abbrev pub event_in : List ℕ → Event
event_in line = read_as (event_at line)
