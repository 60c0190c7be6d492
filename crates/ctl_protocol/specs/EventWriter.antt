-- The lines of events, as they are written: every key of the event's shape, in byte order.
use Rattle.std.specs.Prelude.{ℕ, List, [], ◌∷◌, ◌^◌, codes, Bool, true, false, ◌&&◌, nat_lt, if◌then◌else◌}
use Rattle.serde_json.specs.Data.{Data, object, no_members}
use Rattle.history_model.specs.declared.Ended.{Ended}
use Rattle.history_model.specs.declared.Ended.TheVariants.{Code, Signal}
use Rattle.history_model.specs.declared.event.Event.{Event}
use Rattle.history_model.specs.declared.event.Event.TheVariants as events
use Rattle.history_model.specs.declared.event.JobItem.{JobItem}
use Rattle.history_model.specs.declared.event.JobItem.TheVariants as happens
use Rattle.history_model.specs.declared.Ask.{Ask}
use Rattle.history_model.specs.declared.Ask.TheVariants as asks
use Rattle.history_model.specs.declared.Answer.{Answer}
use Rattle.history_model.specs.declared.Answer.TheVariants as answers
use Rattle.history_model.specs.Labels.{is_label}
use Rattle.ctl_protocol.specs.declared.members.Form.{Form}
use Rattle.ctl_protocol.specs.declared.members.Form.TheVariants as forms
use Rattle.ctl_protocol.specs.declared.request.Request.{Request}
use Rattle.ctl_protocol.specs.Requests.{event_with, unasked}
use Rattle.ctl_protocol.specs.Members.{tag_of, has_answers}
use Rattle.ctl_protocol.specs.Objects.{Plain, text, flag, count, with_members, line_of}

-- the name of what a client asks of a job
abbrev pub name_of_ask : Ask → List ℕ
name_of_ask asks.Start = codes "start"
name_of_ask asks.Stop = codes "stop"
name_of_ask (asks.Kickstart kills_first) = codes "kickstart"
name_of_ask asks.Unload = codes "unload"
name_of_ask asks.Shutdown = codes "shutdown"

-- the name of an answer to an order
abbrev pub name_of_answer : Answer → List ℕ
name_of_answer (answers.Spawned run pid) = codes "spawned"
name_of_answer (answers.SpawnRefused run) = codes "spawn_refused"
name_of_answer (answers.Termed run ok) = codes "termed"
name_of_answer (answers.Killed run ok) = codes "killed"

-- the name of what happens to a job
abbrev pub name_of_item : JobItem → List ℕ
name_of_item (happens.Asked ask) = name_of_ask ask
name_of_item (happens.Came conn) = codes "came"
name_of_item (happens.Left conn) = codes "left"
name_of_item (happens.Answered answer) = name_of_answer answer
name_of_item (happens.Ended run how) = codes "ended"
name_of_item (happens.WaitRefused run) = codes "wait_refused"

-- the name of a setting
abbrev pub name_of_setting : Bool → List ℕ
name_of_setting true = codes "disable"
name_of_setting false = codes "enable"

-- the name under the tag
abbrev pub name_of : Event → List ℕ
name_of (events.Load def writes_setting force bind store) = codes "load"
name_of (events.Unload job writes_setting store) = codes "unload"
name_of (events.Set job disabled store) = name_of_setting disabled
name_of events.List = codes "list"
name_of (events.Print job) = codes "print"
name_of events.Shutdown = codes "shutdown"
name_of (events.Clock at) = codes "clock"
name_of (events.Saw path obs) = codes "saw"
name_of (events.OfJob job item) = name_of_item item

-- the key `job`
abbrev pub of_job : List ℕ → List ℕ × Plain
of_job job = (codes "job", text job)

-- the keys of an event of a run
abbrev pub of_run : List ℕ → ℕ → List (List ℕ × Plain)
of_run job run = of_job job ∷ (codes "run", count run) ∷ []

-- the keys of the answer to a TERM or KILL
abbrev pub of_answer : List ℕ → ℕ → Bool → List (List ℕ × Plain)
of_answer job run ok = of_job job ∷ (codes "ok", flag ok) ∷ (codes "run", count run) ∷ []

-- the keys of an event of a connection
abbrev pub of_connection : List ℕ → ℕ → List (List ℕ × Plain)
of_connection job conn = (codes "conn", count conn) ∷ of_job job ∷ []

-- `code` or `signal`, the one that applies
abbrev pub end_member : Ended → List ℕ × Plain
end_member (Code n) = (codes "code", count n)
end_member (Signal n) = (codes "signal", count n)

-- the keys of what a client asks of a job
abbrev pub ask_members : List ℕ → Ask → List (List ℕ × Plain)
ask_members job (asks.Kickstart kills_first) = of_job job ∷ (codes "k", flag kills_first) ∷ []
ask_members job _ = of_job job ∷ []

-- the keys of an answer to an order
abbrev pub answered_members : List ℕ → Answer → List (List ℕ × Plain)
answered_members job (answers.Spawned run pid) =
    of_job job ∷ (codes "pid", count pid) ∷ (codes "run", count run) ∷ []
answered_members job (answers.SpawnRefused run) = of_run job run
answered_members job (answers.Termed run ok) = of_answer job run ok
answered_members job (answers.Killed run ok) = of_answer job run ok

-- the keys of what happens to a job
abbrev pub item_members : List ℕ → JobItem → List (List ℕ × Plain)
item_members job (happens.Asked ask) = ask_members job ask
item_members job (happens.Came conn) = of_connection job conn
item_members job (happens.Left conn) = of_connection job conn
item_members job (happens.Answered answer) = answered_members job answer
item_members job (happens.Ended run how) =
    end_member how ∷ of_job job ∷ (codes "run", count run) ∷ []
item_members job (happens.WaitRefused run) = of_run job run

-- the keys of its shape, but for the tag and the answers
abbrev pub line_members : Event → List (List ℕ × Plain)
line_members (events.Load def writes_setting force bind store) =
    (codes "F", flag force) ∷ (codes "def", text def) ∷ (codes "w", flag writes_setting) ∷ []
line_members (events.Unload job writes_setting store) =
    of_job job ∷ (codes "w", flag writes_setting) ∷ []
line_members (events.Set job disabled store) = of_job job ∷ []
line_members events.List = []
line_members (events.Print job) = of_job job ∷ []
line_members events.Shutdown = []
line_members (events.Clock at) = (codes "up", count at.up) ∷ (codes "wall", count at.wall) ∷ []
line_members (events.Saw path obs) =
    (codes "exists", flag obs.present) ∷ (codes "nonempty", flag obs.nonempty_dir)
    ∷ (codes "path", text path) ∷ (codes "stamp", count obs.stamp) ∷ []
line_members (events.OfJob job item) = item_members job item

-- what the outside answered
abbrev pub answer_members : Event → List (List ℕ × Plain)
answer_members (events.Load def writes_setting force bind store) =
    (codes "bind", flag bind) ∷ (codes "store", flag store) ∷ []
answer_members (events.Unload job writes_setting store) = (codes "store", flag store) ∷ []
answer_members (events.Set job disabled store) = (codes "store", flag store) ∷ []
answer_members _ = []

-- the object of a line: its tag with the name, the keys of its shape, and an event's answers
abbrev pub line_object : Form → List ℕ → List (List ℕ × Plain) → List (List ℕ × Plain) → Data
line_object form name keys answers =
    object (with_members
    (with_members (with_members no_members ((tag_of form, text name) ∷ [])) keys)
    (if has_answers form then answers else []))

-- the object of the line that records the event, or asks for it
abbrev pub event_object : Form → Event → Data
event_object form e = line_object form (name_of e) (line_members e) (answer_members e)

-- the line of a journal that records the event, with its newline
abbrev pub event_line : Event → List ℕ
event_line e = line_of (event_object forms.Event e)

-- the object of the line that asks for it: it has no answer
abbrev pub request_object : Request → Data
request_object r = event_object forms.Request (event_with unasked r)

-- the line by which a client asks for it, with its newline
abbrev pub request_line : Request → List ℕ
request_line r = line_of (request_object r)

-- ---- which events a line can record: the job is a label, and each number is one of its shape

-- the exit code or the signal is a byte
abbrev is_byte_end : Ended → Bool
is_byte_end (Code n) = nat_lt n 256
is_byte_end (Signal n) = nat_lt n 256

-- it is neither an unload nor a shutdown, which are events of their own
abbrev is_ask_of_job : Ask → Bool
is_ask_of_job asks.Unload = false
is_ask_of_job asks.Shutdown = false
is_ask_of_job _ = true

-- each number of the item is one of its shape
abbrev is_writable_item : JobItem → Bool
is_writable_item (happens.Asked ask) = is_ask_of_job ask
is_writable_item (happens.Answered (answers.Spawned run pid)) = nat_lt 0 pid && nat_lt pid (2 ^ 32)
is_writable_item (happens.Ended run how) = is_byte_end how
is_writable_item _ = true

-- the job is a label, and each number is one of its shape
abbrev pub is_writable : Event → Bool
is_writable (events.Load def writes_setting force bind store) = true
is_writable (events.Unload job writes_setting store) = is_label job
is_writable (events.Set job disabled store) = is_label job
is_writable events.List = true
is_writable (events.Print job) = is_label job
is_writable events.Shutdown = true
is_writable (events.Clock at) = true
is_writable (events.Saw path obs) = true
is_writable (events.OfJob job item) = is_label job && is_writable_item item

-- a line can ask for it
abbrev pub is_request : Request → Bool
is_request r = is_writable (event_with unasked r)
