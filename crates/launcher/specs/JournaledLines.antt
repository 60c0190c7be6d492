-- The lines that a turn of the launcher writes to the journal.
use Rattle.std.specs.Prelude.{ℕ, Bool, true, List, if◌then◌else◌}
use Rattle.std.specs.List.{flat_map}
use Rattle.history_model.specs.declared.Answer.{Answer}
use Rattle.history_model.specs.declared.event.JobItem.TheVariants as happens
use Rattle.history_model.specs.declared.event.Event as journal
use Rattle.history_model.specs.declared.event.Event.TheVariants as journaled
use Rattle.history_model.specs.Labels.{Label}
use Rattle.ctl_protocol.specs.EventWriter.{event_line}
use Rattle.loaded_jobs.specs.Tables.{Name, label_of}
use Rattle.ctl_protocol.specs.declared.request.LoadRequest.{LoadRequest}
use Rattle.ctl_protocol.specs.declared.request.Outside.{Outside}
use Rattle.ctl_protocol.specs.declared.request.Request.{Request}
use Rattle.ctl_protocol.specs.declared.request.Request.TheVariants as requests
use Rattle.ctl_protocol.specs.Requests.{event_with}
use Rattle.outside.specs.declared.pending_answer.PendingAnswer.{PendingAnswer}

-- the journal's event of the answer to an order of the label's job
abbrev pub journaled_answer : Label → Answer → journal.Event
journaled_answer job answer = journaled.OfJob job (happens.Answered answer)

-- the line of an answer; a number stands for its job's label
abbrev pub answer_text : List Name → PendingAnswer → List ℕ
answer_text names pending =
    event_line (journaled_answer (label_of names pending.job) pending.answer)

-- the lines of the answers, in order
abbrev pub answer_texts : List Name → List PendingAnswer → List ℕ
answer_texts names pending = flat_map (answer_text names) pending

-- ---- loads and settings

-- `enable` or `disable`, or an unload that disables the label
abbrev pub setting_asked : Label → (disabled unload : Bool) → Request
setting_asked label disabled unload =
    if unload then requests.Unload label true else requests.Set label disabled

-- the journal's line of a load, with what the outside answered
abbrev pub load_line : LoadRequest → Outside → List ℕ
load_line load outside = event_line (event_with outside (requests.Load load))

-- and of such a setting, with what the store answered
abbrev pub set_line : Label → (disabled unload store : Bool) → List ℕ
set_line label disabled unload store =
    event_line
    (event_with (record { bind = true; store = store }) (setting_asked label disabled unload))
