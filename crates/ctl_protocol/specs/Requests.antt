-- What a client asks, as an event: a journal records it with what the outside answered to it.
use Rattle.std.specs.Prelude.{true}
use Rattle.history_model.specs.declared.event.Event.{Event}
use Rattle.history_model.specs.declared.event.Event.TheVariants as events
use Rattle.history_model.specs.declared.event.JobItem.TheVariants as happens
use Rattle.ctl_protocol.specs.declared.request.Outside.{Outside}
use Rattle.ctl_protocol.specs.declared.request.Request.{Request}
use Rattle.ctl_protocol.specs.declared.request.Request.TheVariants as requests

-- the event that the request is, if the outside answers so
abbrev pub event_with : Outside → Request → Event
event_with outside (requests.Load load) =
    events.Load load.def load.writes_setting load.force outside.bind outside.store
event_with outside (requests.Unload job writes_setting) =
    events.Unload job writes_setting outside.store
event_with outside (requests.Set job disabled) = events.Set job disabled outside.store
event_with outside (requests.Ask job ask) = events.OfJob job (happens.Asked ask)
event_with outside requests.List = events.List
event_with outside (requests.Print job) = events.Print job
event_with outside requests.Shutdown = events.Shutdown

-- what was not asked counts as true
abbrev pub unasked : Outside
unasked = record { bind = true; store = true }
