-- What a launcher hears at once: nothing outside is first asked for it.
use Rattle.std.specs.Prelude.{◌≡◌, ◌⊎◌, Bool, true, false, not, List, Some, None, Ok}
use Rattle.history_model.specs.declared.event.Event as journal
use Rattle.history_model.specs.declared.event.Event.TheVariants as journaled
use Rattle.history_model.specs.Machine.{State}
use Rattle.history_model.specs.Step.{step, taken}
use Rattle.ctl_protocol.specs.declared.request.Request.{Request}
use Rattle.ctl_protocol.specs.declared.request.Request.TheVariants as requests
use Rattle.ctl_protocol.specs.Requests.{unasked}
use Rattle.loaded_jobs.specs.Tables.{Table, Name}
use Rattle.loaded_jobs.specs.Numbers.{row_names}
use Rattle.job_table.specs.Taking.{NamesGoOn, machine_event}
use Rattle.job_table.specs.declared.take.Taken.{Taken}
use Rattle.outside.specs.Asking.{Told}
use Rattle.launcher.specs.Accepting.{is_load}
use Rattle.launcher.specs.HostTurns.{NamesLabel}
use Rattle.launcher.specs.LoadTurns.{AsksNothing}
use Rattle.launcher.specs.Inputs.{Incoming, event_of}
use Rattle.launcher.specs.Hosts.{AsksOutside, IsOwn, label_asked}

-- no job changes its number: the names after it are those of the jobs that were loaded before it, or
-- it changes nothing
abbrev pub NamesStay : journal.Event → Type 0
NamesStay e = (answer : Taken) (old new : Table) → NamesGoOn e (Ok answer) old new →
    (new.names ≡ row_names old.rows)
    ⊎ ((new ≡ old) × ((s : State) → taken s (machine_event e) ≡ s))

-- what came is this event, for which nothing is asked of the outside: it loads no job, and sets nothing
pub record IsAtOnce (incoming : Incoming) (e : journal.Event) : Type 0 where
  pub same : event_of unasked incoming ≡ e
  pub asks : (s : State) (before after : Told) → AsksNothing unasked before after →
      AsksOutside s incoming 0 unasked before after
  pub own : (names : List Name) → IsOwn incoming names 0
  pub unset : label_asked (Some incoming) ≡ None
  pub unloaded : is_load (Some incoming) ≡ false
  pub settings : (s : State) → (step s (machine_event e)).settings ≡ s.settings
  pub label : NamesLabel (machine_event e)
  pub names : NamesStay e

-- a request for which nothing is asked of the outside
abbrev pub is_prompt : Request → Bool
is_prompt (requests.Load load) = false
is_prompt (requests.Unload job writes_setting) = not writes_setting
is_prompt (requests.Set job disabled) = false
is_prompt (requests.Ask job ask) = true
is_prompt requests.List = true
is_prompt (requests.Print job) = true
is_prompt requests.Shutdown = true

-- an event that no client asks for: a clock reading, an observation, or what happens to a job
abbrev pub is_happening : journal.Event → Bool
is_happening (journaled.Clock at) = true
is_happening (journaled.Saw path obs) = true
is_happening (journaled.OfJob job item) = true
is_happening _ = false
