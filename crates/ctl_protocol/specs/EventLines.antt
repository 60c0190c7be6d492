-- The lines of events, shape by shape: the keys that each must or may have, their kinds, and
-- the event that they give. A request has the same shape under the key `req`, without the
-- answers of the outside; in a journal it is an event with them.
use Rattle.std.specs.Prelude.{ℕ, ◌^◌, List, [], ◌∷◌, codes, Bool, true, false, ◌&&◌, Option, Some, None, nat_lt, if◌then◌else◌}
use Rattle.std.specs.Str.{bytes_eq}
use Rattle.serde_json.specs.Data.{Data}
use Rattle.serde_json.specs.Find.{get}
use Rattle.history_model.specs.declared.Obs.{Obs}
use Rattle.history_model.specs.declared.Ended.{Ended}
use Rattle.history_model.specs.declared.Ended.TheVariants.{Code, Signal}
use Rattle.history_model.specs.declared.event.Event.{Event}
use Rattle.history_model.specs.declared.event.Event.TheVariants as events
use Rattle.history_model.specs.declared.event.JobItem.TheVariants as happens
use Rattle.history_model.specs.declared.Ask.{Ask}
use Rattle.history_model.specs.declared.Ask.TheVariants as asks
use Rattle.history_model.specs.declared.Answer.TheVariants as answers
use Rattle.ctl_protocol.specs.declared.members.Form.{Form}
use Rattle.ctl_protocol.specs.declared.members.Form.TheVariants as forms
use Rattle.ctl_protocol.specs.declared.request.Outside.{Outside}
use Rattle.ctl_protocol.specs.declared.request.Request.{Request}
use Rattle.ctl_protocol.specs.declared.request.Request.TheVariants as requests
use Rattle.ctl_protocol.specs.Requests.{event_with}
use Rattle.json_kinds.specs.Json.{json_in}
use Rattle.ctl_protocol.specs.Members.{◌>>=◌, text_key, number_key, flag_key, flag_or, label_key, target_key, has_only, tag_of}

-- ---- what clients ask

-- no key but those of `load`
abbrev pub has_load_keys : Form → Data → Bool
has_load_keys form d =
    has_only form (codes "def" ∷ codes "w" ∷ codes "F" ∷ []) (codes "bind" ∷ codes "store" ∷ []) d

-- `load`: the text `def`; the flags `w` and `F` (false); the answers `bind` and `store`
unfoldable pub load_shape : Form → Data → Option Request
load_shape form d = if has_load_keys form d then (do
  def ← text_key (codes "def") d
  writes_setting ← flag_or (codes "w") false d
  force ← flag_or (codes "F") false d
  Some (requests.Load (record { def = def; writes_setting = writes_setting; force = force })))
    else None

-- `unload`: the label `job`; the flag `w` (false); the answer `store`
unfoldable pub unload_shape : Form → Data → Option Request
unload_shape form d =
    if has_only form (codes "job" ∷ codes "w" ∷ []) (codes "store" ∷ []) d then (do
      job ← label_key (codes "job") d
      writes_setting ← flag_or (codes "w") false d
      Some (requests.Unload job writes_setting)) else None

-- `start` and `stop`: the label `job`
unfoldable pub job_shape : Ask → Form → Data → Option Request
job_shape ask form d = if has_only form (codes "job" ∷ []) [] d then (do
  job ← label_key (codes "job") d
  Some (requests.Ask job ask)) else None

-- `print`, `enable` and `disable`: the target `job`; of the last two the answer `store`
unfoldable pub target_shape : List (List ℕ) → Form → Data → Option (List ℕ)
target_shape answers form d =
    if has_only form (codes "job" ∷ []) answers d then target_key (codes "job") d else None

-- `kickstart`: the target `job`; the flag `k` (false)
unfoldable pub kickstart_shape : Form → Data → Option Request
kickstart_shape form d = if has_only form (codes "job" ∷ codes "k" ∷ []) [] d then (do
  job ← target_key (codes "job") d
  kills_first ← flag_or (codes "k") false d
  Some (requests.Ask job (asks.Kickstart kills_first))) else None

-- `list` and `shutdown`: no key but the tag
unfoldable pub bare_shape : Request → Form → Data → Option Request
bare_shape request form d = if has_only form [] [] d then Some request else None

-- a shape under its name
abbrev Shape : Type 0 → Type 0
Shape A = List ℕ × (Data → Option A)

-- what a line of this name records; by the last shape, if none of the names is it
abbrev shape_of : {A : Type 0} → List ℕ → List (Shape A) → (Data → Option A) → Data → Option A
shape_of name [] last d = last d
shape_of name (r ∷ rows) last d = if bytes_eq name r.0 then r.1 d else shape_of name rows last d

-- no line is of this shape
abbrev no_shape : {A : Type 0} → Data → Option A
no_shape d = None

-- the shapes of what clients ask
abbrev pub request_shapes : Form → List (Shape Request)
request_shapes form =
    (codes "load", load_shape form)
    ∷ (codes "unload", unload_shape form)
    ∷ (codes "start", job_shape asks.Start form)
    ∷ (codes "stop", job_shape asks.Stop form)
    ∷ (codes "kickstart", kickstart_shape form)
    ∷ (codes "enable", λ d. target_shape (codes "store" ∷ []) form d >>= λ job. Some (requests.Set job false))
    ∷ (codes "disable", λ d. target_shape (codes "store" ∷ []) form d >>= λ job. Some (requests.Set job true))
    ∷ (codes "list", bare_shape requests.List form)
    ∷ (codes "print", λ d. target_shape [] form d >>= λ job. Some (requests.Print job))
    ∷ (codes "shutdown", bare_shape requests.Shutdown form)
    ∷ []

-- what a client asks under this name
unfoldable pub asked_shape : List ℕ → Form → Data → Option Request
asked_shape name form d = shape_of name (request_shapes form) no_shape d

-- the answers `bind` and `store` (true), of those that a shape may have
unfoldable pub answers_in : Data → Option Outside
answers_in d = do
  bind ← flag_or (codes "bind") true d
  store ← flag_or (codes "store") true d
  Some (record { bind = bind; store = store })

-- the event of a journal under this name: what a client asked, with the outside's answers
unfoldable pub answered_shape : List ℕ → Data → Option Event
answered_shape name d = do
  request ← asked_shape name forms.Event d
  outside ← answers_in d
  Some (event_with outside request)

-- ---- what the outside answers

-- `clock`: the numbers `up` and `wall`
unfoldable pub clock_shape : Data → Option Event
clock_shape d = if has_only forms.Event (codes "up" ∷ codes "wall" ∷ []) [] d then (do
  up ← number_key (codes "up") d
  wall ← number_key (codes "wall") d
  Some (events.Clock (record { up = up; wall = wall }))) else None

-- the flags `exists` and `nonempty`; the number `stamp`
unfoldable pub observation_keys : Data → Option Obs
observation_keys d = do
  present ← flag_key (codes "exists") d
  nonempty ← flag_key (codes "nonempty") d
  stamp ← number_key (codes "stamp") d
  Some (record { present = present; nonempty_dir = nonempty; stamp = stamp })

-- no key but those of `saw`
unfoldable pub has_saw_keys : Data → Bool
has_saw_keys d =
    has_only forms.Event
    (codes "path" ∷ codes "exists" ∷ codes "nonempty" ∷ codes "stamp" ∷ []) [] d

-- `saw`: the text `path`; what was seen
unfoldable pub saw_shape : Data → Option Event
saw_shape d = if has_saw_keys d then (do
  path ← text_key (codes "path") d
  obs ← observation_keys d
  Some (events.Saw path obs)) else None

-- `came` and `left`: the label `job`; the number `conn`
unfoldable pub connection_shape : Data → Option (List ℕ × ℕ)
connection_shape d = if has_only forms.Event (codes "job" ∷ codes "conn" ∷ []) [] d then (do
  job ← label_key (codes "job") d
  conn ← number_key (codes "conn") d
  Some (job, conn)) else None

-- from 1 to 2^32 - 1
unfoldable pub pid_key : Data → Option ℕ
pid_key d = number_key (codes "pid") d >>= λ pid.
    if nat_lt 0 pid && nat_lt pid (2 ^ 32) then Some pid else None

-- `spawned`: the label `job`; the number `run`; the PID `pid`
unfoldable pub spawned_shape : Data → Option Event
spawned_shape d =
    if has_only forms.Event (codes "job" ∷ codes "run" ∷ codes "pid" ∷ []) [] d then (do
      job ← label_key (codes "job") d
      run ← number_key (codes "run") d
      pid ← pid_key d
      Some (events.OfJob job (happens.Answered (answers.Spawned run pid)))) else None

-- `spawn_refused` and `wait_refused`: the label `job`; the number `run`
unfoldable pub run_shape : Data → Option (List ℕ × ℕ)
run_shape d = if has_only forms.Event (codes "job" ∷ codes "run" ∷ []) [] d then (do
  job ← label_key (codes "job") d
  run ← number_key (codes "run") d
  Some (job, run)) else None

-- `termed` and `killed`: the label `job`; the number `run`; the flag `ok`
unfoldable pub answer_shape : Data → Option (List ℕ × ℕ × Bool)
answer_shape d = if has_only forms.Event (codes "job" ∷ codes "run" ∷ codes "ok" ∷ []) [] d then (do
  job ← label_key (codes "job") d
  run ← number_key (codes "run") d
  ok ← flag_key (codes "ok") d
  Some (job, run, ok)) else None

-- from 0 to 255
unfoldable pub byte_key : List ℕ → Data → Option ℕ
byte_key key d = number_key key d >>= λ n. if nat_lt n 256 then Some n else None

-- the exit that one of the two values says, if the other is absent
abbrev one_of : Option Data → Option Data → Data → Option Ended
one_of (Some x) None d = byte_key (codes "code") d >>= λ n. Some (Code n)
one_of None (Some x) d = byte_key (codes "signal") d >>= λ n. Some (Signal n)
one_of None None d = None
one_of (Some x) (Some y) d = None

-- exactly one of `code` and `signal`
unfoldable pub end_key : Data → Option Ended
end_key d = one_of (get (codes "code") d) (get (codes "signal") d) d

-- no key but those of `ended`
abbrev pub has_ended_keys : Data → Bool
has_ended_keys d =
    has_only forms.Event (codes "job" ∷ codes "run" ∷ codes "code" ∷ codes "signal" ∷ []) [] d

-- `ended`: the label `job`; the number `run`; one of the bytes `code` and `signal`
unfoldable pub ended_shape : Data → Option Event
ended_shape d = if has_ended_keys d then (do
  job ← label_key (codes "job") d
  run ← number_key (codes "run") d
  how ← end_key d
  Some (events.OfJob job (happens.Ended run how))) else None

-- the shapes of what the outside says
abbrev pub journal_shapes : List (Shape Event)
journal_shapes =
    (codes "clock", clock_shape)
    ∷ (codes "saw", saw_shape)
    ∷ (codes "came", λ d. connection_shape d >>= λ c. Some (events.OfJob c.0 (happens.Came c.1)))
    ∷ (codes "left", λ d. connection_shape d >>= λ c. Some (events.OfJob c.0 (happens.Left c.1)))
    ∷ (codes "spawned", spawned_shape)
    ∷ (
      codes "spawn_refused",
      λ d. run_shape d >>= λ r.
          Some (events.OfJob r.0 (happens.Answered (answers.SpawnRefused r.1))),
    )
    ∷ (
      codes "termed",
      λ d. answer_shape d >>= λ a.
          Some (events.OfJob a.0 (happens.Answered (answers.Termed a.1 a.2))),
    )
    ∷ (
      codes "killed",
      λ d. answer_shape d >>= λ a.
          Some (events.OfJob a.0 (happens.Answered (answers.Killed a.1 a.2))),
    )
    ∷ (codes "ended", ended_shape)
    ∷ (
      codes "wait_refused",
      λ d. run_shape d >>= λ r.
          Some (events.OfJob r.0 (happens.WaitRefused r.1)),
    )
    ∷ []

-- a line of a journal has a shape of either table
unfoldable pub journal_shape : List ℕ → Data → Option Event
journal_shape name d = shape_of name journal_shapes (answered_shape name) d

-- ---- whole lines

-- the event that the object of a journal's line records
unfoldable pub event_shape : Data → Option Event
event_shape d = text_key (tag_of forms.Event) d >>= λ name. journal_shape name d

-- what the object of a request asks
unfoldable pub request_shape_of : Data → Option Request
request_shape_of d = text_key (tag_of forms.Request) d >>= λ name. asked_shape name forms.Request d

-- the event that a line of a journal is
unfoldable pub event_at : List ℕ → Option Event
event_at line = json_in line >>= event_shape

-- what a client's line asks
unfoldable pub request_at : List ℕ → Option Request
request_at line = json_in line >>= request_shape_of
