-- `KeepAlive` of launchd.plist(5): a boolean, or an object of conditions. The conditions are gone through in byte order. One that
-- is not here never holds and is not a fault.
use Rattle.std.specs.Prelude.{List, [], ◌∷◌, Bool, false, not, nat_lt, Result, Ok, Err, Option, Some, None, if◌then◌else◌}
use Rattle.serde_json.specs.Data.{Data}
use Rattle.serde_json.specs.Events.{members_len}
use Rattle.serde_json.specs.Find.{get, as_bool}
use Rattle.history_model.specs.declared.Reason.TheVariants.{TooLong}
use Rattle.history_model.specs.declared.KeyName.TheVariants.{KeepAlive}
use Rattle.history_model.specs.Machine.{Fault}
use Rattle.history_model.specs.RefusalTexts.{key_text}
use Rattle.history_model.specs.declared.definition.parts.PathState.{PathState}
use Rattle.job_defs.specs.declared.limits.TheConstants.{LIST_LIMIT}
use Rattle.history_model.specs.KeyGroups.{Keep}
use Rattle.json_kinds.specs.DefFaults.{bad, ◌>>=◌}
use Rattle.json_kinds.specs.Names.{Key, crashed, path_state, successful_exit}
use Rattle.json_kinds.specs.JsonKinds.{bool_at, object_at, filled, each_member, where_there, optional}
use Rattle.json_kinds.specs.declared.keys.TheConstants.{PATH_LIMIT}

-- a boolean has no conditions
abbrev pub unconditional : Bool → Keep
unconditional always = record {
  always = always;
  successful_exit = None;
  crashed = None;
  path_state = [];
}

-- a path, and whether something is to be there
unfoldable pub path_state_in : Key → Data → Result (List PathState) Fault
path_state_in name d = do
  path ← filled PATH_LIMIT KeepAlive name
  present ← bool_at KeepAlive d
  Ok (record { path = path; present = present } ∷ [])

-- at most this number of paths
unfoldable pub path_state_at : Data → Result (List PathState) Fault
path_state_at d = do
  paths ← object_at KeepAlive d
  if nat_lt LIST_LIMIT (members_len paths) then Err (bad TooLong KeepAlive)
      else each_member path_state_in paths

-- the conditions that can hold
unfoldable pub conditions_at : Data → Result Keep Fault
conditions_at d = do
  conditions ← object_at KeepAlive d
  after_crash ← optional (bool_at KeepAlive) (get crashed d)
  paths ← where_there path_state_at [] (get path_state d)
  after_success ← optional (bool_at KeepAlive) (get successful_exit d)
  Ok (record {
    always = false;
    successful_exit = after_success;
    crashed = after_crash;
    path_state = paths;
  })

-- a boolean, or conditions
unfoldable pub keep_at : Data → Result Keep Fault
keep_at d = keep_by (as_bool d) d where
  keep_by : Option Bool → Data → Result Keep Fault
  keep_by (Some always) d = Ok (unconditional always)
  keep_by None d = conditions_at d

-- without `KeepAlive`, an `OnDemand` of false keeps the job alive
unfoldable pub keep_key : Bool → Data → Result Keep Fault
keep_key on_demand d =
    where_there keep_at (unconditional (not on_demand)) (get (key_text KeepAlive) d)
