-- `WatchPaths` and `QueueDirectories` of launchd.plist(5).
use Rattle.std.specs.Prelude.{ℕ, ◌+◌, List, [], nat_lt, Result, Err, if◌then◌else◌}
use Rattle.serde_json.specs.Data.{Data}
use Rattle.serde_json.specs.Events.{items_len}
use Rattle.serde_json.specs.Find.{get}
use Rattle.history_model.specs.declared.Reason.TheVariants.{TooLong}
use Rattle.history_model.specs.declared.KeyName.{KeyName}
use Rattle.history_model.specs.Machine.{Fault}
use Rattle.history_model.specs.RefusalTexts.{key_text}
use Rattle.json_kinds.specs.DefFaults.{bad, ◌>>=◌}
use Rattle.json_kinds.specs.JsonKinds.{array_at, path_at, each_item, where_there}
use Rattle.job_defs.specs.declared.limits.TheConstants.{LIST_LIMIT}

-- at most this number of paths in a definition, of which some were counted before
unfoldable pub paths_at : ℕ → KeyName → Data → Result (List (List ℕ)) Fault
paths_at before key d = do
  paths ← array_at key d
  if nat_lt LIST_LIMIT (before + items_len paths) then Err (bad TooLong key)
      else each_item (path_at key) paths

-- without the key there are none
unfoldable pub paths_key : ℕ → KeyName → Data → Result (List (List ℕ)) Fault
paths_key before key d = where_there (paths_at before key) [] (get (key_text key) d)
