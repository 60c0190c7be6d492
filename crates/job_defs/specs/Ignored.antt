-- The keys of a definition that are not supported.
use Rattle.std.specs.Prelude.{List, [], ◌∷◌, ◌++◌, Bool, not, ◌&&◌, is_some, Option, Some, None, if◌then◌else◌, codes}
use Rattle.std.specs.List.{list_any, fold}
use Rattle.std.specs.Str.{bytes_eq}
use Rattle.std.specs.Ordering.{nat_cmp}
use Rattle.std.specs.Cmp.Lexicographic.{slice_cmp}
use Rattle.std.specs.BTreeSet.{insert_key}
use Rattle.serde_json.specs.Data.{Data, Items, no_items, item, Members, no_members, member}
use Rattle.serde_json.specs.Find.{get, as_object}
use Rattle.history_model.specs.declared.KeyName.{KeyName}
use Rattle.history_model.specs.declared.KeyName.TheVariants.{Label, Program, ProgramArguments, RunAtLoad, LaunchOnlyOnce, DisabledKey, OnDemand, KeepAlive, WatchPaths, QueueDirectories, StartInterval, StartCalendarInterval, ThrottleInterval, ExitTimeOut, EnvironmentVariables, WorkingDirectory, StandardInPath, StandardOutPath, StandardErrorPath, Sockets, InetdCompatibility, UserName, GroupName, RootDirectory}
use Rattle.history_model.specs.RefusalTexts.{key_text}
use Rattle.json_kinds.specs.Names.{Key, crashed, path_state, successful_exit, day, hour, minute, month, weekday, secure_key, socket_type, passive, family, protocol, path_name, node_name, service_name, wait}
use Rattle.json_kinds.specs.JsonKinds.{is_among, members_or_one}

-- ---- the keys that are read

-- of a definition
abbrev pub all_keys : List KeyName
all_keys =
    Label ∷ Program ∷ ProgramArguments ∷ RunAtLoad ∷ LaunchOnlyOnce ∷ DisabledKey ∷ OnDemand
    ∷ KeepAlive ∷ WatchPaths ∷ QueueDirectories ∷ StartInterval ∷ StartCalendarInterval
    ∷ ThrottleInterval ∷ ExitTimeOut ∷ EnvironmentVariables ∷ WorkingDirectory ∷ StandardInPath
    ∷ StandardOutPath ∷ StandardErrorPath ∷ Sockets ∷ InetdCompatibility ∷ UserName ∷ GroupName
    ∷ RootDirectory ∷ []

-- a definition's key is read under this name
unfoldable pub is_key : Key → Bool
is_key name = list_any (λ key. bytes_eq (key_text key) name) all_keys

-- of `KeepAlive`
abbrev pub conditions : List Key
conditions = crashed ∷ path_state ∷ successful_exit ∷ []

-- of a calendar entry
abbrev pub parts : List Key
parts = day ∷ hour ∷ minute ∷ month ∷ weekday ∷ []

-- of a socket
abbrev pub socket_keys : List Key
socket_keys =
    secure_key ∷ socket_type ∷ passive ∷ family ∷ protocol ∷ path_name ∷ node_name ∷ service_name
    ∷ []

-- ---- the other keys

-- the keys of a definition that are not read
abbrev pub unlisted : Members → List Key
unlisted no_members = []
unlisted (member k d ms) = if is_key k then unlisted ms else k ∷ unlisted ms

-- the keys of an object that are not read, each after the prefix
abbrev pub others : Key → List Key → Members → List Key
others prefix known no_members = []
others prefix known (member k d ms) =
    if is_among known k then others prefix known ms else (prefix ++ k) ∷ others prefix known ms

-- the members, if the value is an object
abbrev pub members_in : Option Members → Members
members_in None = no_members
members_in (Some ms) = ms

-- the same of any value: one that is not an object has none
abbrev pub others_in : Key → List Key → Data → List Key
others_in prefix known d = others prefix known (members_in (as_object d))

-- the same of each member of an array
abbrev pub others_in_each : Key → List Key → Items → List Key
others_in_each prefix known no_items = []
others_in_each prefix known (item d ds) = others_in prefix known d ++ others_in_each prefix known ds

-- the same of the calendar's entries
abbrev pub others_in_calendar : Data → List Key
others_in_calendar d = others_in_each (codes "StartCalendarInterval.") parts (members_or_one d)

-- the same of the sockets under one name
unfoldable pub others_under : Key → Data → List Key
others_under name d =
    others_in_each (codes "Sockets." ++ name ++ codes ".") socket_keys (members_or_one d)

-- the same of all sockets
abbrev pub others_in_sockets : Members → List Key
others_in_sockets no_members = []
others_in_sockets (member name d ms) = others_under name d ++ others_in_sockets ms

-- the names in the value, if the key is present
abbrev pub where_found : (Data → List Key) → Option Data → List Key
where_found names None = []
where_found names (Some d) = names d

-- the key is present
abbrev pub has_key : KeyName → Data → Bool
has_key key d = is_some (get (key_text key) d)

-- the key's name, if this holds
abbrev pub named_if : Bool → KeyName → List Key
named_if holds key = if holds then key_text key ∷ [] else []

-- `KeepAlive` decides over `OnDemand`, and `inetdCompatibility` is for sockets alone
unfoldable pub overruled : Bool → Data → List Key
overruled has_sockets d =
    named_if (has_key OnDemand d && has_key KeepAlive d) OnDemand
    ++ named_if (has_key InetdCompatibility d && not has_sockets) InetdCompatibility

-- the keys of the objects inside a definition
unfoldable pub inside : Data → List Key
inside d =
    where_found (others_in (codes "KeepAlive.") conditions) (get (key_text KeepAlive) d)
    ++ where_found others_in_calendar (get (key_text StartCalendarInterval) d)
    ++ where_found (λ found. others_in_sockets (members_in (as_object found)))
    (get (key_text Sockets) d)
    ++ where_found (others_in (codes "inetdCompatibility.") (wait ∷ []))
    (get (key_text InetdCompatibility) d)

-- names, and more of them: in byte order, each once
abbrev pub with_names : List Key → List Key → List Key
with_names names more = fold (insert_key (slice_cmp nat_cmp)) names more

-- all of them
unfoldable pub not_acted_on : Bool → Data → List Key
not_acted_on has_sockets d =
    with_names [] (unlisted (members_in (as_object d)) ++ overruled has_sockets d ++ inside d)
