-- The names of keys as they are gathered in a set.
use Rattle.std.specs.Prelude.{◌≡◌, List, map, String, string_bytes}
use Rattle.std.specs.declared.alloc.Global.{Global}
use Rattle.std.specs.BTreeSet.{BTreeSet}
use Rattle.json_kinds.specs.Names.{Key}
use Rattle.job_defs.specs.Ignored.{with_names}

-- the names that were gathered, in order
abbrev pub names_of : BTreeSet (String Global) → List Key
names_of names = map string_bytes names.keys

-- these names were gathered with the earlier ones
abbrev pub Gains : BTreeSet (String Global) → List Key → BTreeSet (String Global) → Type 0
Gains old more new = names_of new ≡ with_names (names_of old) more
