-- The intervals of loaded jobs (launchd.plist(5): StartInterval).
use Rattle.std.specs.Prelude.{◌<◌, List}
use Rattle.std.specs.List.{AllByRecursion}
use Rattle.std.specs.Option.{ForSome}
use Rattle.history_model.specs.Described.{Described}
use Rattle.loaded_jobs.specs.Tables.{Name}

-- the interval is above 0, if there is one
abbrev pub HasPositivePeriod : Described → Type 0
HasPositivePeriod d = ForSome d.start_interval (λ seconds. 0 < seconds)

-- that of each of the definitions
abbrev pub HavePeriods : List Name → Type 0
HavePeriods names = AllByRecursion (λ name. HasPositivePeriod name.described) names
