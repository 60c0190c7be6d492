-- From when on time alone may make an order of one job due, what made its demand, and which path holds
-- it wanted (launchd.plist(5): StartInterval, ThrottleInterval, ExitTimeOut, KeepAlive,
-- QueueDirectories).
use Rattle.std.specs.Prelude.{ℕ, List, Option, Some, None}
use Rattle.history_model.specs.declared.reasons.DemandKind.{DemandKind}
use Rattle.history_model.specs.Items.{History}
use Rattle.history_model.specs.Demands.{latest_demand}
use Rattle.history_model.specs.Reasons.{spawns_from, path_that_holds}
use Rattle.job_core.specs.JobMoments.{AreMoments}
use Rattle.job_core.specs.declared.job.moments.Moments.{Moments}

-- the moment from which a clock reading makes its spawn due, if only the clock goes on and no calendar entry fires
abbrev pub spawning : Option History → Option ℕ
spawning None = None
spawning (Some past) = spawns_from past

-- what made its pending demand
abbrev pub demanding : Option History → Option DemandKind
demanding None = None
demanding (Some past) = latest_demand past

-- the path that holds it wanted
abbrev pub holding : Option History → Option (List ℕ)
holding None = None
holding (Some past) = path_that_holds past

-- from when on TERM and KILL are due for its run, and when its interval is over
abbrev pub HasMoments : Option History → Option Moments → Type 0
HasMoments None None = Unit {0}
HasMoments (Some past) (Some moments) = AreMoments past moments
HasMoments None (Some moments) = ⊥
HasMoments (Some past) None = ⊥
