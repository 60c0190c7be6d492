-- The names, texts and codes of refusals (this project's own, in the manner of launchctl(1)).
use Rattle.std.specs.Prelude.{ℕ, List, ◌++◌, codes}
use Rattle.history_model.specs.declared.Reason.{Reason}
use Rattle.history_model.specs.declared.Reason.TheVariants.{NotJson, NotObject, Missing, WrongKind, OutOfRange, TooLong, BadLabel, Unsupported}
use Rattle.history_model.specs.declared.KeyName.{KeyName}
use Rattle.history_model.specs.declared.KeyName.TheVariants as keys
use Rattle.history_model.specs.declared.Refusal.{Refusal}
use Rattle.history_model.specs.declared.Refusal.TheVariants.{NoMemory, BadRequest, NoSuchJob, AlreadyLoaded, Disabled, Removing, NotRunning, BadDefinition, StoreRefused, TooManyJobs, SocketRefused, TooManyConnections, Stale, ClockRefused, ShuttingDown}

-- the name of what is wrong with a definition
abbrev pub reason_text : Reason → List ℕ
reason_text NotJson = codes "NotJson"
reason_text NotObject = codes "NotObject"
reason_text Missing = codes "Missing"
reason_text WrongKind = codes "WrongKind"
reason_text OutOfRange = codes "OutOfRange"
reason_text TooLong = codes "TooLong"
reason_text BadLabel = codes "BadLabel"
reason_text Unsupported = codes "Unsupported"

-- the name of a definition's key, as launchd.plist(5) writes it; `-` if none is at fault
abbrev pub key_text : KeyName → List ℕ
key_text keys.NoKey = codes "-"
key_text keys.Label = codes "Label"
key_text keys.Program = codes "Program"
key_text keys.ProgramArguments = codes "ProgramArguments"
key_text keys.RunAtLoad = codes "RunAtLoad"
key_text keys.LaunchOnlyOnce = codes "LaunchOnlyOnce"
key_text keys.DisabledKey = codes "Disabled"
key_text keys.OnDemand = codes "OnDemand"
key_text keys.KeepAlive = codes "KeepAlive"
key_text keys.WatchPaths = codes "WatchPaths"
key_text keys.QueueDirectories = codes "QueueDirectories"
key_text keys.StartInterval = codes "StartInterval"
key_text keys.StartCalendarInterval = codes "StartCalendarInterval"
key_text keys.ThrottleInterval = codes "ThrottleInterval"
key_text keys.ExitTimeOut = codes "ExitTimeOut"
key_text keys.EnvironmentVariables = codes "EnvironmentVariables"
key_text keys.WorkingDirectory = codes "WorkingDirectory"
key_text keys.StandardInPath = codes "StandardInPath"
key_text keys.StandardOutPath = codes "StandardOutPath"
key_text keys.StandardErrorPath = codes "StandardErrorPath"
key_text keys.Sockets = codes "Sockets"
key_text keys.InetdCompatibility = codes "inetdCompatibility"
key_text keys.UserName = codes "UserName"
key_text keys.GroupName = codes "GroupName"
key_text keys.RootDirectory = codes "RootDirectory"

-- the text of a reply that is a refusal
abbrev pub refusal_text : Refusal → List ℕ
refusal_text NoMemory = codes "no memory\n"
refusal_text BadRequest = codes "bad request\n"
refusal_text NoSuchJob = codes "no such job\n"
refusal_text AlreadyLoaded = codes "already loaded\n"
refusal_text Disabled = codes "disabled\n"
refusal_text Removing = codes "being removed\n"
refusal_text NotRunning = codes "not running\n"
refusal_text (BadDefinition reason key) =
    codes "bad definition: " ++ reason_text reason ++ codes " " ++ key_text key ++ codes "\n"
refusal_text StoreRefused = codes "store refused\n"
refusal_text TooManyJobs = codes "too many jobs\n"
refusal_text SocketRefused = codes "socket refused\n"
refusal_text TooManyConnections = codes "too many connections\n"
refusal_text Stale = codes "stale\n"
refusal_text ClockRefused = codes "clock refused\n"
refusal_text ShuttingDown = codes "shutting down\n"

-- the code of a refusal; 0 says that there is none
abbrev pub refusal_code : Refusal → ℕ
refusal_code NoMemory = 1
refusal_code BadRequest = 2
refusal_code NoSuchJob = 3
refusal_code AlreadyLoaded = 4
refusal_code Disabled = 5
refusal_code Removing = 6
refusal_code NotRunning = 7
refusal_code (BadDefinition reason key) = 8
refusal_code StoreRefused = 9
refusal_code TooManyJobs = 10
refusal_code SocketRefused = 11
refusal_code TooManyConnections = 12
refusal_code Stale = 13
refusal_code ClockRefused = 14
refusal_code ShuttingDown = 15
