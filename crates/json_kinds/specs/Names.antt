-- The keys of the objects inside a definition, as launchd.plist(5) names them.
use Rattle.std.specs.Prelude.{ℕ, List, codes}

-- a key is its bytes
abbrev pub Key : Type 0
Key = List ℕ

-- ---- KeepAlive

abbrev pub crashed : Key
crashed = codes "Crashed"

abbrev pub path_state : Key
path_state = codes "PathState"

abbrev pub successful_exit : Key
successful_exit = codes "SuccessfulExit"

-- ---- an entry of StartCalendarInterval

abbrev pub day : Key
day = codes "Day"

abbrev pub hour : Key
hour = codes "Hour"

abbrev pub minute : Key
minute = codes "Minute"

abbrev pub month : Key
month = codes "Month"

abbrev pub weekday : Key
weekday = codes "Weekday"

-- ---- a socket

abbrev pub secure_key : Key
secure_key = codes "SecureSocketWithKey"

abbrev pub socket_type : Key
socket_type = codes "SockType"

abbrev pub passive : Key
passive = codes "SockPassive"

abbrev pub family : Key
family = codes "SockFamily"

abbrev pub protocol : Key
protocol = codes "SockProtocol"

abbrev pub path_name : Key
path_name = codes "SockPathName"

abbrev pub node_name : Key
node_name = codes "SockNodeName"

abbrev pub service_name : Key
service_name = codes "SockServiceName"

-- ---- inetdCompatibility

abbrev pub wait : Key
wait = codes "Wait"
