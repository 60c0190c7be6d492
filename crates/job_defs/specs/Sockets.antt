-- `Sockets` and `inetdCompatibility` of launchd.plist(5). Each name stands for one socket or for an
-- array of them. Only listening stream sockets over IPv4 and at Unix paths are supported, and only
-- for jobs that take each connection as their standard input and output.
use Rattle.std.specs.Prelude.{ℕ, ◌+◌, List, [], ◌∷◌, Bool, true, false, not, ◌&&◌, nat_lt, nat_le, length, Result, Ok, Err, Option, Some, None, if◌then◌else◌, codes, ⊤, ◌==◌}
use Rattle.std.specs.List.{list_all, slice_split}
use Rattle.std.specs.Str.{bytes_eq}
use Rattle.std.specs.Str.Parse.{digits_value}
use Rattle.serde_json.specs.Data.{Num, Data, Members, no_members, member}
use Rattle.serde_json.specs.Events.{items_len}
use Rattle.serde_json.specs.Find.{get, as_number}
use Rattle.history_model.specs.declared.Reason.TheVariants.{Missing, OutOfRange, TooLong, Unsupported}
use Rattle.history_model.specs.declared.KeyName.TheVariants as keys
use Rattle.history_model.specs.Machine.{Fault}
use Rattle.history_model.specs.RefusalTexts.{key_text}
use Rattle.history_model.specs.declared.definition.parts.Socket.{Socket}
use Rattle.history_model.specs.Definitions.{has_some}
use Rattle.history_model.specs.declared.definition.parts.Address.{Address}
use Rattle.history_model.specs.declared.definition.parts.Address.TheVariants.{Unix, Inet}
use Rattle.json_kinds.specs.Digits.{is_digit}
use Rattle.json_kinds.specs.DefFaults.{bad, or_fault, ◌>>=◌}
use Rattle.json_kinds.specs.Names.{Key, secure_key, socket_type, passive, family, protocol, path_name, node_name, service_name, wait}
use Rattle.json_kinds.specs.JsonKinds.{text_at, bool_at, object_at, in_range, is_among, filled_at, each_item, each_member, members_or_one, where_there, optional, unsupported_key}

-- ---- the keys of a socket

-- only these texts are supported
unfoldable pub one_of : List (List ℕ) → Data → Result ⊤ Fault
one_of texts d = do
  text ← text_at keys.Sockets d
  if is_among texts text then Ok tt else Err (bad Unsupported keys.Sockets)

-- only listening sockets are supported
unfoldable pub passive_at : Data → Result ⊤ Fault
passive_at d = do
  listens ← bool_at keys.Sockets d
  if listens then Ok tt else Err (bad Unsupported keys.Sockets)

-- the number that decimal digits write, from one digit to this number of them
unfoldable pub number_in : ℕ → List ℕ → Option ℕ
number_in most text =
    if nat_lt 0 (length text) && nat_le (length text) most && list_all is_digit text
    then Some (digits_value 10 text)
    else None

-- at most three digits, at most 255
unfoldable pub octet_in : List ℕ → Option ℕ
octet_in text = small (number_in 3 text) where
  small : Option ℕ → Option ℕ
  small None = None
  small (Some n) = if nat_le n 255 then Some n else None

-- the byte `.`
abbrev pub is_dot : ℕ → Bool
is_dot b = b == 46

-- the four bytes, if each is one
abbrev pub four_octets : Option ℕ → Option ℕ → Option ℕ → Option ℕ → Option (List ℕ)
four_octets (Some a) (Some b) (Some c) (Some d) = Some (a ∷ b ∷ c ∷ d ∷ [])
four_octets _ _ _ _ = None

-- the parts, if they are four
abbrev pub octets_in : List (List ℕ) → Option (List ℕ)
octets_in (a ∷ b ∷ c ∷ d ∷ []) = four_octets (octet_in a) (octet_in b) (octet_in c) (octet_in d)
octets_in _ = None

-- four numbers of 0 to 255, joined by dots
unfoldable pub dotted_in : List ℕ → Option (List ℕ)
dotted_in text = octets_in (slice_split is_dot text)

-- a name of its own, or numbers
unfoldable pub host_in : List ℕ → Option (List ℕ)
host_in text =
    if bytes_eq text (codes "localhost") then Some (127 ∷ 0 ∷ 0 ∷ 1 ∷ []) else dotted_in text

-- nothing is looked up
unfoldable pub host_at : Data → Result (List ℕ) Fault
host_at d = do
  text ← text_at keys.Sockets d
  or_fault (host_in text) (bad Unsupported keys.Sockets)

-- every address of the machine
abbrev pub any_host : List ℕ
any_host = 0 ∷ 0 ∷ 0 ∷ 0 ∷ []

-- the port that one to five digits write; names of services are not looked up
unfoldable pub port_in : List ℕ → Result ℕ Fault
port_in text = do
  n ← or_fault (number_in 5 text) (bad Unsupported keys.Sockets)
  if nat_le 1 n && nat_le n 65535 then Ok n else Err (bad OutOfRange keys.Sockets)

-- a number is the port, or else a string names it
unfoldable pub port_by : Option Num → Data → Result ℕ Fault
port_by (Some n) d = in_range 1 65535 keys.Sockets n
port_by None d = do
  text ← text_at keys.Sockets d
  port_in text

-- `SockServiceName`
unfoldable pub port_at : Data → Result ℕ Fault
port_at d = port_by (as_number d) d

-- the path decides over host and port
unfoldable pub address_of : Option (List ℕ) → List ℕ → Option ℕ → Result Address Fault
address_of (Some path) host port = Ok (Unix path)
address_of None host (Some port) = Ok (Inet host port)
address_of None host None = Err (bad Missing keys.Sockets)

-- the keys in the order in which they are checked
unfoldable pub socket_at : Data → Result Socket Fault
socket_at d = do
  socket ← object_at keys.Sockets d
  insecure ← unsupported_key keys.Sockets (get secure_key d)
  stream ← where_there (one_of (codes "stream" ∷ [])) tt (get socket_type d)
  listens ← where_there passive_at tt (get passive d)
  known ← where_there (one_of (codes "IPv4" ∷ codes "Unix" ∷ [])) tt (get family d)
  tcp ← where_there (one_of (codes "TCP" ∷ [])) tt (get protocol d)
  path ← optional (filled_at 107 keys.Sockets) (get path_name d)
  host ← where_there host_at any_host (get node_name d)
  port ← optional port_at (get service_name d)
  address ← address_of path host port
  Ok (record { address = address })

-- ---- all sockets

-- an array counts each of its members, any other value is one
abbrev pub socket_count : Members → ℕ
socket_count no_members = 0
socket_count (member name d ms) = items_len (members_or_one d) + socket_count ms

-- the sockets under one name
unfoldable pub sockets_in : Key → Data → Result (List Socket) Fault
sockets_in name d = each_item socket_at (members_or_one d)

-- at most 8 sockets
unfoldable pub sockets_at : Data → Result (List Socket) Fault
sockets_at d = do
  named ← object_at keys.Sockets d
  if nat_lt 8 (socket_count named) then Err (bad TooLong keys.Sockets)
      else each_member sockets_in named

-- without the key there are none
unfoldable pub sockets_key : Data → Result (List Socket) Fault
sockets_key d = where_there sockets_at [] (get (key_text keys.Sockets) d)

-- ---- inetdCompatibility

-- the boolean is present and false
abbrev pub is_off : Option Bool → Bool
is_off (Some false) = true
is_off _ = false

-- `Wait` has to be a boolean if it is present, and to be present and false if there are sockets
unfoldable pub inetd_at : Bool → Data → Result ⊤ Fault
inetd_at has_sockets d = do
  compatibility ← object_at keys.InetdCompatibility d
  waits ← optional (bool_at keys.InetdCompatibility) (get wait d)
  if has_sockets && not (is_off waits) then Err (bad Unsupported keys.InetdCompatibility) else Ok tt

-- a job with sockets has to say that it takes one connection a run
unfoldable pub inetd_key : Bool → Data → Result ⊤ Fault
inetd_key has_sockets d = inetd_by (get (key_text keys.InetdCompatibility) d) where
  inetd_by : Option Data → Result ⊤ Fault
  inetd_by (Some found) = inetd_at has_sockets found
  inetd_by None = if has_sockets then Err (bad Unsupported keys.InetdCompatibility) else Ok tt

-- ---- both keys

-- `Sockets` and `inetdCompatibility`
unfoldable pub sockets_and_inetd : Data → Result (List Socket) Fault
sockets_and_inetd d = do
  sockets ← sockets_key d
  inetd ← inetd_key (has_some sockets) d
  Ok sockets
