-- The first line of a journal: the clocks, the zone and the settings that it begins with.
use Rattle.std.specs.Prelude.{ℕ, ◌+◌, ◌*◌, ◌-◌, List, [], ◌∷◌, ◌++◌, codes, Bool, true, false, ◌&&◌, Option, Some, None, nat_le, option_and_then, option_map, if◌then◌else◌}
use Rattle.serde_json.specs.Data.{Data, Members, no_members, member}
use Rattle.serde_json.specs.Find.{get, as_str, as_number, as_i64, as_bool, as_object}
use Rattle.history_model.specs.declared.Reading.{Reading}
use Rattle.history_model.specs.declared.TheConstants.{MAX_UP, MAX_WALL}
use Rattle.history_model.specs.declared.event.Setting.{Setting}
use Rattle.history_model.specs.Labels.{is_label}
use Rattle.ctl_protocol.specs.declared.header.Header.{Header}
use Rattle.ctl_protocol.specs.declared.header.ZoneText.{ZoneText}
use Rattle.ctl_protocol.specs.declared.header.ZoneText.TheVariants.{Posix, Offset, File}
use Rattle.json_kinds.specs.Json.{json_in}
use Rattle.json_kinds.specs.JsonKinds.{is_among}
use Rattle.ctl_protocol.specs.Members.{◌>>=◌, number_key}

-- ---- bytes in lower case hexadecimal

-- the value of a digit, of `0` to `9` or `a` to `f`
abbrev pub digit_of : ℕ → Option ℕ
digit_of b =
    if nat_le 48 b && nat_le b 57 then Some (b - 48)
    else if nat_le 97 b && nat_le b 102 then Some (b - 87)
    else None

-- the byte that two digits write
abbrev pub byte_of : ℕ → ℕ → Option ℕ
byte_of x y = do
  high ← digit_of x
  low ← digit_of y
  Some (16 * high + low)

-- two digits a byte
unfoldable pub bytes_of_hex : List ℕ → Option (List ℕ)
bytes_of_hex [] = Some []
bytes_of_hex (x ∷ []) = None
bytes_of_hex (x ∷ y ∷ rest) = do
  byte ← byte_of x y
  bytes ← bytes_of_hex rest
  Some (byte ∷ bytes)

-- ---- the keys

-- an integer from 0 to the most
unfoldable pub up_to : ℕ → List ℕ → Data → Option ℕ
up_to most key d = number_key key d >>= λ n. if nat_le n most then Some n else None

-- the clocks `up` and `wall`, each within its bound
abbrev pub reading_keys : Data → Option Reading
reading_keys d = do
  up ← up_to MAX_UP (codes "up") d
  wall ← up_to MAX_WALL (codes "wall") d
  Some (record { up = up; wall = wall })

-- `zone` is a POSIX rule text, `offset` whole seconds east of UTC, `zonefile` the bytes of a zone
-- file in hexadecimal
abbrev pub posix_of : Data → Option ZoneText
posix_of d = option_map Posix (as_str d)

-- the same of `offset`
abbrev pub offset_of : Data → Option ZoneText
offset_of d = option_map Offset (option_and_then as_i64 (as_number d))

-- the same of `zonefile`
abbrev pub file_of : Data → Option ZoneText
file_of d = option_map File (option_and_then bytes_of_hex (as_str d))

-- the zone, if exactly one of the three keys is present
abbrev one_zone : Option Data → Option Data → Option Data → Option ZoneText
one_zone (Some d) None None = posix_of d
one_zone None (Some d) None = offset_of d
one_zone None None (Some d) = file_of d
one_zone None None None = None
one_zone (Some d) (Some e) f = None
one_zone (Some d) None (Some f) = None
one_zone None (Some e) (Some f) = None

-- exactly one of them
unfoldable pub zone_key : Data → Option ZoneText
zone_key d = one_zone (get (codes "zone") d) (get (codes "offset") d) (get (codes "zonefile") d)

-- a label and its flag
abbrev pub setting_of : List ℕ → Data → Option Setting
setting_of label d =
    if is_label label
    then option_map (λ disabled. record { label = label; disabled = disabled }) (as_bool d)
    else None

-- each member is a label with its flag
abbrev pub settings_of : Members → Option (List Setting)
settings_of no_members = Some []
settings_of (member label d ms) = do
  setting ← setting_of label d
  settings ← settings_of ms
  Some (setting ∷ settings)

-- the settings of an object; without the key there are none
abbrev or_none : Option Data → Option (List Setting)
or_none None = Some []
or_none (Some d) = as_object d >>= settings_of

-- an object from label to flag, or none
unfoldable pub overrides_key : Data → Option (List Setting)
overrides_key d = or_none (get (codes "overrides") d)

-- the keys that a header may have
abbrev pub header_keys : List (List ℕ)
header_keys =
    codes "up" ∷ codes "wall" ∷ codes "zone" ∷ codes "offset" ∷ codes "zonefile"
    ∷ codes "overrides" ∷ []

-- each key of the members is one of these
abbrev pub are_among : List (List ℕ) → Members → Bool
are_among keys no_members = true
are_among keys (member k d ms) = is_among keys k && are_among keys ms

-- an object with no other key than a header's
abbrev only_these : Option Members → Bool
only_these None = false
only_these (Some ms) = are_among header_keys ms

-- the same of any value
unfoldable pub has_header_keys : Data → Bool
has_header_keys d = only_these (as_object d)

-- the header that the object of a line records
unfoldable pub header_shape : Data → Option Header
header_shape d = if has_header_keys d then (do
  reading ← reading_keys d
  zone ← zone_key d
  overrides ← overrides_key d
  Some (record { reading = reading; zone = zone; overrides = overrides })) else None

-- the header that a line is
unfoldable pub header_at : List ℕ → Option Header
header_at line = json_in line >>= header_shape

-- ---- for loops: with what came before

-- what was read before, and then the rest, if it can be read
abbrev pub with_front : {X : Type 0} → List X → Option (List X) → Option (List X)
with_front front tail = tail >>= λ rest. Some (front ++ rest)
