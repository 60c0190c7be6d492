-- Headers as they are written: the keys that are there, and always `overrides`.
use Rattle.std.specs.Prelude.{◌≡◌, ℕ, ◌+◌, ◌/◌, ◌%◌, ◌^◌, List, [], ◌∷◌, ◌++◌, map, codes, Bool, true, nat_lt, nat_le, pos, negsuc, if◌then◌else◌}
use Rattle.std.specs.List.{flat_map, list_all}
use Rattle.serde_json.specs.Data.{Data, object, no_members, put}
use Rattle.history_model.specs.declared.TheConstants.{MAX_UP, MAX_WALL}
use Rattle.history_model.specs.declared.Reading.{Reading}
use Rattle.history_model.specs.declared.event.Setting.{Setting}
use Rattle.history_model.specs.Labels.{is_label}
use Rattle.history_model.specs.MachineLaws.{AreInOrder}
use Rattle.ctl_protocol.specs.declared.header.Header.{Header}
use Rattle.ctl_protocol.specs.declared.header.ZoneText.{ZoneText}
use Rattle.ctl_protocol.specs.declared.header.ZoneText.TheVariants.{Posix, Offset, File}
use Rattle.ctl_protocol.specs.Objects.{Plain, text, flag, count, whole, with_members, plain_object, line_of}

-- a digit of lower case hexadecimal
abbrev pub hex_digit : ℕ → ℕ
hex_digit n = if nat_lt n 10 then 48 + n else 87 + n

-- the two digits of a byte
abbrev pub hex_pair : ℕ → List ℕ
hex_pair byte = hex_digit (byte / 16) ∷ hex_digit (byte % 16) ∷ []

-- the digits of bytes
abbrev pub hex_of : List ℕ → List ℕ
hex_of bytes = flat_map hex_pair bytes

-- the key that names the zone: a rule, an offset, or the bytes of a zone file
abbrev pub zone_member : ZoneText → List ℕ × Plain
zone_member (Posix rule) = (codes "zone", text rule)
zone_member (Offset seconds) = (codes "offset", whole seconds)
zone_member (File bytes) = (codes "zonefile", text (hex_of bytes))

-- the keys of the clocks
abbrev pub clock_members : Reading → List (List ℕ × Plain)
clock_members at = (codes "up", count at.up) ∷ (codes "wall", count at.wall) ∷ []

-- the keys of the clocks and of the zone
abbrev pub plain_members : Header → List (List ℕ × Plain)
plain_members h = clock_members h.reading ++ zone_member h.zone ∷ []

-- of a label that is named twice the last setting stays
abbrev pub setting_members : List Setting → List (List ℕ × Plain)
setting_members settings = map (λ s. (s.label, flag s.disabled)) settings

-- the object that a header's line holds
abbrev pub header_object : Header → Data
header_object h =
    object (put (codes "overrides") (plain_object (setting_members h.overrides))
    (with_members no_members (plain_members h)))

-- the line of a header, with its newline
abbrev pub header_line : Header → List ℕ
header_line h = line_of (header_object h)

-- ---- which headers a line can record

-- the offset fits in 64 bits, and what is in a file is bytes
abbrev pub is_zone : ZoneText → Bool
is_zone (Posix rule) = true
is_zone (Offset (pos n)) = nat_lt n (2 ^ 63)
is_zone (Offset (negsuc n)) = true
is_zone (File bytes) = list_all (λ byte. nat_lt byte 256) bytes

-- the setting is that of a label
abbrev pub is_setting : Setting → Bool
is_setting s = is_label s.label

-- the clocks and the zone within their bounds, the settings of labels, each once, in byte order
pub record IsHeader (h : Header) : Type 0 where
  pub up : nat_le h.reading.up MAX_UP ≡ true
  pub wall : nat_le h.reading.wall MAX_WALL ≡ true
  pub zone : is_zone h.zone ≡ true
  pub labels : list_all is_setting h.overrides ≡ true
  pub order : AreInOrder (map (λ s. s.label) h.overrides)
