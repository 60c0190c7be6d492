-- What was written for a header is read as that header.
use Rattle.std.proofs.Common.{◌≡◌, ◌<◌, ◌≤◌, ℕ, ◌+◌, ◌-◌, ◌*◌, ◌/◌, ◌%◌, ◌^◌, List, [], ◌∷◌, ◌++◌, map, Bool, true, false, nat_lt, nat_le, Some, refl, sym, ap, ◌∙◌, subst, if◌then◌else◌, arith, append_assoc, append-nil, pos, negsuc}
use Rattle.std.specs.Prelude.{⊤}
use Rattle.std.specs.List.{list_all, AllByRecursion}
use Rattle.std.specs.Ordering.{nat_cmp}
use Rattle.std.specs.Cmp.Lexicographic.{slice_cmp, nat_list_cmp_total}
use Rattle.std.specs.declared.cmp.Ordering.TheVariants.{Greater}
use Rattle.serde_json.specs.Data.{Data, Members, no_members, member, boolean, put}
use Rattle.serde_json.specs.Written.{compact_text}
use Rattle.history_model.specs.declared.Reading.{Reading}
use Rattle.history_model.specs.declared.TheConstants.{MAX_UP, MAX_WALL}
use Rattle.history_model.specs.declared.event.Setting.{Setting}
use Rattle.history_model.specs.Labels.{Label, is_label, is_before}
use Rattle.history_model.specs.MachineLaws.{AreInOrder}
use Rattle.ctl_protocol.specs.declared.header.Header.{Header}
use Rattle.ctl_protocol.specs.declared.header.ZoneText.{ZoneText}
use Rattle.ctl_protocol.specs.declared.header.ZoneText.TheVariants.{Posix, Offset, File}
use Rattle.ctl_protocol.specs.Members.{◌>>=◌, number_key}
use Rattle.ctl_protocol.specs.Objects.{with_members}
use Rattle.ctl_protocol.specs.Headers.{digit_of, byte_of, bytes_of_hex, up_to, zone_key, settings_of, overrides_key, has_header_keys, header_shape, header_at}
use Rattle.ctl_protocol.specs.HeaderLines.{hex_digit, hex_of, setting_members, header_object, is_zone, is_setting, IsHeader}
use Rattle.ctl_protocol.proofs.ObjectsLemmas.{header_depth}
use Rattle.ctl_protocol.proofs.EventWriterLemmas.{IsRead, kept, read_at}
use Rattle.history_model.proofs.BooleanLemmas.{and-left, and-right}
use Rattle.history_model.proofs.LabelOrderLemmas.{is_less-Less}
use Rattle.std.proofs.lemmas.Bool.{ltb-true}

-- ---- hexadecimal

within : (n m : ℕ) → n ≤ m → nat_le n m ≡ true
within n m l = grind (arith, l)

not_within : (n m : ℕ) → m < n → nat_le n m ≡ false
not_within n m l = grind (arith, l)

digit_at : (t : Bool) (n : ℕ) → nat_lt n 10 ≡ t → n < 16 → digit_of (if t then 48 + n else 87 + n) ≡ Some n
digit_at true n e l =
    let small = ltb-true n 10 e in
    let back : 48 + n - 48 ≡ n = omega arith in
    rw (within 48 (48 + n) (omega arith), within (48 + n) 57 (omega (arith, small))) (ap Some back)
digit_at false n e l =
    let large : 10 ≤ n = grind (arith, e) in
    let back : 87 + n - 87 ≡ n = omega arith in
    rw (not_within (87 + n) 57 (omega (arith, large)), within 48 (87 + n) (omega arith), within 97 (87 + n) (omega (arith, large)), within (87 + n) 102 (omega (arith, l))) (ap Some back)

digit_back : (n : ℕ) → n < 16 → digit_of (hex_digit n) ≡ Some n
digit_back n l = digit_at (nat_lt n 10) n refl l

byte_back : (b : ℕ) → b < 256 → byte_of (hex_digit (b / 16)) (hex_digit (b % 16)) ≡ Some b
byte_back b l =
    let whole : 16 * (b / 16) + b % 16 ≡ b = omega arith in
    rw (digit_back (b / 16) (omega (arith, l)), digit_back (b % 16) (omega arith)) (ap Some whole)

hex_back : (bytes : List ℕ) → list_all (λ byte. nat_lt byte 256) bytes ≡ true → bytes_of_hex (hex_of bytes) ≡ Some bytes
unfolding bytes_of_hex
hex_back [] h = refl
hex_back (b ∷ bytes) h =
    let small = ltb-true b 256 (and-left (nat_lt b 256) (list_all (λ byte. nat_lt byte 256) bytes) h) in
    rw (byte_back b small, hex_back bytes (and-right (nat_lt b 256) (list_all (λ byte. nat_lt byte 256) bytes) h)) refl

-- ---- settings

abbrev pub labels_in : List Setting → List Label
labels_in settings = map (λ s. s.label) settings

abbrev AllBefore : List Setting → Label → Type 0
AllBefore [] label = ⊤
AllBefore (s ∷ settings) label = (is_before s.label label ≡ true) × AllBefore settings label

abbrev pub listed : List Setting → Members
listed [] = no_members
listed (s ∷ settings) = member s.label (boolean s.disabled) (listed settings)

behind : (a b : Label) → is_before a b ≡ true → slice_cmp nat_cmp b a ≡ Greater
behind a b h = rw (nat_list_cmp_total.antisymm b a, is_less-Less (slice_cmp nat_cmp a b) h) refl

put_last : (front : List Setting) (s : Setting) → AllBefore front s.label → put s.label (boolean s.disabled) (listed front) ≡ listed (front ++ s ∷ [])
put_last [] s h = refl
put_last (f ∷ front) s h = rw (behind f.label s.label h.0) (ap (member f.label (boolean f.disabled)) (put_last front s h.1))

at_place : (P : Label → Type 0) (front : List Setting) (s : Setting) (more : List Setting) → AllByRecursion P (labels_in (front ++ s ∷ more)) → P s.label
at_place P [] s more h = h.0
at_place P (f ∷ front) s more h = at_place P front s more h.1

all_before : (front : List Setting) (s : Setting) (more : List Setting) → AreInOrder (labels_in (front ++ s ∷ more)) → AllBefore front s.label
all_before [] s more h = tt
all_before (f ∷ front) s more h = (at_place (λ other. is_before f.label other ≡ true) front s more h.0, all_before front s more h.1)

pub with_back : (front settings : List Setting) → AreInOrder (labels_in (front ++ settings)) → with_members (listed front) (setting_members settings) ≡ listed (front ++ settings)
with_back front [] h = sym (ap listed (append-nil front))
with_back front (s ∷ more) h =
    let joined = append_assoc front (s ∷ []) more in
    ap (λ ms. with_members ms (setting_members more)) (put_last front s (all_before front s more h))
    ∙ with_back (front ++ s ∷ []) more (subst (λ l. AreInOrder (labels_in l)) (sym joined) h) ∙ ap listed joined

listed_back : (settings : List Setting) → list_all is_setting settings ≡ true → settings_of (listed settings) ≡ Some settings
listed_back [] h = refl
listed_back (s ∷ settings) h =
    rw (and-left (is_label s.label) (list_all is_setting settings) h, listed_back settings (and-right (is_label s.label) (list_all is_setting settings) h)) refl

settings_back : (settings : List Setting) → list_all is_setting settings ≡ true → AreInOrder (labels_in settings) → settings_of (with_members no_members (setting_members settings)) ≡ Some settings
settings_back settings labels order = ap settings_of (with_back [] settings order) ∙ listed_back settings labels

-- ---- headers

abbrev pub header_of : Reading → ZoneText → List Setting → Header
header_of at zone overrides = record { reading = at; zone = zone; overrides = overrides }

line_at : (at : Reading) (zone : ZoneText) (overrides : List Setting) → nat_le at.up MAX_UP ≡ true → nat_le at.wall MAX_WALL ≡ true → is_zone zone ≡ true
    → settings_of (with_members no_members (setting_members overrides)) ≡ Some overrides → header_shape (header_object (header_of at zone overrides)) ≡ Some (header_of at zone overrides)
unfolding header_shape has_header_keys up_to number_key zone_key overrides_key
line_at at (Posix rule) overrides up wall zone settings = rw (kept (nat_le at.up MAX_UP) at.up up, kept (nat_le at.wall MAX_WALL) at.wall wall, settings) refl
line_at at (Offset (pos n)) overrides up wall zone settings =
    rw (kept (nat_le at.up MAX_UP) at.up up, kept (nat_le at.wall MAX_WALL) at.wall wall, kept (nat_lt n (2 ^ 63)) (pos n) zone, settings) refl
line_at at (Offset (negsuc n)) overrides up wall zone settings = rw (kept (nat_le at.up MAX_UP) at.up up, kept (nat_le at.wall MAX_WALL) at.wall wall, settings) refl
line_at at (File bytes) overrides up wall zone settings =
    rw (kept (nat_le at.up MAX_UP) at.up up, kept (nat_le at.wall MAX_WALL) at.wall wall, hex_back bytes zone, settings) refl

pub header_back : (h : Header) (d : Data) → d ≡ header_object h → IsRead d → IsHeader h → header_at (compact_text (header_object h)) ≡ Some h
unfolding header_at
header_back h d same read is =
    ap (λ o. o >>= header_shape) (read_at d (header_object h) same (header_depth h) read)
    ∙ line_at h.reading h.zone h.overrides is.up is.wall is.zone (settings_back h.overrides is.labels is.order)
