-- A header that opened a launcher can be written.
use Rattle.std.proofs.Common.{◌≡◌, ◌≤◌, ◌<◌, ◌^◌, ◌+◌, ◌/◌, ◌%◌, ℕ, ℤ, pos, negsuc, suc, Bool, true, false, ◌&&◌, List, [], ◌∷◌, length, drop, get_or, drop-cons, nat_lt, nat_le, None, refl, sym, ap, ◌∙◌, subst, arith}
use Rattle.std.proofs.Math.ListN.{drop_of_length-le}
use Rattle.std.specs.Prelude.{not, ◌||◌, if◌then◌else◌, slice_index, IsUtf8}
use Rattle.std.specs.List.{AllByRecursion, list_all}
use Rattle.std.specs.Str.{IsAscii}
use Rattle.std.proofs.lemmas.Bool.{and_from, and_parts}
use Rattle.std.proofs.lemmas.Bool.Decides.{nat_tests}
use Rattle.std.proofs.lemmas.Str.{IsUtf8-from_ascii}
use Rattle.std.proofs.lemmas.Str.Ascii.{IsAscii-cons, IsAscii-nil}
use Rattle.history_model.specs.declared.Reading.{Reading}
use Rattle.history_model.specs.declared.Refusal.TheVariants.{BadRequest, ClockRefused}
use Rattle.history_model.specs.declared.TheConstants.{MAX_UP, MAX_WALL}
use Rattle.history_model.specs.declared.event.Setting.{Setting}
use Rattle.history_model.specs.Acceptance.{refused_if}
use Rattle.history_model.specs.Labels.{Label, is_before, is_label}
use Rattle.history_model.specs.MachineLaws.{AreInOrder}
use Rattle.history_model.proofs.LabelOrderLemmas.{before-trans}
use Rattle.history_model.proofs.StepLemmas.{all-implied}
use Rattle.ctl_protocol.specs.declared.header.Header.{Header}
use Rattle.ctl_protocol.specs.declared.header.ZoneText.TheVariants.{Posix, Offset, File}
use Rattle.ctl_protocol.specs.Objects.{whole}
use Rattle.ctl_protocol.specs.HeaderLines.{hex_digit, hex_of, setting_members}
use Rattle.ctl_protocol.proofs.HeaderReaderLemmas.{labels_in}
use Rattle.loaded_jobs.specs.Opening.{opening_refusal}
use Rattle.launcher.specs.Writable.{IsFit, IsFitZone, IsWritableHeader}

-- ---- the order of the settings

abbrev pub AreTexts : List Setting → Type 0
AreTexts settings = AllByRecursion (λ s. IsUtf8 s.label) settings

-- each label is before the one that comes next
abbrev pub rises_from : Label → List Label → Bool
rises_from label [] = true
rises_from label (next ∷ labels) = is_before label next && rises_from next labels

pub in_order : (label : Label) (labels : List Label) → rises_from label labels ≡ true → AreInOrder (label ∷ labels)
in_order label [] rises = (tt, tt)
in_order label (next ∷ labels) rises =
    let p = and_parts (is_before label next) (rises_from next labels) rises in
    let later : AreInOrder (next ∷ labels) = in_order next labels p.1 in
    ((p.0, all-implied (λ other. is_before next other ≡ true) (λ other. is_before label other ≡ true) (λ other behind. before-trans label next other p.0 behind) labels later.0), later)

pub rising : (label : Label) (labels : List Label) → AreInOrder (label ∷ labels) → rises_from label labels ≡ true
rising label [] order = refl
rising label (next ∷ labels) order = and_from (is_before label next) (rises_from next labels) order.0.0 (rising next labels order.1)

-- ---- one pass over the settings

split : (rest : List Setting) (i : ℕ) (s : Setting) → i < length rest → s ≡ get_or rest i s → drop i rest ≡ s ∷ drop (i + 1) rest
split rest i s within is =
    let next : suc i ≡ i + 1 = omega arith in
    drop-cons rest i s within ∙ ap (λ x. x ∷ drop (suc i) rest) (sym is) ∙ ap (λ j. s ∷ drop j rest) next

pub goes_on : (rest : List Setting) (i : ℕ) (s : Setting) (last first : Label) → i < length rest → s ≡ get_or rest i s → is_before last s.label ≡ true →
    rises_from last (labels_in (drop i rest)) ≡ rises_from first (labels_in rest) → rises_from s.label (labels_in (drop (i + 1) rest)) ≡ rises_from first (labels_in rest)
goes_on rest i s last first within is before so_far =
    sym (ap (λ b. b && rises_from s.label (labels_in (drop (i + 1) rest))) before) ∙ sym (ap (λ l. rises_from last (labels_in l)) (split rest i s within is)) ∙ so_far

pub stops : (rest : List Setting) (i : ℕ) (s : Setting) (last first : Label) → i < length rest → s ≡ get_or rest i s → is_before last s.label ≡ false →
    rises_from last (labels_in (drop i rest)) ≡ rises_from first (labels_in rest) → AreInOrder (first ∷ labels_in rest) → ⊥
stops rest i s last first within is before so_far order =
    let clash : true ≡ false = sym (rising first (labels_in rest) order) ∙ sym so_far ∙ ap (λ l. rises_from last (labels_in l)) (split rest i s within is)
    ∙ ap (λ b. b && rises_from s.label (labels_in (drop (i + 1) rest))) before in
    absurd (cc clash)

pub ends : (rest : List Setting) (i : ℕ) (last first : Label) → length rest ≤ i → rises_from last (labels_in (drop i rest)) ≡ rises_from first (labels_in rest) → AreInOrder (first ∷ labels_in rest)
ends rest i last first over so_far = in_order first (labels_in rest) (sym so_far ∙ ap (λ l. rises_from last (labels_in l)) (drop_of_length-le rest over))

pub text_more : (rest : List Setting) (i : ℕ) (s : Setting) → i < length rest → s ≡ get_or rest i s → IsUtf8 s.label → (AreTexts (drop i rest) → AreTexts rest) → AreTexts (drop (i + 1) rest) → AreTexts rest
text_more rest i s within is text so_far more = so_far (subst AreTexts (sym (split rest i s within is)) (text, more))

pub all_texts : (rest : List Setting) (i : ℕ) → length rest ≤ i → (AreTexts (drop i rest) → AreTexts rest) → AreTexts rest
all_texts rest i over so_far = so_far (subst AreTexts (sym (drop_of_length-le rest over)) tt)

-- ---- the zone

below : (n bound : ℕ) → n < bound → nat_lt n bound ≡ true
below n bound small = grind (arith, nat_tests, small)

pub are_bytes : (bytes : List ℕ) → ((i : ℕ) → slice_index bytes i < 256) → list_all (λ byte. nat_lt byte 256) bytes ≡ true
are_bytes [] fits = refl
are_bytes (byte ∷ bytes) fits = and_from (nat_lt byte 256) (list_all (λ b. nat_lt b 256) bytes) (below byte 256 (fits 0)) (are_bytes bytes (λ i. fits (suc i)))

pub rule_fits : (rule : List ℕ) → IsUtf8 rule → IsFitZone (Posix rule)
rule_fits rule text = record { bytes = refl; fit = text }

pub offset_fits : (seconds : ℤ) → IsFit (whole seconds) → IsFitZone (Offset seconds)
offset_fits (pos n) fits = record { bytes = below n (2 ^ 63) fits; fit = fits }
offset_fits (negsuc n) fits = record { bytes = refl; fit = fits }

ascii_digit : (n : ℕ) → n < 16 → hex_digit n < 128
ascii_digit n small = go (nat_lt n 10) where
  go : (b : Bool) → (if b then 48 + n else 87 + n) < 128
  go true = omega (arith, small)
  go false = omega (arith, small)

ascii_hex : (bytes : List ℕ) → list_all (λ byte. nat_lt byte 256) bytes ≡ true → IsAscii (hex_of bytes)
ascii_hex [] are = IsAscii-nil
ascii_hex (byte ∷ bytes) are =
    let p = and_parts (nat_lt byte 256) (list_all (λ b. nat_lt b 256) bytes) are in
    let small : byte < 256 = grind (arith, nat_tests, p.0) in
    IsAscii-cons (hex_digit (byte / 16)) (hex_digit (byte % 16) ∷ hex_of bytes) (ascii_digit (byte / 16) (omega (arith, small)))
    (IsAscii-cons (hex_digit (byte % 16)) (hex_of bytes) (ascii_digit (byte % 16) (omega arith)) (ascii_hex bytes p.1))

pub file_fits : (bytes : List ℕ) → list_all (λ byte. nat_lt byte 256) bytes ≡ true → IsFitZone (File bytes)
file_fits bytes are = record { bytes = are; fit = IsUtf8-from_ascii (hex_of bytes) (ascii_hex bytes are) }

-- ---- the header

-- what an opening admits is of labels, and its reading is within the limits
record IsOpeningAllowed (at : Reading) (settings : List Setting) : Type 0 where
  labels : list_all (λ setting. is_label setting.label) settings ≡ true
  up : at.up ≤ MAX_UP
  wall : at.wall ≤ MAX_WALL

admitted : (at : Reading) (settings : List Setting) → opening_refusal at settings ≡ None → IsOpeningAllowed at settings
admitted at settings none = go (list_all (λ setting. is_label setting.label) settings) (nat_lt at.up at.up) (nat_lt MAX_UP at.up) (nat_lt MAX_WALL at.wall) refl refl refl none where
  go : (b low high late : Bool) → list_all (λ setting. is_label setting.label) settings ≡ b → nat_lt MAX_UP at.up ≡ high → nat_lt MAX_WALL at.wall ≡ late →
      refused_if (not b) BadRequest (refused_if (low || high || late) ClockRefused None) ≡ None → IsOpeningAllowed at settings
  go false low high late labels up wall none = cc
  go true true high late labels up wall none = cc
  go true false true late labels up wall none = cc
  go true false false true labels up wall none = cc
  go true false false false labels up wall none = record { labels = labels; up = grind (arith, nat_tests, up); wall = grind (arith, nat_tests, wall) }

at_most : (n bound : ℕ) → n ≤ bound → nat_le n bound ≡ true
at_most n bound small = grind (arith, nat_tests, small)

member_texts : (settings : List Setting) → AreTexts settings → AllByRecursion (λ m. IsUtf8 m.0) (setting_members settings)
member_texts [] texts = tt
member_texts (s ∷ settings) texts = (texts.0, member_texts settings texts.1)

pub header_writable : (h : Header) → opening_refusal h.reading h.overrides ≡ None → AreInOrder (labels_in h.overrides) → AreTexts h.overrides → IsFitZone h.zone → IsWritableHeader h
header_writable h none order texts zone =
    let a = admitted h.reading h.overrides none in
    let up : h.reading.up < 2 ^ 64 = omega (arith, a.up) in
    let wall : h.reading.wall < 2 ^ 64 = omega (arith, a.wall) in
    record {
      is = record { up = at_most h.reading.up MAX_UP a.up; wall = at_most h.reading.wall MAX_WALL a.wall; zone = zone.bytes; labels = a.labels; order = order };
      fit = (up, (wall, (zone.fit, tt)));
      labels = member_texts h.overrides texts;
    }
