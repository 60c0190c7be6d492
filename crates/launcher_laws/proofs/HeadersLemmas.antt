-- The line of a header is read as it.
use Rattle.std.proofs.Common.{◌≡◌, pos, negsuc, List, [], ◌∷◌, true, Some, refl, ap, ◌∙◌, codes}
use Rattle.std.specs.List.{AllByRecursion}
use Rattle.json.proofs.Printed.Utf8.{IsUtf8-are_ascii}
use Rattle.serde_json.specs.Data.{boolean, object, Members, no_members, put}
use Rattle.serde_json.specs.Written.{compact_text}
use Rattle.history_model.specs.declared.Reading.{Reading}
use Rattle.history_model.specs.declared.event.Setting.{Setting}
use Rattle.history_model.specs.MachineLaws.{AreInOrder}
use Rattle.ctl_protocol.specs.declared.header.Header.{Header}
use Rattle.ctl_protocol.specs.declared.header.ZoneText.{ZoneText}
use Rattle.ctl_protocol.specs.declared.header.ZoneText.TheVariants.{Posix, Offset, File}
use Rattle.ctl_protocol.specs.Headers.{header_at}
use Rattle.ctl_protocol.specs.Objects.{with_members, plain_object}
use Rattle.ctl_protocol.specs.HeaderLines.{plain_members, setting_members, header_object}
use Rattle.ctl_protocol.proofs.HeaderReaderLemmas.{header_back, labels_in, listed, with_back, header_of}
use Rattle.launcher.specs.Writable.{IsFit, IsWritableHeader}
use Rattle.launcher_laws.proofs.ReadBackLemmas.{IsFitData, again, again_onto, put_fit, text_back}
use Rattle.launcher_laws.proofs.EventsLemmas.{are_plain, with_fit, plain_keys}

-- ---- settings in the order of their labels

put_again : (settings : List Setting) (found : Members) → again_onto (listed settings) found ≡ with_members found (setting_members settings)
put_again [] found = refl
put_again (s ∷ settings) found = put_again settings (put s.label (boolean s.disabled) found)

settings_again : (settings : List Setting) → AreInOrder (labels_in settings) → again (plain_object (setting_members settings)) ≡ plain_object (setting_members settings)
settings_again settings order = ap (λ ms. object (again_onto ms no_members)) (with_back [] settings order) ∙ ap object (put_again settings no_members)

-- ---- headers

in_order : (at : Reading) (zone : ZoneText) (overrides : List Setting) → AreInOrder (labels_in overrides) → again (header_object (header_of at zone overrides)) ≡ header_object (header_of at zone overrides)
in_order at (Posix rule) overrides order = ap (λ d. object (put (codes "overrides") d (with_members no_members (plain_members (header_of at (Posix rule) overrides))))) (settings_again overrides order)
in_order at (Offset (pos n)) overrides order =
    ap (λ d. object (put (codes "overrides") d (with_members no_members (plain_members (header_of at (Offset (pos n)) overrides))))) (settings_again overrides order)
in_order at (Offset (negsuc n)) overrides order =
    ap (λ d. object (put (codes "overrides") d (with_members no_members (plain_members (header_of at (Offset (negsuc n)) overrides))))) (settings_again overrides order)
in_order at (File bytes) overrides order = ap (λ d. object (put (codes "overrides") d (with_members no_members (plain_members (header_of at (File bytes) overrides))))) (settings_again overrides order)

plain_header : (at : Reading) (zone : ZoneText) (overrides : List Setting) → are_plain (plain_members (header_of at zone overrides)) ≡ true
plain_header at (Posix rule) overrides = refl
plain_header at (Offset seconds) overrides = refl
plain_header at (File bytes) overrides = refl

flags_fit : (settings : List Setting) → AllByRecursion (λ m. IsFit m.1) (setting_members settings)
flags_fit [] = tt
flags_fit (s ∷ settings) = (tt, flags_fit settings)

header_fit : (h : Header) → IsWritableHeader h → IsFitData (header_object h)
header_fit h told =
    put_fit (codes "overrides") (plain_object (setting_members h.overrides)) (with_members no_members (plain_members h)) (IsUtf8-are_ascii (codes "overrides") refl)
    (with_fit no_members (setting_members h.overrides) told.labels (flags_fit h.overrides) tt)
    (with_fit no_members (plain_members h) (plain_keys (plain_members h) (plain_header h.reading h.zone h.overrides)) told.fit tt)

-- the line of a header is read as it
pub header_read : (h : Header) → IsWritableHeader h → header_at (compact_text (header_object h)) ≡ Some h
header_read h told =
    header_back h (header_object h) refl (λ shallow. text_back (header_object h) (header_fit h told) (in_order h.reading h.zone h.overrides told.is.order) shallow) told.is
