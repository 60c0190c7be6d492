-- What stays true in the loop of `settings::are_in_order`.
use Rattle.std.proofs.Common.{◌≡◌, drop}
use denote.Text.{Utf8}
use denote.Shadow.{shadow}
use Rattle.ctl_protocol.proofs.HeaderReaderLemmas.{labels_in}
use Rattle.launcher.proofs.HeaderLemmas.{AreTexts, rises_from}
use Rattle.launcher.proofs.settings.are_in_order.Given as goal

abbrev pub invariant-loop-setting : goal.invariant-loop-setting
invariant-loop-setting l =
    shadow (Utf8 l.last)
    × (rises_from l.last (labels_in (drop l.setting-index l.rest)) ≡ rises_from l.initial.last (labels_in l.rest))
    × (AreTexts (drop l.setting-index l.rest) → AreTexts l.rest)
