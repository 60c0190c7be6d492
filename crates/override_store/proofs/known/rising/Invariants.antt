-- The part that was passed is copied.
use Rattle.std.proofs.Common.{◌≡◌, take}
use Rattle.override_store.specs.KnownSettings.{settings_of}
use Rattle.override_store.proofs.known.rising.Given as goal

abbrev pub invariant-loop-one : goal.invariant-loop-one
invariant-loop-one l = l.all.items ≡ settings_of (take l.one-index l.known)
