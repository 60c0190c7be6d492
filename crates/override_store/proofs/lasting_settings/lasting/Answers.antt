-- The answers to the goals of `lasting_settings::lasting`.
use Rattle.std.proofs.Common.{arith, sym, ap, subst, ◌∙◌}
use Rattle.sqlite.specs.Held.{state}
use Rattle.sqlite.specs.State.{HasCleanDisk}
use Rattle.override_store.specs.Settings.{setting_in}
use Rattle.override_store.specs.KnownSettings.{settings_of}
use Rattle.override_store.proofs.lasting_settings.lasting.Goals as goal

pub returns-in-Ok-rising-clause-holds : goal.returns-in-Ok-rising-clause-holds
returns-in-Ok-rising-clause-holds g c fit = (
  c.in-Ok.ensures,
  λ l. ap (λ known. setting_in (settings_of known) l) (sym c.as_slice.ensures.value) ∙ ap (λ xs. setting_in xs l) (sym c.in-Ok-rising.ensures),
  c.in-Ok-open_all.ensures.holds (λ clean up. fit),
)

pub returns-in-Ok-rising-clause-stamped : goal.returns-in-Ok-rising-clause-stamped
returns-in-Ok-rising-clause-stamped g c fit = (c.in-Ok.ensures, λ label second is. absurd (let none = is in cc), c.in-Ok-open_all.ensures.holds (λ clean up. fit))

pub returns-in-Err-rising-clause-left : goal.returns-in-Err-rising-clause-left
returns-in-Err-rising-clause-left g c clean fit db left =
    let quiet = c.into_store-in-Err-rising.ensures.quiet in
    let after : HasCleanDisk (state g.S.Store c.close_on.result) = omega (arith, clean, quiet.clean) in
    c.in-Ok-open_all.ensures.crash (subst (λ h. HasCleanDisk (state g.S.Store h)) c.close_on.ensures after) fit db (subst (λ h. (state g.S.Store h).may_leave db) c.close_on.ensures (quiet.outcomes db left))
