-- The answers to the goals of `lasting_settings::LastingSettingsSettingStore::all`.
use Rattle.std.proofs.Common.{sym, ap, ◌∙◌}
use Rattle.override_store.specs.Settings.{setting_in}
use Rattle.override_store.specs.KnownSettings.{settings_of}
use Rattle.override_store.proofs.lasting_settings.LastingSettingsSettingStore.all.Goals as goal

pub returns-in-Ok : goal.returns-in-Ok
returns-in-Ok g c = record {
  told = λ after is. cc;
  same = λ settings holds. holds;
  kept = λ stamps had. had;
  answers = tt;
  gives = λ settings holds. (holds.0, λ l. ap (λ known. setting_in (settings_of known) l) (sym c.as_slice.ensures.value) ∙ ap (λ xs. setting_in xs l) (sym c.in-Ok.ensures), holds.2);
}

pub returns-in-Err : goal.returns-in-Err
returns-in-Err g c = record {
  told = λ after is. cc;
  same = λ settings holds. holds;
  kept = λ stamps had. had;
  answers = tt;
  gives = tt;
}
