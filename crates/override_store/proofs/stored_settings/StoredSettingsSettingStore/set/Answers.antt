-- The answers to the goals of `stored_settings::StoredSettingsSettingStore::set`.
use Rattle.override_store.proofs.stored_settings.StoredSettingsSettingStore.set.Goals as goal

pub returns-in-Ok : goal.returns-in-Ok
returns-in-Ok g c = record {
  told = λ after is. cc;
  stored = λ settings holds. (c.in-Ok.ensures.holds settings holds).0;
  stamped = λ stamps holds. (c.in-Ok.ensures.stamped stamps holds).0;
}

pub returns-in-Err : goal.returns-in-Err
returns-in-Err g c = record {
  told = λ after is. cc;
  stored = λ settings holds. (c.in-Err.ensures.holds settings holds).1;
  stamped = λ stamps holds. (c.in-Err.ensures.stamped stamps holds).1;
}
