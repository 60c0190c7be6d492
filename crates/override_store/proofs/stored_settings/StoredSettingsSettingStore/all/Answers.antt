-- The answers to the goals of `stored_settings::StoredSettingsSettingStore::all`.
use Rattle.std.proofs.Common.{reverse}
use Rattle.override_store.proofs.stored_settings.StoredSettingsSettingStore.all.Goals as goal

pub returns-in-Ok : goal.returns-in-Ok
returns-in-Ok g c = record {
  told = λ after is. cc;
  same = c.in-Ok.ensures.holds;
  kept = c.in-Ok.ensures.stamped;
  answers = tt;
  gives = λ settings holds clean up. c.in-Ok.ensures.holds (reverse c.in-Ok.all.items) (λ early up_before. ((holds early up_before).0, c.in-Ok.ensures.each clean (holds early up_before).0)) clean up;
}

pub returns-in-Err : goal.returns-in-Err
returns-in-Err g c = record {
  told = λ after is. cc;
  same = c.in-Err.ensures.holds;
  kept = c.in-Err.ensures.stamped;
  answers = tt;
  gives = tt;
}
