-- The answers to the goals of `lasting_settings::LastingSettingsSettingStore::set`.
use Rattle.std.proofs.Common.{true, false}
use Rattle.override_store.proofs.LastingLemmas.{kept_last, kept_stamps}
use Rattle.override_store.proofs.lasting_settings.LastingSettingsSettingStore.set.Goals as goal

pub returns-in-Ok : goal.returns-in-Ok
returns-in-Ok g c =
    let old = c.args.self.now in
    let new = c.keep.new.self in
    record {
      told = λ after is. cc;
      stored = kept_last g.S.Store c.args.label.now c.args.disabled c.args.changed old.known.items new.known.items old.pattern new.pattern old.store new.store c.keep.ensures.pattern true (λ e. cc) (λ e. c.in-Ok.ensures.told) (λ e. c.in-Ok.ensures.made);
      stamped = kept_stamps g.S.Store c.args.label.now c.args.disabled c.args.changed old.known.items new.known.items old.pattern new.pattern old.store new.store c.keep.ensures.pattern true (λ e. cc) (λ e. c.in-Ok.ensures.told) (λ e. c.in-Ok.ensures.made);
    }

pub returns-in-Err : goal.returns-in-Err
returns-in-Err g c =
    let old = c.args.self.now in
    let new = c.keep.new.self in
    record {
      told = λ after is. cc;
      stored = kept_last g.S.Store c.args.label.now c.args.disabled c.args.changed old.known.items new.known.items old.pattern new.pattern old.store new.store c.keep.ensures.pattern false (λ e. c.in-Err.ensures.refused) (λ e. cc) (λ e. cc);
      stamped = kept_stamps g.S.Store c.args.label.now c.args.disabled c.args.changed old.known.items new.known.items old.pattern new.pattern old.store new.store c.keep.ensures.pattern false (λ e. c.in-Err.ensures.refused) (λ e. cc) (λ e. cc);
    }
