-- The setting comes before the others, and the job of an unload heard it.
use Rattle.std.proofs.Common.{◌≡◌, Bool, true, false, refl, ap, sym, subst, ◌∙◌, [], ◌∷◌, None}
use Rattle.std.specs.List.{filter, flat_map}
use Rattle.history_model.specs.declared.Refusal.TheVariants.{BadRequest}
use Rattle.history_model.specs.Search.{first, or_else}
use Rattle.history_model.specs.Labels.{Label}
use Rattle.history_model.specs.Machine.{State, UnloadJob, sets}
use Rattle.history_model.specs.Acceptance.{refusal_in, refused_if, refusal_stored}
use Rattle.history_model.specs.Step.{with_orders, orders_of, step_by, outcome_by}
use Rattle.history_model.proofs.StepLemmas.{refused-None, or_else-None}
use Rattle.loaded_jobs.specs.StandsFor.{KeepsSettings, KeepsState, acts_in}
use Rattle.loaded_jobs.specs.SettingChanges.{set_of, IsChanged, withdrawn}
use Rattle.loaded_jobs.specs.Sound.{seen_table}
use Rattle.loaded_jobs.specs.Room.{held_with}
use Rattle.loaded_jobs.specs.Touching.{SparesOthers}
use Rattle.loaded_jobs.specs.declared.jobs.Jobs.{Jobs}
use Rattle.loaded_jobs.proofs.SettingLemmas.{keeps-cons}
use Rattle.loaded_jobs.proofs.jobs.Jobs.change.Goals as goal

-- an unload that writes its setting is refused if one without is
unstored : (s : State) (label : Label) (store : Bool) → refusal_in s (UnloadJob label true store) ≡ None → refusal_in s (UnloadJob label false true) ≡ None
unstored s label store none =
    let named = refused-None _ _ _ none in
    let received = or_else-None _ _ named.1 in
    (λ i. refused_if (named.0 i) BadRequest (or_else (received.0 i) (refusal_stored false true)))

accepts-unload : (s : State) (label : Label) (disabled b store : Bool) → refusal_in s (set_of label disabled b store) ≡ None → b ≡ true → refusal_in s (UnloadJob label false true) ≡ None
accepts-unload s label disabled true store none is = unstored s label store none
accepts-unload s label disabled false store none is = cc

done : (c : goal.After-set) (s : State) (store b : Bool) → KeepsState (seen_table c.args.self.now) s →
    refusal_in s (set_of c.args.ready.setting.label c.args.ready.setting.disabled b store) ≡ None → (b ≡ true → c.args.ready.setting.disabled ≡ true) →
    KeepsState (seen_table c.withdraw.new.self) (with_orders (withdrawn c.args.ready.setting.label b s)) →
    acts_in (seen_table c.withdraw.new.self) ≡ flat_map orders_of (withdrawn c.args.ready.setting.label b s).jobs →
    IsChanged (seen_table (record c.withdraw.new.self { settings = c.set.new.settings })) s (set_of c.args.ready.setting.label c.args.ready.setting.disabled b store)
done c s store b keeps none disables kept orders = go b none disables kept orders
  where
    new : Jobs
    new = record c.withdraw.new.self { settings = c.set.new.settings }

    settings : KeepsSettings c.set.new.settings.items (c.args.ready.setting ∷ s.settings)
    settings = λ l. c.set.ensures.kept l ∙ ap (λ held. first (filter (sets l) (c.args.ready.setting ∷ held.items))) c.withdraw.ensures.alike.settings
        ∙ keeps-cons c.args.ready.setting c.args.self.now.settings.items s.settings keeps.settings l

    go : (b : Bool) → refusal_in s (set_of c.args.ready.setting.label c.args.ready.setting.disabled b store) ≡ None → (b ≡ true → c.args.ready.setting.disabled ≡ true) →
        KeepsState (seen_table c.withdraw.new.self) (with_orders (withdrawn c.args.ready.setting.label b s)) →
        acts_in (seen_table c.withdraw.new.self) ≡ flat_map orders_of (withdrawn c.args.ready.setting.label b s).jobs →
        IsChanged (seen_table new) s (set_of c.args.ready.setting.label c.args.ready.setting.disabled b store)
    go true none disables kept orders =
        let e = set_of c.args.ready.setting.label c.args.ready.setting.disabled true store in record {
          kept = subst (KeepsState (seen_table new)) (sym (ap (λ o. step_by o s e) none)) (record {
            reading = kept.reading;
            zone = kept.zone;
            settings = λ l. settings l ∙ ap (λ v. first (filter (sets l) (record { label = c.args.ready.setting.label; disabled = v } ∷ s.settings))) (disables refl);
            shutdown = kept.shutdown;
            jobs = kept.jobs;
            rests = kept.rests;
          });
          outcome = ap (λ o. outcome_by o s e) none ∙ (λ i. record { refusal = None; orders = sym orders i; text = [] });
        }
    go false none disables kept orders =
        let e = set_of c.args.ready.setting.label c.args.ready.setting.disabled false store in record {
          kept = subst (KeepsState (seen_table new)) (sym (ap (λ o. step_by o s e) none)) (record {
            reading = kept.reading;
            zone = kept.zone;
            settings = settings;
            shutdown = kept.shutdown;
            jobs = kept.jobs;
            rests = kept.rests;
          });
          outcome = ap (λ o. outcome_by o s e) none ∙ (λ i. record { refusal = None; orders = sym orders i; text = [] });
        }

pub returns-clause-goes : goal.returns-clause-goes
returns-clause-goes c = record {
  kept = λ s store keeps none.
      let label = c.args.ready.setting.label in
      let unload = c.args.ready.unload in
      let allowed : unload ≡ true → refusal_in s (UnloadJob c.as_str.result.now false true) ≡ None =
      λ is. subst (λ l. refusal_in s (UnloadJob l false true) ≡ None) (sym c.as_str.ensures) (accepts-unload s label c.args.ready.setting.disabled unload store none is) in
      done c s store unload keeps none c.requires.ready.disables
      (subst (λ l. KeepsState (seen_table c.withdraw.new.self) (with_orders (withdrawn l unload s))) c.as_str.ensures (c.withdraw.ensures.kept s keeps allowed))
      (subst (λ l. acts_in (seen_table c.withdraw.new.self) ≡ flat_map orders_of (withdrawn l unload s).jobs) c.as_str.ensures (c.withdraw.ensures.orders s keeps allowed));
  counted = c.withdraw.ensures.counted;
  spared = λ store.
      subst (λ l. SparesOthers (set_of l c.args.ready.setting.disabled c.args.ready.unload store) (seen_table c.args.self.now) (seen_table c.withdraw.new.self)) c.as_str.ensures
      (c.withdraw.ensures.spared c.args.ready.setting.disabled store);
  names = c.withdraw.ensures.names;
  room =
      let room = c.withdraw.ensures.room in
      record {
        jobs = room.jobs;
        orders = room.orders;
        settings = c.set.ensures.room ∙ room.settings;
        numbers = room.numbers;
        moments = room.moments;
        marks = room.marks;
        places = room.places;
        triggers = room.triggers;
      };
  held = c.set.ensures.held ∙ ap (λ held. held_with c.args.ready.setting.label held.items) c.withdraw.ensures.alike.settings;
}
