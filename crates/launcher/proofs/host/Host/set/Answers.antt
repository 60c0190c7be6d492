-- The turn of a setting, asked about or not.
use Rattle.std.proofs.Common.{◌≡◌, ◌||◌, Bool, true, Some, None, refl, sym, ap, subst, ◌∙◌}
use Rattle.history_model.specs.declared.Refusal.TheVariants.{BadRequest, StoreRefused}
use Rattle.history_model.specs.Machine.{State}
use Rattle.history_model.specs.Acceptance.{refusal_in, refusal_stored}
use Rattle.loaded_jobs.specs.StandsFor.{KeepsState}
use Rattle.loaded_jobs.specs.SettingChanges.{set_of}
use Rattle.launcher.specs.HostTurns.{AreNumbered, trace}
use Rattle.launcher.proofs.NumbersLemmas.{keeps-numbers, same-numbers}
use Rattle.outside.specs.Stores.{HoldsAfter, set_call}
use Rattle.launcher.specs.LoadTurns.{AsksStore, Sets, stamps_after}
use Rattle.launcher.specs.JournaledLines.{set_line}
use Rattle.launcher.proofs.LoadTurnsLemmas.{named-alike, nothing_done, told_unless}
use Rattle.launcher.proofs.SetTurnsLemmas.{bad_label, event_set, never_set, set_calls}
use Rattle.launcher.proofs.host.Host.set.Goals as goal

pub returns-then-not-is_label-clause-turn : goal.returns-then-not-is_label-clause-turn
returns-then-not-is_label-clause-turn g c = λ other s led keeps.
    never_set s c.args.label.now c.args.disabled c.args.unload BadRequest c.args.self.now.table c.args.self.now.table (g.E.Edge.told c.args.self.now.edge) (g.T.SettingStore.told c.args.self.now.store) c.args.self.now.journal c.note_set.new.journal refl
    (λ store. bad_label s c.args.label.now c.args.disabled c.args.unload store (sym c.is_label.ensures ∙ c.if-not-is_label.true)) c.note_set.ensures keeps led

pub returns-then-stored-clause-turn : goal.returns-then-stored-clause-turn
returns-then-stored-clause-turn g c = λ other s led keeps.
    let label = c.args.label.now in
    let kept = c.set-stored.result in
    let event = event_set c.in-Ok.ready.setting.label label c.in-Ok.ready.setting.disabled c.args.disabled c.in-Ok.ready.unload c.args.unload kept c.in-Ok.ensures.label c.in-Ok.ensures.disabled c.in-Ok.ensures.unload in
    let line = set_line label c.args.disabled c.args.unload kept in
    let made : Sets s (set_of label c.args.disabled c.args.unload kept) line c.prepare_set.new.self c.set_ready.new.self.table (trace (g.E.Edge.told c.args.self.now.edge) c.args.self.now.journal) (trace (g.E.Edge.told c.set_ready.new.self.edge) c.set_ready.new.self.journal) =
    subst (λ e. Sets s e line c.prepare_set.new.self c.set_ready.new.self.table (trace (g.E.Edge.told c.args.self.now.edge) c.args.self.now.journal) (trace (g.E.Edge.told c.set_ready.new.self.edge) c.set_ready.new.self.journal)) event
    (c.set_ready.ensures.made s kept line c.args.self.now.journal c.note_set-in-Ok.ensures led (c.in-Ok.ensures.same s keeps) (ap (refusal_in s) event ∙ c.in-Ok.ensures.admitted s kept keeps ∙ ap (refusal_stored true) c.if-stored.true)) in
    let before_it : AreNumbered made.turn.names c.args.self.now.table = named-alike c.args.self.now.table c.prepare_set.new.self made.turn.names c.in-Ok.ensures.rows made.numbers in
    record {
      asks = subst (λ store. AsksStore (refusal_in s (set_of label c.args.disabled c.args.unload true)) (set_call label (c.args.disabled || c.args.unload) s.reading.wall kept) (g.T.SettingStore.told c.args.self.now.store)
          (g.T.SettingStore.told store))
          (sym c.set_ready.ensures.store)
          (set_calls s label c.args.disabled c.args.unload c.in-Ok.ready.setting.disabled kept c.reading-changed.result.wall (g.T.SettingStore.told c.args.self.now.store) (g.T.SettingStore.told c.set-stored.new.self)
          (c.in-Ok.ensures.admitted s true keeps) c.in-Ok.ensures.disabled (ap (λ r. r.wall) (c.reading-changed.ensures.last ∙ keeps.reading)) c.set-stored.ensures.told);
      turn = made.turn;
      numbers = λ none. before_it;
      stays = keeps-numbers made.turn.names c.args.self.now.table c.set_ready.new.self.table before_it (made.turn.numbers refl);
    }

pub returns-else-stored-clause-turn : goal.returns-else-stored-clause-turn
returns-else-stored-clause-turn g c = λ other s led keeps.
    let label = c.args.label.now in
    let kept = c.set-stored.result in
    record {
      asks = set_calls s label c.args.disabled c.args.unload c.in-Ok.ready.setting.disabled kept c.reading-changed.result.wall (g.T.SettingStore.told c.args.self.now.store) (g.T.SettingStore.told c.set-stored.new.self)
          (c.in-Ok.ensures.admitted s true keeps) c.in-Ok.ensures.disabled (ap (λ r. r.wall) (c.reading-changed.ensures.last ∙ keeps.reading)) c.set-stored.ensures.told;
      turn = nothing_done s (set_of label c.args.disabled c.args.unload kept) (set_line label c.args.disabled c.args.unload kept) c.prepare_set.new.self StoreRefused (g.E.Edge.told c.args.self.now.edge)
          c.args.self.now.journal c.note_set-in-Ok.new.journal (c.in-Ok.ensures.admitted s kept keeps ∙ ap (refusal_stored true) c.if-stored.false) c.note_set-in-Ok.ensures (c.in-Ok.ensures.same s keeps) led;
      numbers = λ none. cc;
      stays = same-numbers c.args.self.now.table c.prepare_set.new.self c.in-Ok.ensures.rows;
    }

pub returns-in-Err-clause-turn : goal.returns-in-Err-clause-turn
returns-in-Err-clause-turn g c = λ other s led keeps.
    let refused = told_unless c.in-Err.refusal
    ((s : State) (store : Bool) → KeepsState c.args.self.now.table s → refusal_in s (set_of c.args.label.now c.args.disabled c.args.unload store) ≡ Some c.in-Err.refusal) c.in-Err.ensures.refused other in
    never_set s c.args.label.now c.args.disabled c.args.unload c.in-Err.refusal c.args.self.now.table c.prepare_set.new.self (g.E.Edge.told c.args.self.now.edge) (g.T.SettingStore.told c.args.self.now.store) c.args.self.now.journal c.note_set_refused.new.journal c.in-Err.ensures.rows
    (λ store. refused s store keeps) (c.note_set_refused.ensures.noted other) (c.in-Err.ensures.same s keeps) led

pub returns-then-stored-clause-stamped : goal.returns-then-stored-clause-stamped
returns-then-stored-clause-stamped g c = λ s keeps.
    subst (λ store. HoldsAfter g.T.SettingStore.stamped (stamps_after (Some c.args.label.now) None s.reading.wall) c.args.self.now.store store) (sym c.set_ready.ensures.store)
    (rw c.if-stored.true at (rw (ap (λ r. r.wall) (c.reading-changed.ensures.last ∙ keeps.reading)) at c.set-stored.ensures.stamped))

pub returns-else-stored-clause-stamped : goal.returns-else-stored-clause-stamped
returns-else-stored-clause-stamped g c = λ s keeps. rw c.if-stored.false at c.set-stored.ensures.stamped

pub returns-then-not-is_label-clause-stamped : goal.returns-then-not-is_label-clause-stamped
returns-then-not-is_label-clause-stamped g c = λ s keeps stamps had. had

pub returns-in-Err-clause-stamped : goal.returns-in-Err-clause-stamped
returns-in-Err-clause-stamped g c = λ s keeps stamps had. had
