-- The refusals of the table, and what the load needs.
use Rattle.std.proofs.Common.{◌≡◌, map, length, ap, sym, subst, ◌∙◌, [], ◌∷◌, arith}
use Rattle.std.specs.Prelude.{Ok, Err, IfOk, Result, is_some}
use Rattle.history_model.specs.declared.Refusal.{Refusal}
use Rattle.history_model.specs.Items.{Loaded}
use Rattle.history_model.specs.FactsOfPast.{Keeps}
use Rattle.history_model.specs.Definitions.{definition}
use Rattle.loaded_jobs.specs.JobSlots.{name, rows}
use Rattle.loaded_jobs.specs.Loads.{IsAbsent, IsReady, IsMade, enabled_if}
use Rattle.loaded_jobs.specs.Sound.{seen_table}
use Rattle.loaded_jobs.specs.Triggers.{triggers_of}
use Rattle.std.specs.Vec.{vec_len}
use Rattle.loaded_jobs.specs.declared.loading.Ready.{Ready}
use Rattle.loaded_jobs.proofs.EnteringLemmas.{names-stay}
use Rattle.loaded_jobs.proofs.EventsLemmas.{alike-state}
use Rattle.loaded_jobs.proofs.LoadsLemmas.{means, some-enabled}
use Rattle.loaded_jobs.proofs.jobs.Jobs.make_ready.Goals as goal

pub returns-in-Err-clause-refused : goal.returns-in-Err-clause-refused
returns-in-Err-clause-refused c =
    means c.in-Err.refusal (λ s bind store keeps.
    let begun = c.begin.new.self in
    let start = alike-state c.args.self.now begun s c.begin.ensures.alike keeps c.begin.ensures.rows in
    c.in-Err.ensures.answer s bind store start)

pub returns-clause-ready : goal.returns-clause-ready
returns-clause-ready c = go c.made.result c.made.ensures.made c.made.ensures.triggers
  where
    go : (r : Result Ready Refusal) → IfOk r (IsMade c.reserve.new.self.reading c.reserve.new.self.numbers c.args.def c.args.writes_setting) → IfOk r (λ ready. ready.triggers ≡ c.in-Ok.triggers) →
        IfOk r (IsReady (seen_table c.reserve.new.self))
    go (Err e) made own = tt
    go (Ok ready) made own =
        let es = c.begin.new.self.job_slots.items in
        record {
          tidy = subst (λ all. length (rows all) ≡ length (map name all)) (sym c.reserve.ensures.job_slots) (names-stay es c.begin.ensures.begun.stay);
          empty = c.reserve.ensures.orders ∙ c.begin.ensures.begun.empty;
          number = made.number;
          numbers = c.in_ok-reserve.ensures.numbers;
          few = let few = c.in_default.ensures.few in let count = c.reserve.ensures.count in omega (arith, few, count);
          places = c.in_ok-reserve.ensures.places;
          orders = c.in_ok-reserve.ensures.room;
          absent = subst (λ l. IsAbsent l (map name c.reserve.new.self.job_slots.items)) (sym (ap (λ d. d.label) made.same)) (subst (λ all. IsAbsent c.args.def.label (map name all)) (sym c.reserve.ensures.job_slots) c.in_default.ensures.absent);
          loaded = subst (λ d. Keeps ready.job_slot.core.facts (Loaded (definition d) c.reserve.new.self.reading ∷ [])) (sym made.same) made.loaded;
          stays = made.stays;
          fresh = made.fresh;
          room = c.in_ok-reserve.ensures.setting;
          moments = c.in_ok-reserve.ensures.moments;
          marks = c.in_ok-reserve.ensures.marks;
          numbered = c.in_ok-reserve.ensures.numbered;
          touches = ap (λ ts. ts.items) own ∙ c.in-Ok.ensures ∙ ap triggers_of (sym made.same);
          triggers = let fits = c.in_ok-reserve.ensures.triggers in let count = c.len.ensures in let same = ap vec_len own in omega (arith, fits, count, same);
          setting = some-enabled ready.setting c.args.writes_setting c.args.def.label made.setting ∙ ap (λ d. enabled_if (is_some ready.setting) d.label) (sym made.same);
        }
