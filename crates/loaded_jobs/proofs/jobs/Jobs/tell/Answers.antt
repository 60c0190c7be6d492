-- The one job at the place is told, and then asked.
use Rattle.std.proofs.Common.{◌≡◌, refl, ap, subst, sym, ◌∙◌, Some, rules}
use Rattle.std.specs.Prelude.{Err}
use Rattle.history_model.specs.Acceptance.{refusal_at}
use Rattle.history_model.specs.JobItems.{item_of}
use Rattle.loaded_jobs.specs.Counts.{counts, count_in}
use Rattle.loaded_jobs.specs.Index.{ArePlaced}
use Rattle.loaded_jobs.specs.Sound.{seen_table}
use Rattle.loaded_jobs.specs.Telling.{IsTold}
use Rattle.loaded_jobs.proofs.EventsLemmas.{head, own-jobs}
use Rattle.loaded_jobs.proofs.NumbersLemmas.{names-begun}
use Rattle.loaded_jobs.proofs.IndexGrowthLemmas.{refused-whole}
use Rattle.loaded_jobs.proofs.PlacesLemmas.{is-absent}
use Rattle.loaded_jobs.proofs.TouchedLemmas.{handed-on, placed-names, timed-but, others-spared}
use Rattle.loaded_jobs.proofs.jobs.Jobs.tell.Goals as goal

pub ask_at-requires-clause-can : goal.ask_at-requires-clause-can
ask_at-requires-clause-can c =
    let old = c.args.self.now in
    let received = c.hand_at.new.self in
    record {
      sound = c.hand_at.ensures.sound;
      stay = c.hand_at.ensures.stay;
      empty = ap (λ orders. orders.items) c.hand_at.ensures.orders ∙ c.requires.begun.empty;
      placed = placed-names received.index.places.items old.job_slots.items received.job_slots.items c.hand_at.ensures.names
          (subst (λ i. ArePlaced i.places.items old.job_slots.items) (sym c.hand_at.ensures.index) c.requires.begun.whole.indexed.placed);
      timed = timed-but old received c.in-Some.place c.hand_at.ensures.others c.requires.begun.whole.indexed c.hand_at.ensures.index c.hand_at.ensures.alike.reading;
    }

pub ask_at-requires-clause-inside : goal.ask_at-requires-clause-inside
ask_at-requires-clause-inside c = c.hand_at.ensures.others.inside

pub returns-in_default-clause-told : goal.returns-in_default-clause-told
returns-in_default-clause-told c = λ label at.
    let old = c.args.self.now in record {
      answer = λ s keeps. ap (λ found. refusal_at found (item_of c.args.item))
          (sym (is-absent old.reading label old.job_slots.items s.jobs c.requires.begun.stay (own-jobs old s keeps) (sym c.in_default.is ∙ at)));
      asked = tt;
      same = refl;
      spared = λ other differ. refl;
    }

pub returns-in_err-hand_at-clause-told : goal.returns-in_err-hand_at-clause-told
returns-in_err-hand_at-clause-told c = λ label at.
    let old = c.args.self.now in
    let refusal = c.in_err-hand_at.field-0.0 in
    let same : c.from_residual.result ≡ Err refusal = search rules in
    let told : IsTold label (item_of c.args.item) (seen_table old) (Err refusal) (seen_table c.hand_at.new.self) = record {
      answer = λ s keeps. c.in_err-hand_at.ensures.answer label s.jobs (sym c.in-Some.is ∙ at) (own-jobs old s keeps);
      asked = tt;
      same = c.in_err-hand_at.ensures.rows;
      spared = λ other differ. ap (λ rs. count_in (counts rs) other) c.in_err-hand_at.ensures.rows;
    } in
    subst (λ r. IsTold label (item_of c.args.item) (seen_table old) r (seen_table c.hand_at.new.self)) (sym same) told

pub returns-in_err-hand_at-clause-whole : goal.returns-in_err-hand_at-clause-whole
returns-in_err-hand_at-clause-whole c =
    refused-whole c.args.self.now c.hand_at.new.self c.requires.begun.whole c.requires.begun.stay c.hand_at.ensures.sound c.hand_at.ensures.stay c.in_err-hand_at.ensures.rows c.hand_at.ensures.index c.hand_at.ensures.alike.reading

pub returns-clause-told : goal.returns-clause-told
returns-clause-told c = λ label at.
    let old = c.args.self.now in
    let received = c.hand_at.new.self in
    let new = c.ask_at.new.self in
    let place = c.in-Some.place in
    let item = item_of c.args.item in
    let there : Some place ≡ _ = sym c.in-Some.is ∙ at in
    record {
      answer = λ s keeps. c.in_ok-hand_at.ensures.answer label s.jobs there (own-jobs old s keeps);
      asked = λ s keeps.
          let same = head old received s c.hand_at.ensures.alike keeps in
          handed-on old received new s (record s { jobs = _ }) label item place keeps c.requires.begun.stay c.hand_at.ensures.alike c.ask_at.ensures.alike
          (record { reading = same.reading; zone = same.zone; settings = same.settings; shutdown = same.shutdown }) refl (c.hand_at.ensures.place label there)
          (λ jobs held. c.in_ok-hand_at.ensures.kept label jobs there held) c.ask_at.ensures.kept c.ask_at.ensures.orders;
      same = tt;
      spared = others-spared old received new label place (c.hand_at.ensures.place label there) c.ask_at.ensures.spared c.hand_at.ensures.counts;
    }

pub returns-clause-names : goal.returns-clause-names
returns-clause-names c =
    let es = c.args.self.now.job_slots.items in c.ask_at.ensures.names ∙ c.hand_at.ensures.names ∙ names-begun es es c.requires.begun.stay refl
