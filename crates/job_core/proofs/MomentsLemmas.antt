-- The moments by the facts are those of the past.
use Rattle.std.proofs.Common.{◌≡◌, ℕ, false, refl, sym, ◌∙◌}
use Rattle.history_model.specs.declared.Reading.{Reading as Moment}
use Rattle.history_model.specs.Items.{History}
use Rattle.history_model.specs.Clock.{now}
use Rattle.history_model.specs.Runs.{runs}
use Rattle.history_model.specs.Refusals.{IsLawful}
use Rattle.history_model.specs.Kinds.{is_term_answer, is_kill_answer}
use Rattle.history_model.specs.Facts.{Facts, facts_of}
use Rattle.history_model.specs.FactsOfPast.{Keeps}
use Rattle.history_model.specs.DueByFacts.{may_kill_by, may_term_by}
use Rattle.history_model.specs.NextMomentByFacts.{has_come, coming_period}
use Rattle.history_model.specs.declared.TheConstants.{SECOND}
use Rattle.history_model.proofs.ClockLemmas.{any-within}
use Rattle.job_core.specs.JobMoments.{may_term_when, may_kill_when, AreMoments}
use Rattle.job_core.specs.declared.job.moments.Moments.{Moments}

kill-by : (up : ℕ) (t : History) → IsLawful t → may_kill_when up t ≡ may_kill_by (facts_of t) up
kill-by up t lawful = rw (any-within SECOND up (is_kill_answer false (runs t)) t lawful) refl

term-by : (up : ℕ) (t : History) → IsLawful t → may_term_when up t ≡ may_term_by (facts_of t) up
term-by up t lawful = rw (any-within SECOND up (is_term_answer false (runs t)) t lawful) refl

pub moments-by : (f : Facts) (at : Moment) (m : Moments) → ((up : ℕ) → has_come m.term up ≡ may_term_by f up) → ((up : ℕ) → has_come m.kill up ≡ may_kill_by f up)
    → m.interval ≡ coming_period f.definition.start_interval f.load_up at.up → (past : History) → Keeps f past → at ≡ now past → AreMoments past m
moments-by f at m term kill interval past keeps present = record {
  term = λ up. term up ∙ (λ i. may_term_by (keeps.same i) up) ∙ sym (term-by up past keeps.lawful);
  kill = λ up. kill up ∙ (λ i. may_kill_by (keeps.same i) up) ∙ sym (kill-by up past keeps.lawful);
  interval = interval ∙ (λ i. coming_period (keeps.same i).definition.start_interval (keeps.same i).load_up (present i).up);
}
