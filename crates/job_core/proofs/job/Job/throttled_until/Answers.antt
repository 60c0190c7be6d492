-- The throttle's end is known by the moments before it.
use Rattle.std.proofs.Common.{◌≡◌, true, cond, Some, None, nat_lt, sym, ap, ◌∙◌, arith}
use Rattle.std.proofs.lemmas.Bool.Decides.{nat_tests}
use Rattle.history_model.specs.DueByFacts.{is_throttled_by}
use Rattle.history_model.specs.ReasonsByFacts.{free_by}
use Rattle.history_model.proofs.ReasonsLemmas.{free-unique}
use Rattle.job_core.specs.JobFields.{facts}
use Rattle.job_core.proofs.job.Job.throttled_until.Goals as goal

pub returns-then-up-free : goal.returns-then-up-free
returns-then-up-free c =
    let f = facts c.args.self.now in
    let before = c.if-up-free.true in
    let less : nat_lt c.args.up c.free_at-free.result ≡ true = grind (arith, nat_tests, before) in
    let throttled : is_throttled_by f c.args.up ≡ true = sym (c.free_at-free.ensures.step c.args.up) ∙ less in
    ap Some (free-unique f c.free_at-free.result c.free_at-free.ensures.step) ∙ (λ i. cond (sym throttled i) (Some (free_by f)) None)
