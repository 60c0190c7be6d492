-- A job with a child waits by its time.
use Rattle.std.proofs.Common.{sym, subst, ◌∙◌}
use Rattle.loaded_jobs.specs.Waking.{HasMoments}
use Rattle.jobd.proofs.KillWaitsLemmas.{waits-by, waits-none}
use Rattle.jobd.proofs.kill_waits.waits.Goals as goal

pub returns-in-None : goal.returns-in-None
returns-in-None c = λ past run has child. waits-none c.args.up past (subst (HasMoments past) c.in-None.is has)

pub returns-in-Some : goal.returns-in-Some
returns-in-Some c = λ past run has child.
    waits-by c.args.up past c.in-Some.moments run (subst (HasMoments past) c.in-Some.is has) child ∙ sym c.is_to_come.ensures
