-- A setting that was made ready, and that the store took, is made.
use Rattle.job_table.proofs.TakingLemmas.{changed, set_spared}
use Rattle.job_table.proofs.JobTable.take_set.Goals as goal

pub returns-clause-takes : goal.returns-clause-takes
returns-clause-takes c =
    let made = c.in_ok-ready.ensures in
    changed c.args.self.now c.prepare_set.new.self c.commit_set.new.self c.in_ok-ready.ready c.args.job.now c.args.disabled c.args.unload c.args.store c.made.result
    made.label made.disabled made.unload made.admitted c.if-not-store.false made.same c.commit_set.ensures.changes c.made.ensures

pub returns-clause-spared : goal.returns-clause-spared
returns-clause-spared c =
    let made = c.in_ok-ready.ensures in
    set_spared c.args.self.now c.prepare_set.new.self c.commit_set.new.self c.in_ok-ready.ready c.args.job.now c.args.disabled c.args.unload c.args.store
    made.label made.disabled made.unload made.same made.rows c.commit_set.ensures.spared
