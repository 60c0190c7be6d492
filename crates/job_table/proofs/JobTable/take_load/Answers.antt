-- A load that was made ready, and that the outside took, asks its own job alone.
use Rattle.std.proofs.Common.{◌≡◌, ap, sym, ◌∙◌}
use Rattle.job_defs.specs.Keys.{def_of}
use Rattle.job_table.proofs.TakingLemmas.{load_spared}
use Rattle.job_table.proofs.JobTable.take_load.Goals as goal

pub returns-in-Ok-clause-spared : goal.returns-in-Ok-clause-spared
returns-in-Ok-clause-spared c =
    let made = c.in_ok-ready.ensures in
    load_spared c.args.self.now c.prepare_load.new.self c.commit_load.new.self c.in_ok-ready.ready c.args.def.now c.args.writes_setting c.args.force c.args.bind c.args.store
    (ap def_of (sym c.as_bytes.ensures.value) ∙ made.admitted.read) made.writes_setting made.same made.rows c.commit_load.ensures.spared
