-- What the check of `host::cut` does not find by itself.
use Rattle.job_defs.proofs.HostLemmas.{parts_of}
use Rattle.job_defs.proofs.host.cut.Goals as goal

pub returns : goal.returns
returns c = parts_of _ _ c.split_once.ensures.cases
