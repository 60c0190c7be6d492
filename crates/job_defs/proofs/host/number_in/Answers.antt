-- What the check of `host::number_in` does not find by itself.
use Rattle.std.proofs.Common.{◌∙◌, ◌<◌, ◌≤◌, length, rules}
use Rattle.job_defs.proofs.HostLemmas.{number_is}
use Rattle.job_defs.proofs.host.number_in.Goals as goal

pub returns : goal.returns
returns c =
    let some : 0 < length c.args.text.now = search rules in
    let few : length c.args.text.now ≤ c.args.most = search rules in
    c.ok.ensures.value ∙ number_is c.args.most c.args.text.now c.parse.result c.parse.ensures.value.0 c.requires some few (search rules)
